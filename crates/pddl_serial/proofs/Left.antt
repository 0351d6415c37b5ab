-- A serial run, one step further.
use Rattle.std.proofs.Common.{◌≡◌, ℕ, suc, ◌+◌, ◌<◌, Bool, false, List, [], ◌∷◌, sym, ap, ◌∙◌, arith, length, get_or, drop, subst, add-one, drop-cons}
use Rattle.std.proofs.lemmas.List.Sums.{sum_by-cons}
use Rattle.pddl_happenings.specs.Accepted.{IsReady, after, after_all, cost_of, cost_of_all}
use Rattle.pddl_happenings.specs.Happenings.{singles}
use Rattle.pddl_happenings.specs.Serialisations.{FailsAt, RunsSerially}
use Rattle.pddl_happenings.specs.Steps.{Step}

module _ {A : Type 0} (p : ℕ → Step A) (start here : A → Bool) (order : List ℕ) (i : ℕ) (h : i < length order) where
  next : drop i order ≡ get_or order i 0 ∷ drop (i + 1) order
  next = rw (add-one, drop-cons order i 0)

  pub runs_more : (RunsSerially p here (drop i order) → RunsSerially p start order) → IsReady p here (get_or order i 0) → RunsSerially p (after p here (get_or order i 0 ∷ [])) (drop (i + 1) order) → RunsSerially p start order
  runs_more so_far ready rest = so_far (rw next (ready, rest))

  pub ends_more : after_all p here (singles (drop i order)) ≡ after_all p start (singles order) → after_all p (after p here (get_or order i 0 ∷ [])) (singles (drop (i + 1) order)) ≡ after_all p start (singles order)
  ends_more so_far = sym (ap (λ l. after_all p here (singles l)) next) ∙ so_far

  pub fails_more : ((k : ℕ) → FailsAt p here (drop i order) k → FailsAt p start order (i + k)) → IsReady p here (get_or order i 0) → (k : ℕ) → FailsAt p (after p here (get_or order i 0 ∷ [])) (drop (i + 1) order) k → FailsAt p start order ((i + 1) + k)
  fails_more so_far ready k rest =
      let at : i + suc k ≡ (i + 1) + k = omega arith in
      let f : FailsAt p here (drop i order) (suc k) = rw next (ready, rest) in
      subst (FailsAt p start order) at (so_far (suc k) f)

  pub fails_here : ((k : ℕ) → FailsAt p here (drop i order) k → FailsAt p start order (i + k)) → (p (get_or order i 0)).ready here ≡ false → FailsAt p start order i
  fails_here so_far off =
      let at : i + 0 ≡ i = omega arith in
      let f : FailsAt p here (drop i order) 0 = rw next off in
      subst (FailsAt p start order) at (so_far 0 f)

  pub costs_more : (cost spent : ℕ) → cost + cost_of_all p here (singles (drop i order)) ≡ cost_of_all p start (singles order) → spent ≡ (p (get_or order i 0)).cost here → (cost + spent) + cost_of_all p (after p here (get_or order i 0 ∷ [])) (singles (drop (i + 1) order)) ≡ cost_of_all p start (singles order)
  costs_more cost spent so_far is =
      let e : cost_of_all p here (singles (drop i order)) ≡ cost_of p here (get_or order i 0 ∷ []) + cost_of_all p (after p here (get_or order i 0 ∷ [])) (singles (drop (i + 1) order)) = ap (λ l. cost_of_all p here (singles l)) next in
      let one : cost_of p here (get_or order i 0 ∷ []) ≡ (p (get_or order i 0)).cost here + 0 = sum_by-cons (λ h. (p h).cost here) (get_or order i 0) [] in
      omega (arith, e, one, so_far, is)
