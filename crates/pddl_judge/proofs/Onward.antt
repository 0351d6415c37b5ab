-- Happenings one after another, one further.
use Rattle.std.proofs.Common.{zero, [], ◌++◌, ◌≡◌, ℕ, suc, ◌+◌, ◌*◌, ◌≤◌, ◌<◌, Bool, List, ◌∷◌, sym, ap, ◌∙◌, arith, length, get_or, drop, subst, length-append}
use Rattle.std.specs.List.{AllByRecursion, concat}
use Rattle.std.specs.Prelude.{All}
use Rattle.std.proofs.lemmas.List.Elements.{All-from_recursion}
use Rattle.std.proofs.lemmas.List.{drop_all}
use Rattle.pddl_happenings.proofs.Copies.{number_within}
use Rattle.pddl_happenings.proofs.Prefixes.{front_of}
use Rattle.pddl_happenings.proofs.TurnsTaken.{all_listed}
use Rattle.pddl_happenings.specs.Accepted.{AllFine, IsFine, after, after_all, cost_of, cost_of_all}
use Rattle.pddl_happenings.specs.Failures.{AtHappening, IsFirstClash, IsFirstUnready}
use Rattle.pddl_happenings.specs.Happenings.{HaveEachOnce, numbers_to}
use Rattle.pddl_happenings.specs.Steps.{Step}
use Rattle.pddl_judge.proofs.Overlaps.{next}
use Rattle.pddl_judge.specs.HappeningValues.{HappeningValue, groups_of}
use Rattle.pddl_judge.specs.Stages.{FailsBy, IsRefusedBy}
use Rattle.pddl_judge.specs.Verdicts.{IsLeast}
use Rattle.pddl_judge.specs.declared.refusal.Refusal.{Refusal}
use Rattle.pddl_judge.specs.declared.refusal.Refusal.TheVariants.{Precondition, Interference, Goal}
use Rattle.pddl_state.specs.Atoms.{AtomValue}

module _ {A : Type 0} (p : ℕ → Step A) (start here there : A → Bool) (items : List HappeningValue) (h : ℕ) (d : HappeningValue) (at : d ≡ get_or items h d) (lt : h < length items) (whole : List (List ℕ)) where
  abbrev left : List (List ℕ)
  left = groups_of (drop h items)

  abbrev rest : List (List ℕ)
  rest = groups_of (drop (h + 1) items)

  pub left_is : left ≡ d.steps ∷ rest
  left_is = ap groups_of (next items h d at lt)

  pub at_here : (P : (A → Bool) → List ℕ → Type 0) → ((n : ℕ) → AtHappening p P here left n → AtHappening p P start whole (h + n)) → P here d.steps → AtHappening p P start whole h
  at_here P so_far one =
      let e : h + 0 ≡ h = omega arith in
      subst (AtHappening p P start whole) e (so_far 0 (subst (λ l. AtHappening p P here l 0) (sym left_is) one))

  pub room_more : (cost spent most : ℕ) → cost + length (concat left) * 18446744073709551616000000 ≤ most → spent ≤ length d.steps * 18446744073709551616000000 → (cost + spent) + length (concat rest) * 18446744073709551616000000 ≤ most
  room_more cost spent most so_far bound =
      let e : length (concat left) ≡ length d.steps + length (concat rest) = ap (λ l. length (concat l)) left_is ∙ length-append d.steps (concat rest) in
      omega (arith, e, so_far, bound)

  pub few_more : (most : ℕ) → length (concat left) ≤ most → (length d.steps ≤ most) × (length (concat rest) ≤ most)
  few_more most so_far =
      let e : length (concat left) ≡ length d.steps + length (concat rest) = ap (λ l. length (concat l)) left_is ∙ length-append d.steps (concat rest) in
      (omega (arith, e, so_far), omega (arith, e, so_far))

  module _ (is : there ≡ after p here d.steps) where
    pub fine_more : (AllFine p here left → AllFine p start whole) → IsFine p here d.steps → AllFine p there rest → AllFine p start whole
    fine_more so_far one more = so_far (subst (AllFine p here) (sym left_is) (one, subst (λ s. AllFine p s rest) is more))

    pub end_more : after_all p here left ≡ after_all p start whole → after_all p there rest ≡ after_all p start whole
    end_more so_far = ap (λ s. after_all p s rest) is ∙ (ap (after_all p here) (sym left_is) ∙ so_far)

    pub cost_more : (cost spent : ℕ) → cost + cost_of_all p here left ≡ cost_of_all p start whole → spent ≡ cost_of p here d.steps → (cost + spent) + cost_of_all p there rest ≡ cost_of_all p start whole
    cost_more cost spent so_far is_spent =
        let e : cost_of_all p here left ≡ cost_of p here d.steps + cost_of_all p (after p here d.steps) rest = ap (cost_of_all p here) left_is in
        let f : cost_of_all p there rest ≡ cost_of_all p (after p here d.steps) rest = ap (λ s. cost_of_all p s rest) is in
        omega (arith, e, f, so_far, is_spent)

    pub at_more : (P : (A → Bool) → List ℕ → Type 0) → ((n : ℕ) → AtHappening p P here left n → AtHappening p P start whole (h + n)) → IsFine p here d.steps → (n : ℕ) → AtHappening p P there rest n → AtHappening p P start whole ((h + 1) + n)
    at_more P so_far one n more =
        let e : h + suc n ≡ (h + 1) + n = omega arith in
        subst (AtHappening p P start whole) e (so_far (suc n) (subst (λ l. AtHappening p P here l (suc n)) (sym left_is) (one, subst (λ s. AtHappening p P s rest n) is more)))

-- the first of what is left fails, and so do all of them
module _ {B : Type 0} (p : ℕ → Step AtomValue) (goal : (AtomValue → Bool) → Bool) (start here : AtomValue → Bool) (items : List HappeningValue) (h : ℕ) (d : HappeningValue) (at : d ≡ get_or items h d) (lt : h < length items) (whole : List (List ℕ)) where
  pub refused_here : (f : Refusal B)
      → ((step n : ℕ) → AtHappening p (λ s q. IsFirstUnready p s q step) here (groups_of (drop h items)) n → AtHappening p (λ s q. IsFirstUnready p s q step) start whole (h + n))
      → ((first second : ℕ) (a : AtomValue) (n : ℕ) → AtHappening p (λ s q. IsFirstClash p (IsLeast a) s q first second) here (groups_of (drop h items)) n → AtHappening p (λ s q. IsFirstClash p (IsLeast a) s q first second) start whole (h + n))
      → FailsBy p here d.steps h f → IsRefusedBy p goal start whole f
  refused_here (Precondition n step) unready clashes fails = subst (AtHappening p (λ s q. IsFirstUnready p s q step) start whole) (sym fails.0) (at_here p start here here items h d at lt whole (λ s q. IsFirstUnready p s q step) (unready step) fails.1)
  refused_here (Interference n first second a) unready clashes fails = subst (AtHappening p (λ s q. IsFirstClash p (IsLeast a) s q first second) start whole) (sym fails.0) (at_here p start here here items h d at lt whole (λ s q. IsFirstClash p (IsLeast a) s q first second) (clashes first second a) fails.1)
  refused_here Goal unready clashes fails = absurd fails

-- nothing is left of happenings at their end
pub fine_at_end : {A : Type 0} (p : ℕ → Step A) (here : A → Bool) (items : List HappeningValue) (h : ℕ) → length items ≤ h → AllFine p here (groups_of (drop h items))
fine_at_end p here items h done = subst (λ l. AllFine p here (groups_of l)) (sym (drop_all h items done)) tt

-- the steps of a happening are below the count of all
pub steps_within : (n : ℕ) (items : List HappeningValue) (h : ℕ) (d : HappeningValue) → d ≡ get_or items h d → h < length items → HaveEachOnce n (groups_of items) → All (λ k. k < n) d.steps
steps_within n items h d at lt each =
    All-from_recursion (λ k. k < n) d.steps (part items h d at lt (all_listed (λ k. k < n) (concat (groups_of items)) (numbers_to 0 n) each (λ k on. let w = number_within k 0 n on in omega (arith, w.1))))
  where
    part : (items : List HappeningValue) (h : ℕ) (d : HappeningValue) → d ≡ get_or items h d → h < length items → AllByRecursion (λ k. k < n) (concat (groups_of items)) → AllByRecursion (λ k. k < n) d.steps
    part [] h d at lt all = absurd (omega (arith, lt))
    part (x ∷ items) zero d at lt all = subst (λ y. AllByRecursion (λ k. k < n) y.steps) (sym at) (front_of (λ k. k < n) x.steps (concat (groups_of items)) all)
    part (x ∷ items) (suc h) d at lt all = part items h d at (omega (arith, lt)) (back_of x.steps (concat (groups_of items)) all)
      where
        back_of : (xs ys : List ℕ) → AllByRecursion (λ k. k < n) (xs ++ ys) → AllByRecursion (λ k. k < n) ys
        back_of [] ys all = all
        back_of (y ∷ xs) ys all = back_of xs ys all.1
