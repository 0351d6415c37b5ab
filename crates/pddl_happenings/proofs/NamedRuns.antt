-- Steps by numbers and steps by names do the same.
use Rattle.std.proofs.Common.{arith, ◌≡◌, ◌↔◌, ℕ, zero, suc, ◌+◌, Bool, false, ◌&&◌, ◌||◌, List, [], ◌∷◌, refl, sym, ap, ◌∙◌, subst, inl, inr}
use Rattle.std.specs.List.{list_any}
use Rattle.std.proofs.lemmas.Bool.{cases_Bool}
use Rattle.std.proofs.lemmas.List.Elements.{All-contains}
use Rattle.pddl_happenings.proofs.Members.{All-from_contains, any_agree, sum_agree}
use Rattle.pddl_happenings.proofs.TimedHappenings.{all_weaker}
use Rattle.pddl_happenings.specs.Accepted.{AllFine, IsAcceptedRun, IsFine, IsReady, NoClash, NotAccepted, after, after_all, cost_of, cost_of_all}
use Rattle.pddl_happenings.specs.Failures.{AtHappening, FirstAt, FirstPairAt, Has, IsFirstClash, IsFirstUnready}
use Rattle.pddl_happenings.specs.NamedSteps.{DoAsNamed, by_name}
use Rattle.pddl_happenings.specs.Steps.{Step, changes, clash}

changed : (a d kr b e hr : Bool) → (a || d) ≡ false → (b || e) ≡ false → (((a || d) && kr) || (((b || e) && hr) || ((a && e) || (b && d)))) ≡ false
changed a d kr b e hr h k = grind arith

module _ {A B : Type 0} (number : B → A) (p : ℕ → Step A) (q : ℕ → Step B) (same : DoAsNamed number p q) where
  after_named : (s : A → Bool) (g : List ℕ) → by_name number (after p s g) ≡ after q (by_name number s) g
  after_named s g = λ i b. (at b) i
    where
      at : (b : B) → after p s g (number b) ≡ after q (by_name number s) g b
      at b =
          let dels : list_any (λ h. (p h).dels s (number b)) g ≡ list_any (λ h. (q h).dels (by_name number s) b) g = any_agree _ _ g (λ h c. (same h).dels s b) in
          let adds : list_any (λ h. (p h).adds s (number b)) g ≡ list_any (λ h. (q h).adds (by_name number s) b) g = any_agree _ _ g (λ h c. (same h).adds s b) in
          cc

  cost_named : (s : A → Bool) (g : List ℕ) → cost_of p s g ≡ cost_of q (by_name number s) g
  cost_named s g = sum_agree _ _ g (λ h c. (same h).cost s)

  clash_named : (s : A → Bool) (h k : ℕ) (b : B) → clash (p h) (p k) s (number b) ≡ clash (q h) (q k) (by_name number s) b
  clash_named s h k b =
      let ha = (same h).adds s b in
      let hd = (same h).dels s b in
      let hr = (same h).reads b in
      let ka = (same k).adds s b in
      let kd = (same k).dels s b in
      let kr = (same k).reads b in
      cc

  no_clash_named : (s : A → Bool) (h k : ℕ) → NoClash p s h k → NoClash q (by_name number s) h k
  no_clash_named s h k none b = sym (clash_named s h k b) ∙ none (number b)

  no_clash_numbered : (s : A → Bool) (h k : ℕ) → NoClash q (by_name number s) h k → NoClash p s h k
  no_clash_numbered s h k none a = elim (cases_Bool (changes (p h) s a)) [
    | inl on ↦ by (((same h).named s a on).0) (((same h).named s a on).1)
    | inr off ↦ elim (cases_Bool (changes (p k) s a)) [
      | inl on ↦ by (((same k).named s a on).0) (((same k).named s a on).1)
      | inr away ↦ changed ((p h).adds s a) ((p h).dels s a) ((p k).reads a) ((p k).adds s a) ((p k).dels s a) ((p h).reads a) off away
    ]
  ]
    where
      by : (b : B) → a ≡ number b → clash (p h) (p k) s a ≡ false
      by b is = ap (λ x. clash (p h) (p k) s x) is ∙ (clash_named s h k b ∙ none b)

  fine_named : (s : A → Bool) (g : List ℕ) → IsFine p s g → IsFine q (by_name number s) g
  fine_named s g fine = record {
    ready = All-from_contains (IsReady q (by_name number s)) g (λ k c. sym ((same k).ready s) ∙ All-contains (IsReady p s) g k fine.ready c);
    apart = λ h k c d ne. no_clash_named s h k (fine.apart h k c d ne);
  }

  fine_numbered : (s : A → Bool) (g : List ℕ) → IsFine q (by_name number s) g → IsFine p s g
  fine_numbered s g fine = record {
    ready = All-from_contains (IsReady p s) g (λ k c. (same k).ready s ∙ All-contains (IsReady q (by_name number s)) g k fine.ready c);
    apart = λ h k c d ne. no_clash_numbered s h k (fine.apart h k c d ne);
  }

  all_fine_named : (s : A → Bool) (gs : List (List ℕ)) → AllFine p s gs → AllFine q (by_name number s) gs
  all_fine_named s [] fine = tt
  all_fine_named s (g ∷ gs) fine = (fine_named s g fine.0, subst (λ t. AllFine q t gs) (after_named s g) (all_fine_named (after p s g) gs fine.1))

  all_fine_numbered : (s : A → Bool) (gs : List (List ℕ)) → AllFine q (by_name number s) gs → AllFine p s gs
  all_fine_numbered s [] fine = tt
  all_fine_numbered s (g ∷ gs) fine = (fine_numbered s g fine.0, all_fine_numbered (after p s g) gs (subst (λ t. AllFine q t gs) (sym (after_named s g)) fine.1))

  pub fine_alike : (s : A → Bool) (gs : List (List ℕ)) → AllFine p s gs ↔ AllFine q (by_name number s) gs
  fine_alike s gs = (all_fine_named s gs, all_fine_numbered s gs)

  pub end_alike : (s : A → Bool) (gs : List (List ℕ)) → by_name number (after_all p s gs) ≡ after_all q (by_name number s) gs
  end_alike s [] = refl
  end_alike s (g ∷ gs) = end_alike (after p s g) gs ∙ ap (λ t. after_all q t gs) (after_named s g)

  pub cost_alike : (s : A → Bool) (gs : List (List ℕ)) → cost_of_all p s gs ≡ cost_of_all q (by_name number s) gs
  cost_alike s [] = refl
  cost_alike s (g ∷ gs) = ap (λ n. n + cost_of_all p (after p s g) gs) (cost_named s g) ∙ ap (λ n. cost_of q (by_name number s) g + n) (cost_alike (after p s g) gs ∙ ap (λ t. cost_of_all q t gs) (after_named s g))

  module _ (goal : (A → Bool) → Bool) (named_goal : (B → Bool) → Bool) (goals : (t : A → Bool) → goal t ≡ named_goal (by_name number t)) where
    pub accepted_named : (s end : A → Bool) (cost : ℕ) (gs : List (List ℕ)) → IsAcceptedRun p goal s gs end cost → IsAcceptedRun q named_goal (by_name number s) gs (by_name number end) cost
    accepted_named s end cost gs run = record {
      fine = all_fine_named s gs run.fine;
      end_is = ap (by_name number) run.end_is ∙ end_alike s gs;
      goal_holds = sym (goals end) ∙ run.goal_holds;
      cost_is = run.cost_is ∙ cost_alike s gs;
    }

    pub refused_named : (s : A → Bool) (gs : List (List ℕ)) → NotAccepted p goal s gs → NotAccepted q named_goal (by_name number s) gs
    refused_named s gs none end cost run = none (after_all p s gs) cost (record {
      fine = all_fine_numbered s gs run.fine;
      end_is = refl;
      goal_holds = goals (after_all p s gs) ∙ (ap named_goal (end_alike s gs ∙ sym run.end_is) ∙ run.goal_holds);
      cost_is = run.cost_is ∙ sym (cost_alike s gs);
    })

  at_named : (P : (A → Bool) → List ℕ → Type 0) (Q : (B → Bool) → List ℕ → Type 0) → ((s : A → Bool) (g : List ℕ) → P s g → Q (by_name number s) g) → (s : A → Bool) (gs : List (List ℕ)) (n : ℕ) → AtHappening p P s gs n → AtHappening q Q (by_name number s) gs n
  at_named P Q to s [] n at = at
  at_named P Q to s (g ∷ gs) zero at = to s g at
  at_named P Q to s (g ∷ gs) (suc n) at = (fine_named s g at.0, subst (λ t. AtHappening q Q t gs n) (after_named s g) (at_named P Q to (after p s g) gs n at.1))

  first_weaker : {X : Type 0} (P Q R S : X → Type 0) → ((x : X) → P x → R x) → ((x : X) → Q x → S x) → (xs : List X) (k : ℕ) → FirstAt P Q xs k → FirstAt R S xs k
  first_weaker P Q R S f g [] k at = at
  first_weaker P Q R S f g (x ∷ xs) zero at = g x at
  first_weaker P Q R S f g (x ∷ xs) (suc k) at = (f x at.0, first_weaker P Q R S f g xs k at.1)

  pair_weaker : (P Q R S : ℕ → ℕ → Type 0) → ((x y : ℕ) → P x y → R x y) → ((x y : ℕ) → Q x y → S x y) → (xs : List ℕ) (i j : ℕ) → FirstPairAt P Q xs i j → FirstPairAt R S xs i j
  pair_weaker P Q R S f g [] i j at = at
  pair_weaker P Q R S f g (x ∷ xs) i zero at = absurd at
  pair_weaker P Q R S f g (x ∷ xs) zero (suc j) at = first_weaker (P x) (Q x) (R x) (S x) (f x) (g x) xs j at
  pair_weaker P Q R S f g (x ∷ xs) (suc i) (suc j) at = (all_weaker (P x) (R x) (f x) xs at.0, pair_weaker P Q R S f g xs i j at.1)

  pub unready_named : (s : A → Bool) (gs : List (List ℕ)) (n step : ℕ) → AtHappening p (λ t g. IsFirstUnready p t g step) s gs n → AtHappening q (λ t g. IsFirstUnready q t g step) (by_name number s) gs n
  unready_named s gs n step at = at_named (λ t g. IsFirstUnready p t g step) (λ t g. IsFirstUnready q t g step) (λ t g one. record {
    place = one.place;
    is = one.is;
    first = first_weaker (IsReady p t) (λ k. (p k).ready t ≡ false) (IsReady q (by_name number t)) (λ k. (q k).ready (by_name number t) ≡ false) (λ k on. sym ((same k).ready t) ∙ on) (λ k off. sym ((same k).ready t) ∙ off) g one.place one.first;
  }) s gs n at

  pub clash_at_named : (Of : (A → Bool) → Type 0) (NamedOf : (B → Bool) → Type 0) → ((c : A → Bool) → Of c → NamedOf (by_name number c)) → (s : A → Bool) (gs : List (List ℕ)) (n first second : ℕ) → AtHappening p (λ t g. IsFirstClash p Of t g first second) s gs n → AtHappening q (λ t g. IsFirstClash q NamedOf t g first second) (by_name number s) gs n
  clash_at_named Of NamedOf to s gs n first second at = at_named (λ t g. IsFirstClash p Of t g first second) (λ t g. IsFirstClash q NamedOf t g first second) (λ t g one. record {
    ready = All-from_contains (IsReady q (by_name number t)) g (λ k c. sym ((same k).ready t) ∙ All-contains (IsReady p t) g k one.ready c);
    first_place = one.first_place;
    second_place = one.second_place;
    first_is = one.first_is;
    second_is = one.second_is;
    pair = pair_weaker (NoClash p t) (λ h k. Of (clash (p h) (p k) t)) (NoClash q (by_name number t)) (λ h k. NamedOf (clash (q h) (q k) (by_name number t))) (no_clash_named t) (λ h k c. subst NamedOf (λ i b. clash_named t h k b i) (to (clash (p h) (p k) t) c)) g one.first_place one.second_place one.pair;
  }) s gs n at

  -- the clash has an atom by number where it has it by name
  pub clash_has : (b : B) (s : A → Bool) (gs : List (List ℕ)) (n first second : ℕ) → AtHappening p (λ t g. IsFirstClash p (Has (number b)) t g first second) s gs n → AtHappening q (λ t g. IsFirstClash q (Has b) t g first second) (by_name number s) gs n
  clash_has b = clash_at_named (Has (number b)) (Has b) (λ c on. on)
