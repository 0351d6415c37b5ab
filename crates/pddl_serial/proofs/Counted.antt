-- A serialisation has as many steps as the happenings, each below their count.
use Rattle.std.proofs.Common.{◌≡◌, ℕ, ◌≤◌, ◌<◌, List, sym, ◌∙◌, arith, length, subst}
use Rattle.std.specs.Prelude.{All}
use Rattle.std.specs.List.{concat}
use Rattle.std.proofs.lemmas.List.Elements.{All-from_recursion}
use Rattle.std.proofs.lemmas.List.Sorted.{length_permutation}
use Rattle.pddl_happenings.proofs.ListedOnce.{as_many}
use Rattle.pddl_happenings.proofs.TurnsTaken.{all_listed}
use Rattle.pddl_happenings.specs.Happenings.{HaveEachOnce}
use Rattle.pddl_happenings.specs.Serialisations.{IsSerialOrder}
use Rattle.pddl_serial.proofs.Passes.{below_listed}

module _ (n : ℕ) (hs : List (List ℕ)) (each : HaveEachOnce n hs) where
  pub counted : (m : ℕ) → m ≡ length (concat hs) → HaveEachOnce m hs
  counted m is = subst (λ k. HaveEachOnce k hs) (sym (is ∙ as_many n hs each)) each

  pub few_listed : n ≤ 1000000 → length (concat hs) ≤ 1000000
  few_listed few = let e : length (concat hs) ≡ n = as_many n hs each in omega (arith, e, few)

  module _ (order : List ℕ) (serial : IsSerialOrder hs order) where
    pub all_below : All (λ k. k < n) order
    all_below = All-from_recursion (λ k. k < n) order (all_listed (λ k. k < n) order (concat hs) serial.each_once (below_listed hs n each))

    pub few_steps : n ≤ 1000000 → length order ≤ 1000000
    few_steps few = omega (arith, length_permutation (concat hs) order serial.each_once, as_many n hs each, few)
