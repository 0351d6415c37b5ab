-- Groups whose joined list is a serialisation are a split exactly where each has a step and its steps have one place.
use Rattle.std.proofs.Common.{◌≡◌, ◌↔◌, ℕ, ◌<◌, true, List, [], ◌∷◌, map}
use Rattle.std.specs.Prelude.{All}
use Rattle.std.specs.List.{list_all, concat, AllByRecursion}
use Rattle.std.proofs.lemmas.List.Elements.{All-from_recursion}
use Rattle.pddl_happenings.proofs.Cut.{back_of}
use Rattle.pddl_happenings.proofs.ListedOnce.{is_distinct}
use Rattle.pddl_happenings.proofs.Prefixes.{front_of}
use Rattle.pddl_happenings.proofs.TurnsTaken.{all_listed}
use Rattle.pddl_happenings.specs.Happenings.{HaveEachOnce}
use Rattle.pddl_happenings.specs.Serialisations.{IsSerialOrder, place_of}
use Rattle.pddl_happenings.specs.Splits.{IsSplitOf}
use Rattle.pddl_serial.proofs.AtOne.{IsKnown, all_within, within_all}
use Rattle.pddl_serial.proofs.Passes.{below_listed}
use Rattle.pddl_serial.specs.Inner.Places.{is_at_one}

each_group : {X : Type 0} (items : X → List ℕ) (P : ℕ → Type 0) (gs : List X) → AllByRecursion P (concat (map items gs)) → AllByRecursion (λ g. All P (items g)) gs
each_group items P [] all = tt
each_group items P (g ∷ gs) all = (All-from_recursion P (items g) (front_of P (items g) (concat (map items gs)) all), each_group items P gs (back_of P (items g) (concat (map items gs)) all))

module _ (hs : List (List ℕ)) (n : ℕ) (each : HaveEachOnce n hs) (place : ℕ → ℕ) (is : (k : ℕ) → k < n → place k ≡ place_of hs k) where
  pub all_groups_below : {X : Type 0} (items : X → List ℕ) (gs : List X) → IsSerialOrder hs (concat (map items gs)) → All (λ g. All (λ k. k < n) (items g)) gs
  all_groups_below {X} items gs serial =
      All-from_recursion (λ (g : X). All (λ k. k < n) (items g)) gs (each_group items (λ k. k < n) gs (all_listed (λ k. k < n) (concat (map items gs)) (concat hs) serial.each_once (below_listed hs n each)))

  known : (gs : List (List ℕ)) → IsSerialOrder hs (concat gs) → AllByRecursion (IsKnown hs (is_distinct n hs each) place) (concat gs)
  known gs serial = all_listed (IsKnown hs (is_distinct n hs each) place) (concat gs) (concat hs) serial.each_once (λ k on. (on, is k (below_listed hs n each k on)))

  pub at_one_split : (gs : List (List ℕ)) → IsSerialOrder hs (concat gs) → list_all (is_at_one place) gs ≡ true ↔ IsSplitOf hs gs
  at_one_split gs serial = (
    λ e. let w = all_within hs (is_distinct n hs each) place gs (known gs serial) e in record { none_empty = w.0; within = w.1; in_turn = serial },
    λ s. within_all hs (is_distinct n hs each) place gs (known gs serial) s.none_empty s.within,
  )
