-- The faults of a step whose action is known, and where they stand.
use Rattle.std.proofs.Common.{◌≡◌, ◌<◌, ◌≤◌, ℕ, Bool, true, false, not, ◌&&◌, List, [], ◌∷◌, ◌++◌, map, nat_lt, ap, ◌∙◌, arith}
use Rattle.std.specs.Prelude.{Some, is_some}
use Rattle.std.specs.Option.{option_map_or}
use Rattle.std.proofs.lemmas.Bool.Decides.{nat_tests}
use Rattle.pddl_plan.specs.Plans.{StepValue}
use Rattle.pddl_formula.specs.Terms.{name}
use Rattle.pddl_domain.specs.Actions.{ActionValue}
use Rattle.pddl_task.specs.Faults.{some_misfit}
use Rattle.pddl_task.specs.GroundSize.{largest_size, capped}
use Rattle.pddl_task.specs.Tasks.{TaskValue}
use Rattle.pddl_linked_plan.specs.StepFaults.{action_name, action_named, naming, has_arity, unknown_action, other_arity, unknown_object, unfit_object, cost_undefined, too_large, is_large, is_applied, some_costless, number_if, step_faults}
use Rattle.pddl_linked_plan.proofs.Numbers.{is_found}

-- ---- faults by their tests

abbrev listed : Bool → Bool → Bool → Bool → Bool → Bool → List ℕ
listed a b c d e f = number_if a 40 ++ number_if b 41 ++ number_if c 42 ++ number_if d 43 ++ number_if e 44 ++ number_if f 46

-- the number is the lowest of those that stand
abbrev pub IsFirst : List ℕ → ℕ → Type 0
IsFirst faults n = (others : List ℕ) × (faults ≡ n ∷ others)

pub unknown_first : (task : TaskValue) (s : StepValue) → unknown_action task s ≡ true → IsFirst (step_faults task s) 40
unknown_first task s is = (_, ap (λ b. listed b (other_arity task s) (unknown_object task s) (unfit_object task s) (cost_undefined task s) (too_large task s)) is)

module _ (task : TaskValue) (s : StepValue) (a : ActionValue) (named : action_named task s.action ≡ Some a) where
  abbrev misfit : Bool
  misfit = some_misfit (naming task.types task.objects) [] (map name s.objects) a.parameters

  abbrev large : Bool
  large = is_large task a

  known : unknown_action task s ≡ false
  known = ap not (is_found action_name task.actions s.action ∙ ap is_some named)

  by_tests : step_faults task s ≡ listed false (not (has_arity s a)) (unknown_object task s) misfit (is_applied task s a && (not large && some_costless task s a)) large
  by_tests =
      ap (λ b. listed b (other_arity task s) (unknown_object task s) (unfit_object task s) (cost_undefined task s) (too_large task s)) known
      ∙ ap (λ o. listed false (option_map_or (λ b. not (has_arity s b)) o false) (unknown_object task s)
      (option_map_or (λ (b : ActionValue). some_misfit (naming task.types task.objects) [] (map name s.objects) b.parameters) o false)
      (option_map_or (λ b. is_applied task s b && (not (is_large task b) && some_costless task s b)) o false) (option_map_or (is_large task) o false)) named

  pub arity_first : has_arity s a ≡ false → IsFirst (step_faults task s) 41
  arity_first is = (_, by_tests ∙ ap (λ b. listed false (not b) (unknown_object task s) misfit ((b && not (unknown_object task s)) && (not large && some_costless task s a)) large) is)

  module _ (arity : has_arity s a ≡ true) where
    after_arity : step_faults task s ≡ listed false false (unknown_object task s) misfit (not (unknown_object task s) && (not large && some_costless task s a)) large
    after_arity =
        by_tests
        ∙ ap (λ b. listed false (not b) (unknown_object task s) misfit ((b && not (unknown_object task s)) && (not large && some_costless task s a)) large) arity

    pub object_first : unknown_object task s ≡ true → IsFirst (step_faults task s) 42
    object_first is = (_, after_arity ∙ ap (λ b. listed false false b misfit (not b && (not large && some_costless task s a)) large) is)

    module _ (objects : unknown_object task s ≡ false) where
      after_objects : step_faults task s ≡ listed false false false misfit (not large && some_costless task s a) large
      after_objects = after_arity ∙ ap (λ b. listed false false b misfit (not b && (not large && some_costless task s a)) large) objects

      pub type_first : misfit ≡ true → IsFirst (step_faults task s) 43
      type_first is = (_, after_objects ∙ ap (λ b. listed false false false b (not large && some_costless task s a) large) is)

      module _ (types : misfit ≡ false) where
        after_types : step_faults task s ≡ listed false false false false (not large && some_costless task s a) large
        after_types = after_objects ∙ ap (λ b. listed false false false b (not large && some_costless task s a) large) types

        pub size_first : large ≡ true → IsFirst (step_faults task s) 46
        size_first is = (_, after_types ∙ ap (λ b. listed false false false false (not b && some_costless task s a) b) is)

        module _ (size : large ≡ false) where
          after_size : step_faults task s ≡ listed false false false false (some_costless task s a) false
          after_size = after_types ∙ ap (λ b. listed false false false false (not b && some_costless task s a) b) size

          pub cost_first : some_costless task s a ≡ true → IsFirst (step_faults task s) 44
          cost_first is = (_, after_size ∙ ap (λ b. listed false false false false b false) is)

          pub none_stands : some_costless task s a ≡ false → step_faults task s ≡ []
          none_stands is = after_size ∙ ap (λ b. listed false false false false b false) is

-- ---- sizes

pub found_large : (size n : ℕ) → size ≡ capped n → 1000000 < size → nat_lt largest_size n ≡ true
found_large size n is more = grind (arith, nat_tests)

pub found_small : (size n : ℕ) → size ≡ capped n → size ≤ 1000000 → nat_lt largest_size n ≡ false
found_small size n is less = grind (arith, nat_tests)
