-- The first fault of a step, by what is looked up for it in turn.
use Rattle.std.proofs.Common.{◌≡◌, ◌<◌, ◌≤◌, ℕ, Bool, true, false, not, ◌==◌, List, [], map, length, reverse, refl, sym, ap, ◌∙◌, bytes_eq, arith}
use Rattle.std.specs.Prelude.{Option, Some, None, position}
use Rattle.std.specs.Borrow.{Bor}
use Rattle.std.specs.Map.{keys_of}
use Rattle.std.specs.List.{slice_get}
use Rattle.std.specs.Option.{option_map_or}
use Rattle.std.proofs.lemmas.Bool.Decides.{nat_tests}
use Rattle.std.proofs.lemmas.List.{length-map}
use Rattle.std.proofs.lemmas.Option.{slice_get_within}
use Rattle.pddl_plan.specs.Plans.{StepValue}
use Rattle.pddl_formula.specs.Terms.{name}
use Rattle.pddl_formula.specs.TypedLists.{typed_view}
use Rattle.pddl_domain.specs.Actions.{ActionValue, action_view}
use Rattle.pddl_domain.specs.Domains.{DomainValue}
use Rattle.pddl_problem.specs.Problems.{ProblemValue}
use Rattle.pddl_task.specs.Names.{Name, is_in, number_in}
use Rattle.pddl_task.specs.Faults.{some_misfit}
use Rattle.pddl_task.specs.Linked.{IsLinked}
use Rattle.pddl_task.specs.Tasks.{TaskValue, task_of, object_names, task_count}
use Rattle.pddl_state.specs.Atoms.{AtomValue}
use Rattle.pddl_tables.specs.Prices.{price_at}
use Rattle.pddl_linked_plan.specs.StepFaults.{action_names, action_named, naming, has_arity, unknown_object, some_costless, step_faults}
use Rattle.pddl_plan_tables.specs.declared.action_table.SizedAction.{SizedAction}
use Rattle.pddl_plan_tables.specs.ChangeCosts.{is_unpriced, some_cost}
use Rattle.pddl_plan_tables.specs.ActionChanges.{effect_of}
use Rattle.pddl_linked_plan.specs.FittingObjects.{some_unfit}
use Rattle.pddl_plan_tables.specs.StepTables.{named_action, named_in}
use Rattle.pddl_plan_link.proofs.CostWalks.{costless_found}
use Rattle.pddl_linked_plan.proofs.GoodSteps.{no_other}
use Rattle.pddl_plan_tables.proofs.NamedActions.{Entry, none_named, number_found, IsFound, action_found, action_there}
use Rattle.pddl_linked_plan.proofs.NumberedObjects.{some_unknown, unfit_is}
use Rattle.pddl_linked_plan.proofs.StepTests.{IsFirst, unknown_first, arity_first, object_first, type_first, cost_first, size_first, none_stands, found_large, found_small}

other_number : (m n : ℕ) → (m ≡ n → ⊥) → (m == n) ≡ false
other_number m n h = grind (arith, nat_tests)

same_number : (m n : ℕ) → m ≡ n → (m == n) ≡ true
same_number m n h = grind (arith, nat_tests)

told_no : (answer b : Bool) → answer ≡ not b → answer ≡ false → b ≡ true
told_no answer true h k = refl
told_no answer false h k = cc

told_yes : (answer b : Bool) → answer ≡ not b → answer ≡ true → b ≡ false
told_yes answer false h k = refl
told_yes answer true h k = cc

module _ {A : Type 0} (task : TaskValue) (es : List (Entry A)) (s : StepValue) (n : Name) (are : map named_in es ≡ map (named_action (task_count task)) task.actions) (read : n ≡ s.action) where
  -- no action is found
  pub action_unknown : None ≡ position (λ k. bytes_eq n k.now) (keys_of es) → IsFirst (step_faults task s) 40
  action_unknown at = unknown_first task s (ap not (ap (is_in (action_names task)) (sym read) ∙ none_named task es n are at))

  -- one is found, at this place
  module _ (i : ℕ) (key : Bor (List ℕ)) (held : SizedAction A) (at : Some i ≡ position (λ k. bytes_eq n k.now) (keys_of es)) (there : slice_get es i ≡ Some (key, held)) where
    abbrev a : ActionValue
    a = action_view held.action.now

    found : IsFound task es n are (named_in (key, held))
    found = action_found task es n are i (key, held) at there

    named : action_named task s.action ≡ Some a
    named = ap (action_named task) (sym read) ∙ found.action_is

    pub number_is : i ≡ number_in (action_names task) s.action
    number_is = number_found task es n are i at ∙ ap (number_in (action_names task)) read

    pub found_there : slice_get task.actions i ≡ Some a
    found_there = action_there task es n are i (key, held) at there

    pub number_low : i < length task.actions
    number_low = slice_get_within task.actions i a found_there

    -- there are as many objects as parameters, or not
    module _ (m k : ℕ) (first : m ≡ length s.objects) (second : k ≡ length held.action.now.parameters.items) where
      parameters_are : length a.parameters ≡ k
      parameters_are = length-map held.action.now.parameters.items typed_view ∙ sym second

      pub slots_are : (b : ActionValue) → slice_get task.actions i ≡ Some b → length b.parameters ≡ k
      slots_are b stands = ap (λ o. option_map_or (λ x. length x.parameters) o 0) (sym stands ∙ found_there) ∙ parameters_are

      compared : length s.objects == length a.parameters ≡ m == k
      compared = ap (λ j. j == length a.parameters) (sym first) ∙ ap (λ j. m == j) parameters_are

      pub arity_differs : (m ≡ k → ⊥) → IsFirst (step_faults task s) 41
      arity_differs other = arity_first task s a named (compared ∙ other_number m k other)

      module _ (same : m ≡ k) where
        arity : has_arity s a ≡ true
        arity = compared ∙ same_number m k same

        -- all objects are known, or not
        module _ (names : List Name) (answer : Bool) (own : names ≡ s.objects) (told : answer ≡ not (some_unknown (object_names task) names)) where
          own_told : answer ≡ not (unknown_object task s)
          own_told = told ∙ ap (λ ns. not (some_unknown (object_names task) ns)) own

          pub object_unknown : answer ≡ false → IsFirst (step_faults task s) 42
          object_unknown is = object_first task s a named arity (told_no answer (unknown_object task s) own_told is)

          module _ (numbers : List ℕ) (numbered : answer ≡ true → numbers ≡ map (number_in (object_names task)) names) (all : answer ≡ true) where
            known : unknown_object task s ≡ false
            known = told_yes answer (unknown_object task s) own_told all

            pub numbers_are : numbers ≡ map (number_in (object_names task)) s.objects
            numbers_are = numbered all ∙ ap (map (number_in (object_names task))) own

            -- some object does not fit, or all do
            module _ (lent : List ℕ) (unfit : Bool) (whole : lent ≡ numbers) (tested : (b : ActionValue) → slice_get task.actions i ≡ Some b → unfit ≡ some_unfit task lent b.parameters) where
              misfit : unfit ≡ some_misfit (naming task.types task.objects) [] (map name s.objects) a.parameters
              misfit = tested a found_there ∙ ap (λ ns. some_unfit task ns a.parameters) (whole ∙ numbers_are) ∙ unfit_is task s.objects a.parameters known

              pub type_differs : unfit ≡ true → IsFirst (step_faults task s) 43
              type_differs is = type_first task s a named arity known (sym misfit ∙ is)

              -- the step is too large, or not
              module _ (fit : unfit ≡ false) where
                pub step_is_large : 1000000 < held.size → IsFirst (step_faults task s) 46
                step_is_large more = size_first task s a named arity known (sym misfit ∙ fit) (found_large held.size _ found.size_is more)

                -- some increase has no cost, or all have one
                module _ (less : held.size ≤ 1000000) (d : DomainValue) (p : ProblemValue) (linked : IsLinked d p) (files : task_of d p ≡ task) (price : AtomValue → Option ℕ)
                    (priced : (g : AtomValue) → price g ≡ price_at task g) (handed : List ℕ) (costless : Bool) (all_handed : handed ≡ numbers)
                    (asked : costless ≡ some_cost (effect_of task a) (is_unpriced price) (reverse handed)) where
                  of_step : costless ≡ some_costless task s a
                  of_step = costless_found d p task linked files price priced a s handed costless (sym first ∙ same ∙ sym parameters_are) (no_other (object_names task) s.objects known)
                      (all_handed ∙ numbers_are) asked

                  pub cost_is_undefined : costless ≡ true → IsFirst (step_faults task s) 44
                  cost_is_undefined is = cost_first task s a named arity known (sym misfit ∙ fit) (found_small held.size _ found.size_is less) (sym of_step ∙ is)

                  pub step_is_good : costless ≡ false → step_faults task s ≡ []
                  step_is_good none = none_stands task s a named arity known (sym misfit ∙ fit) (found_small held.size _ found.size_is less) (sym of_step ∙ none)
