-- The steps of a linked plan and its start, by numbers and by names.
use Rattle.std.proofs.Common.{◌≡◌, ℕ, suc, true, List, [], ◌∷◌, map, length, refl, sym, ◌∙◌, subst, arith, true≢false}
use Rattle.std.specs.Prelude.{Option, Some, None, slice_get, Contains}
use Rattle.std.specs.List.{list_any, list_all}
use Rattle.std.specs.Option.{option_map_or}
use Rattle.std.proofs.lemmas.List.{length-map}
use Rattle.pddl_domain.specs.Actions.{ActionValue}
use Rattle.pddl_domain.specs.Domains.{DomainValue}
use Rattle.pddl_problem.specs.Inits.{GroundValue}
use Rattle.pddl_problem.specs.Problems.{ProblemValue}
use Rattle.pddl_task.specs.Names.{is_in}
use Rattle.pddl_task.specs.Faults.{same_ground}
use Rattle.pddl_task.specs.Known.{is_known}
use Rattle.pddl_task.specs.Linked.{IsLinked}
use Rattle.pddl_task.specs.Tasks.{TaskValue, task_of, object_names}
use Rattle.pddl_task.proofs.KnownAtoms.{steps_are_known, initial_is_known}
use Rattle.pddl_state.specs.Atoms.{AtomValue, atom_eq}
use Rattle.pddl_happenings.specs.NamedSteps.{by_name, DoesAsNamed, DoAsNamed}
use Rattle.pddl_meaning.specs.Steps.{step_of}
use Rattle.pddl_task.proofs.Lists.{at_place}
use Rattle.pddl_linked_plan.specs.LinkedSteps.{LinkedStepValue, AreLinkedSteps}
use Rattle.pddl_linked_plan.specs.LinkedLaws.{named_step, IsLinkedStep}
use Rattle.pddl_linked_plan.proofs.SoundSteps.{all_at, steps_are_sound, steps_have_names}
use Rattle.pddl_plan_steps.specs.NumberedSteps.{number_of, numbered_step}
use Rattle.pddl_plan_steps.specs.PlanSteps.{idle, named_steps, numbered_steps, initial_state, numbered_start}
use Rattle.pddl_plan_steps.proofs.NamedSteps.{does_as_named, numbers_agree}

idle_as_named : (task : TaskValue) → DoesAsNamed (number_of task) (idle {A = AtomValue}) (idle {A = GroundValue})
idle_as_named task = record {
  ready = λ s. refl;
  reads = λ g. refl;
  adds = λ s g. refl;
  dels = λ s g. refl;
  cost = λ s. refl;
  named = λ s x is. absurd (true≢false (sym is));
}

module _ (d : DomainValue) (p : ProblemValue) (linked : IsLinked d p) where
  abbrev task : TaskValue
  task = task_of d p

  -- every linked step
  module _ (s : LinkedStepValue) (l : IsLinkedStep task s) where
    pub objects_known : list_all (is_in (object_names task)) (named_step task s).objects ≡ true
    objects_known = (steps_have_names d p linked s l).1

    pub as_many : length (named_step task s).objects ≡ length l.action.parameters
    as_many = length-map s.objects _ ∙ l.as_many

    step_as_named : DoesAsNamed (number_of task) (numbered_step task l.action (named_step task s).objects) (step_of task l.action (named_step task s).objects)
    step_as_named =
        does_as_named task l.action (named_step task s).objects
        (steps_are_known d p linked l.action (at_place task.actions s.action l.action l.action_is) (named_step task s).objects as_many objects_known)

    at_action : (o : Option ActionValue) → Some l.action ≡ o → DoesAsNamed (number_of task) (option_map_or (λ a. numbered_step task a (named_step task s).objects) o idle) (option_map_or (λ a. step_of task a (named_step task s).objects) o idle)
    at_action o is = subst (λ q. DoesAsNamed (number_of task) (option_map_or (λ a. numbered_step task a (named_step task s).objects) q idle) (option_map_or (λ a. step_of task a (named_step task s).objects) q idle)) is step_as_named

  module _ (steps : List LinkedStepValue) (are : AreLinkedSteps task steps) where
    pub each_linked : (k : ℕ) (s : LinkedStepValue) → slice_get steps k ≡ Some s → IsLinkedStep task s
    each_linked k s is = all_at (IsLinkedStep task) steps ((steps_are_sound d p linked steps).0 are).each s (at_place steps k s is)

    at_step : (k : ℕ) (o : Option LinkedStepValue) → slice_get steps k ≡ o
        → DoesAsNamed (number_of task)
        (option_map_or (λ s. option_map_or (λ a. numbered_step task a (named_step task s).objects) (slice_get task.actions s.action) idle) o idle)
        (option_map_or (λ s. option_map_or (λ a. step_of task a (named_step task s).objects) (slice_get task.actions s.action) idle) o idle)
    at_step k (Some s) is =
        let l = each_linked k s is in
        at_action s l (slice_get task.actions s.action) (sym l.action_is)
    at_step k None is = idle_as_named task

    pub plan_as_named : DoAsNamed (number_of task) (numbered_steps task steps) (named_steps task steps)
    plan_as_named k = at_step k (slice_get steps k) refl

  -- the start
  any_start : (gs : List GroundValue) → ((g : GroundValue) → Contains gs g → is_known task g ≡ true) → (g : GroundValue)
      → list_any (atom_eq (number_of task g)) (map (number_of task) gs) ≡ list_any (same_ground g) gs
  any_start [] known g = refl
  any_start (h ∷ hs) known g =
      let head : atom_eq (number_of task g) (number_of task h) ≡ same_ground g h = numbers_agree task g h (known h (0, omega arith, refl)) in
      let tail : list_any (atom_eq (number_of task g)) (map (number_of task) hs) ≡ list_any (same_ground g) hs = any_start hs (λ x c. known x (suc c.0, omega (arith, c.1), c.2)) g in
      cc

  pub start_as_named : by_name (number_of task) (numbered_start task) ≡ initial_state task
  start_as_named = λ i g. any_start task.initial (initial_is_known d p linked) g i
