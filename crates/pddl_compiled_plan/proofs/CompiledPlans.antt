-- What is compiled of a linked plan does what the definitions say of its steps and its goal.
use Rattle.std.proofs.Common.{◌≡◌, ℕ, List, [], refl, sym, ap, ◌∙◌, subst}
use Rattle.std.specs.Prelude.{◌≤◌, Option, Some, None, slice_get, unwrap_or}
use Rattle.std.specs.Option.{option_map_or, option_flatten}
use Rattle.pddl_task.specs.Linked.{IsLinked}
use Rattle.pddl_task.specs.Tasks.{TaskValue}
use Rattle.pddl_state.specs.Atoms.{AtomValue}
use Rattle.pddl_happenings.specs.Steps.{Step, IsFramed}
use Rattle.pddl_compiled.specs.CompiledMeaning.{is_true}
use Rattle.pddl_compiled.specs.Views.{change_view}
use Rattle.pddl_compiled.specs.declared.compiled.Condition.{Condition}
use Rattle.pddl_evaluation.specs.Costs.{increases_of, most_increases}
use Rattle.pddl_tables.specs.Prices.{prices_of}
use Rattle.pddl_linked_task.specs.LinkedTasks.{Files, task_of_files}
use Rattle.pddl_linked_plan.specs.LinkedSteps.{LinkedStepValue}
use Rattle.pddl_linked_plan.specs.LinkedLaws.{IsLinkedStep, named_step}
use Rattle.pddl_plan_steps.specs.NumberedSteps.{numbered_step}
use Rattle.pddl_plan_steps.specs.PlanSteps.{idle, numbered_steps, numbered_goal}
use Rattle.pddl_plan_steps.proofs.Framed.{steps_framed}
use Rattle.pddl_plan_steps.proofs.PlanSteps.{each_linked}
use Rattle.pddl_compiled_plan.specs.CompiledSteps.{form_in, form_of, form_step, held_price, held_step, held_steps, held_goal, AreCompiledFrom, AreHeldFor}
use Rattle.pddl_compiled_plan.specs.declared.action.CompiledAction.{CompiledAction}
use Rattle.pddl_compiled_plan.proofs.Forms.{step_by_form, few_increases, goal_by_form}

module _ {A : Type 0} (files : Files) (linked : IsLinked files.domain files.problem) {steps : List LinkedStepValue} {actions : List (Option (CompiledAction A))} {goal : Condition A}
    {prices : AtomValue → Option ℕ} (plan : AreCompiledFrom (task_of_files files) steps actions goal prices) where
  abbrev task : TaskValue
  task = task_of_files files

  prices_same : held_price prices ≡ prices_of task
  prices_same = λ i call. unwrap_or (plan.prices_are call i) 0

  -- the form of the action of a step
  module _ (k : ℕ) (s : LinkedStepValue) (is : slice_get steps k ≡ Some s) where
    abbrev l : IsLinkedStep task s
    l = each_linked files.domain files.problem linked steps plan.linked k s is

    form_is : (c : CompiledAction A) → slice_get actions s.action ≡ Some (Some c) → form_in c ≡ form_of task l.action
    form_is c at = plan.forms s.action l.action c l.action_is at

    does : held_steps actions prices steps k ≡ numbered_steps task steps k
    does =
        let held = plan.used k s is in
        ap (λ at. option_map_or (held_step actions prices) at idle) is
        ∙ ap (λ (at : Option (Option (CompiledAction A))). option_map_or (λ d. form_step (held_price prices) (form_in d) s.objects) (option_flatten at) idle) held.1
        ∙ ap (λ f. form_step (held_price prices) f s.objects) (form_is held.0 held.1)
        ∙ ap (λ price. form_step price (form_of task l.action) s.objects) prices_same
        ∙ sym (step_by_form files.domain files.problem linked steps plan.linked k s is l.action l.action_is)

    few : (c : CompiledAction A) → slice_get actions s.action ≡ Some (Some c) → increases_of (change_view c.effect) ≤ most_increases
    few c at = subst (λ f. increases_of f.effect ≤ most_increases) (sym (form_is c at)) (few_increases files.domain files.problem linked steps plan.linked k s is l.action l.action_is)

  step_does : (k : ℕ) (o : Option LinkedStepValue) → slice_get steps k ≡ o → held_steps actions prices steps k ≡ numbered_steps task steps k
  step_does k (Some s) is = does k s is
  step_does k None is =
      ap (λ at. option_map_or (held_step actions prices) at idle) is
      ∙ sym (ap (λ at. option_map_or (λ s. option_map_or (λ a. numbered_step task a (named_step task s).objects) (slice_get task.actions s.action) idle) at idle) is)

  pub steps_do : held_steps actions prices steps ≡ numbered_steps task steps
  steps_do = λ i k. step_does k (slice_get steps k) refl i

  pub goal_means : held_goal goal ≡ numbered_goal task
  goal_means = λ i s. (ap (λ c. is_true s c []) plan.goal_is ∙ goal_by_form files.domain files.problem linked s) i

  pub held_for : AreHeldFor steps actions
  held_for = record { used = plan.used; few = λ k s c is at. few k s is c at }

  pub framed : (k : ℕ) → IsFramed (held_steps actions prices steps k)
  framed k = subst (λ (h : ℕ → Step AtomValue). IsFramed (h k)) (sym steps_do) (steps_framed task steps k)
