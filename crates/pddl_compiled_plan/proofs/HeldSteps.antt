-- What is held for the steps of a plan: the action of each.
use Rattle.std.proofs.Common.{◌≡◌, ◌<◌, ◌≤◌, ℕ, true, List, length, get_or, sym, ap, ◌∙◌}
use Rattle.std.specs.Prelude.{Option, Some, slice_get}
use Rattle.std.specs.Coded.{le_prop}
use Rattle.std.specs.Option.{is_some, option_map_or, option_flatten}
use Rattle.std.proofs.Math.Bool.{Bool-set}
use Rattle.std.proofs.Math.Logic.{∥∥₁_elim}
use Rattle.std.proofs.Math.Nat.{ℕ_set}
use Rattle.std.proofs.lemmas.Option.{slice_get_within, get_or_from_slice_get}
use Rattle.pddl_state.specs.Atoms.{AtomValue}
use Rattle.pddl_compiled.specs.Views.{change_view}
use Rattle.pddl_evaluation.specs.Costs.{increases_of, most_increases}
use Rattle.pddl_linked_plan.specs.LinkedSteps.{LinkedStepValue}
use Rattle.pddl_plan_steps.specs.PlanSteps.{idle}
use Rattle.pddl_compiled_plan.specs.CompiledSteps.{form_in, form_step, held_price, held_step, held_steps, AreHeldFor}
use Rattle.pddl_compiled_plan.specs.declared.action.CompiledAction.{CompiledAction}

module _ {A : Type 0} {steps : List LinkedStepValue} {actions : List (Option (CompiledAction A))} (kept : ∥ AreHeldFor steps actions ∥₁) where
  -- the action of a step, read at its place
  module _ (k : ℕ) (s : LinkedStepValue) (is : Some s ≡ slice_get steps k) where
    pub action_within : s.action < length actions
    action_within = ∥∥₁_elim kept (hlevel le_prop) (λ held. slice_get_within actions s.action _ (held.used k s (sym is)).1)

    module _ (o : Option (CompiledAction A)) (read : o ≡ get_or actions s.action o) where
      pub action_there : is_some o ≡ true
      action_there = ∥∥₁_elim kept (hlevel Bool-set) (λ held. ap is_some (read ∙ get_or_from_slice_get actions s.action _ o (held.used k s (sym is)).1))

      module _ (c : CompiledAction A) (here : o ≡ Some c) where
        at_place : AreHeldFor steps actions → slice_get actions s.action ≡ Some (Some c)
        at_place held =
            let own = held.used k s (sym is) in
            own.1 ∙ ap Some (sym (get_or_from_slice_get actions s.action _ o own.1) ∙ (sym read ∙ here))

        pub action_does : (prices : AtomValue → Option ℕ) → held_steps actions prices steps k ≡ form_step (held_price prices) (form_in c) s.objects
        action_does prices = ∥∥₁_elim kept (hlevel (ℕ_set, Bool-set)) (λ held.
            ap (λ at. option_map_or (held_step actions prices) at idle) (sym is)
            ∙ ap (λ (at : Option (Option (CompiledAction A))). option_map_or (λ d. form_step (held_price prices) (form_in d) s.objects) (option_flatten at) idle) (at_place held))

        pub action_increases : increases_of (change_view c.effect) ≤ most_increases
        action_increases = ∥∥₁_elim kept (hlevel le_prop) (λ held. held.few k s c (sym is) (at_place held))
