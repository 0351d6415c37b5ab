-- What a step does by numbers depends only on the numbers that it reads.
use Rattle.std.proofs.Common.{◌≡◌, ℕ, Bool, true, List, [], refl, sym, ap, ◌∙◌}
use Rattle.std.specs.List.{list_any}
use Rattle.std.specs.Prelude.{Option, Some, None, slice_get}
use Rattle.std.specs.Option.{option_map_or}
use Rattle.pddl_formula.specs.Formulas.{FormulaValue}
use Rattle.pddl_effect.specs.Effects.{EffectValue}
use Rattle.pddl_domain.specs.Actions.{ActionValue}
use Rattle.pddl_problem.specs.Inits.{GroundValue}
use Rattle.pddl_task.specs.Names.{Name}
use Rattle.pddl_task.specs.Faults.{same_ground}
use Rattle.pddl_task.specs.Tasks.{TaskValue, fitting_names}
use Rattle.pddl_task.specs.Known.{formula_atoms, Spoken, is_read, is_added, is_deleted, tested, effect_atoms}
use Rattle.pddl_task.specs.Valuations.{Valuation, giving}
use Rattle.pddl_task.proofs.Lists.{any_found, found_any, or_left, or_right}
use Rattle.pddl_state.specs.Atoms.{AtomValue, atom_eq}
use Rattle.pddl_state.proofs.AtomOrder.{atom_eq-self}
use Rattle.pddl_happenings.specs.Steps.{Agree, IsFramed}
use Rattle.pddl_happenings.specs.NamedSteps.{by_name}
use Rattle.pddl_meaning.specs.Worlds.{no_atoms, world_of}
use Rattle.pddl_meaning.specs.Truth.{formula_reads}
use Rattle.pddl_meaning.specs.Effects.{effect_reads}
use Rattle.pddl_meaning.proofs.Agreement.{one_ground}
use Rattle.pddl_meaning.proofs.Frame.{truth_frame, fired_frame, cost_frame}
use Rattle.pddl_linked_plan.specs.LinkedSteps.{LinkedStepValue}
use Rattle.pddl_linked_plan.specs.LinkedLaws.{named_step}
use Rattle.pddl_plan_steps.specs.NumberedSteps.{number_of, has_number, numbered_step}
use Rattle.pddl_plan_steps.specs.PlanSteps.{idle, numbered_steps}

-- the number of an atom is that of the same atom
has_own : (task : TaskValue) (g h : GroundValue) → same_ground g h ≡ true → has_number task (number_of task g) h ≡ true
has_own task g h same = ap (λ x. atom_eq (number_of task g) (number_of task x)) (sym (one_ground g h same)) ∙ atom_eq-self (number_of task g)

module _ (task : TaskValue) where
  abbrev fit : List Name → List Name
  fit = fitting_names task

  -- what is read by name is read by number
  formula_numbers : (f : FormulaValue) (v : Valuation) (g : GroundValue) → formula_reads fit f v g ≡ true → list_any (has_number task (number_of task g)) (formula_atoms fit f v) ≡ true
  formula_numbers f v g h =
      let found = any_found (same_ground g) (formula_atoms fit f v) h in
      found_any (has_number task (number_of task g)) (formula_atoms fit f v) found.0 found.1 (has_own task g found.0 found.2)

  read_number : (g : GroundValue) (x : Spoken) → tested (same_ground g) no_atoms no_atoms x ≡ true → tested (has_number task (number_of task g)) no_atoms no_atoms x ≡ true
  read_number g (is_read h) is = has_own task g h is
  read_number g (is_added h) is = is
  read_number g (is_deleted h) is = is

  effect_numbers : (e : EffectValue) (v : Valuation) (g : GroundValue) → effect_reads fit e v g ≡ true → list_any (tested (has_number task (number_of task g)) no_atoms no_atoms) (effect_atoms fit e v) ≡ true
  effect_numbers e v g h =
      let found = any_found (tested (same_ground g) no_atoms no_atoms) (effect_atoms fit e v) h in
      found_any (tested (has_number task (number_of task g)) no_atoms no_atoms) (effect_atoms fit e v) found.0 found.1 (read_number g found.0 found.2)

  module _ (a : ActionValue) (os : List Name) (s t : AtomValue → Bool) (agree : Agree (numbered_step task a os).reads s t) where
    abbrev v : Valuation
    v = giving a.parameters os []

    formula_agrees : Agree (formula_reads fit a.precondition v) (by_name (number_of task) s) (by_name (number_of task) t)
    formula_agrees g h =
        agree (number_of task g) (or_left (list_any (has_number task (number_of task g)) (formula_atoms fit a.precondition v)) (list_any (tested (has_number task (number_of task g)) no_atoms no_atoms) (effect_atoms fit a.effect v)) (formula_numbers a.precondition v g h))

    effect_agrees : Agree (effect_reads fit a.effect v) (by_name (number_of task) s) (by_name (number_of task) t)
    effect_agrees g h =
        agree (number_of task g) (or_right (list_any (has_number task (number_of task g)) (formula_atoms fit a.precondition v)) (list_any (tested (has_number task (number_of task g)) no_atoms no_atoms) (effect_atoms fit a.effect v)) (effect_numbers a.effect v g h))

  numbered_framed : (a : ActionValue) (os : List Name) → IsFramed (numbered_step task a os)
  numbered_framed a os = record {
    ready = λ s t agree. truth_frame fit (by_name (number_of task) s) (by_name (number_of task) t) a.precondition (giving a.parameters os []) (formula_agrees a os s t agree);
    adds = λ s t agree x.
        ap (list_any (tested no_atoms (has_number task x) no_atoms)) (fired_frame fit (by_name (number_of task) s) (by_name (number_of task) t) a.effect (giving a.parameters os []) (effect_agrees a os s t agree));
    dels = λ s t agree x.
        ap (list_any (tested no_atoms no_atoms (has_number task x))) (fired_frame fit (by_name (number_of task) s) (by_name (number_of task) t) a.effect (giving a.parameters os []) (effect_agrees a os s t agree));
    cost = λ s t agree. cost_frame (world_of task) (by_name (number_of task) s) (by_name (number_of task) t) a.effect (giving a.parameters os []) (effect_agrees a os s t agree);
  }

  idle_framed : IsFramed (idle {A = AtomValue})
  idle_framed = record { ready = λ s t agree. refl; adds = λ s t agree x. refl; dels = λ s t agree x. refl; cost = λ s t agree. refl }

  at_action : (s : LinkedStepValue) (o : Option ActionValue) → IsFramed (option_map_or (λ a. numbered_step task a (named_step task s).objects) o idle)
  at_action s (Some a) = numbered_framed a (named_step task s).objects
  at_action s None = idle_framed

  at_step : (o : Option LinkedStepValue) → IsFramed (option_map_or (λ s. option_map_or (λ a. numbered_step task a (named_step task s).objects) (slice_get task.actions s.action) idle) o idle)
  at_step (Some s) = at_action s (slice_get task.actions s.action)
  at_step None = idle_framed

  pub steps_framed : (steps : List LinkedStepValue) (k : ℕ) → IsFramed (numbered_steps task steps k)
  steps_framed steps k = at_step (slice_get steps k)
