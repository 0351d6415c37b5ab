-- The atoms of a clash of linked steps are known to their task.
use Rattle.std.proofs.Common.{◌≡◌, ℕ, Bool, true, false, ◌&&◌, ◌||◌, List, [], map, refl, sym, ap, ◌∙◌, subst, inl, inr, arith, true≢false}
use Rattle.std.specs.Prelude.{Option, Some, None, slice_get, Contains}
use Rattle.std.specs.Option.{option_map_or}
use Rattle.std.proofs.lemmas.Bool.{cases_Bool}
use Rattle.pddl_domain.specs.Actions.{ActionValue}
use Rattle.pddl_domain.specs.Domains.{DomainValue}
use Rattle.pddl_problem.specs.Inits.{GroundValue}
use Rattle.pddl_problem.specs.Problems.{ProblemValue}
use Rattle.pddl_task.specs.Names.{Name}
use Rattle.pddl_task.specs.Faults.{same_ground}
use Rattle.pddl_task.specs.Known.{formula_atoms, Spoken, is_read, is_added, is_deleted, atom_of, tested, effect_atoms, is_known, AreKnown}
use Rattle.pddl_task.specs.Linked.{IsLinked}
use Rattle.pddl_task.specs.Tasks.{TaskValue, task_of, fitting_names}
use Rattle.pddl_task.specs.Valuations.{Valuation, giving}
use Rattle.pddl_task.proofs.KnownAtoms.{steps_are_known}
use Rattle.pddl_task.proofs.Lists.{any_found, is_mapped, or_cases, at_place}
use Rattle.pddl_happenings.specs.Steps.{Step, changes, clash}
use Rattle.pddl_meaning.specs.Effects.{fired, effect_adds, effect_dels}
use Rattle.pddl_meaning.specs.Steps.{step_of}
use Rattle.pddl_meaning.specs.Worlds.{Atoms, no_atoms}
use Rattle.pddl_meaning.proofs.Agreement.{one_ground}
use Rattle.pddl_meaning.proofs.Frame.{fired_spoken}
use Rattle.pddl_linked_plan.specs.LinkedLaws.{named_step, IsLinkedStep}
use Rattle.pddl_linked_plan.specs.LinkedSteps.{LinkedStepValue, AreLinkedSteps}
use Rattle.pddl_plan_steps.specs.PlanSteps.{idle, named_steps}
use Rattle.pddl_plan_steps.proofs.PlanSteps.{as_many, each_linked, objects_known}

-- a known atom that passes for what is added, or for what is deleted, is the one that is asked for
of_added : (task : TaskValue) (g : GroundValue) (x : Spoken) → tested no_atoms (same_ground g) no_atoms x ≡ true → is_known task (atom_of x) ≡ true → is_known task g ≡ true
of_added task g (is_read h) on known = absurd (true≢false (sym on))
of_added task g (is_added h) on known = ap (is_known task) (one_ground g h on) ∙ known
of_added task g (is_deleted h) on known = absurd (true≢false (sym on))

of_deleted : (task : TaskValue) (g : GroundValue) (x : Spoken) → tested no_atoms no_atoms (same_ground g) x ≡ true → is_known task (atom_of x) ≡ true → is_known task g ≡ true
of_deleted task g (is_read h) on known = absurd (true≢false (sym on))
of_deleted task g (is_added h) on known = absurd (true≢false (sym on))
of_deleted task g (is_deleted h) on known = ap (is_known task) (one_ground g h on) ∙ known

-- the step changes known atoms alone
abbrev ChangesKnown : TaskValue → Step GroundValue → Type 0
ChangesKnown task h = (s : Atoms) (g : GroundValue) → changes h s g ≡ true → is_known task g ≡ true

idle_known : (task : TaskValue) → ChangesKnown task idle
idle_known task s g on = absurd (true≢false (sym on))

module _ (task : TaskValue) (a : ActionValue) (os : List Name)
    (speaks : AreKnown task (formula_atoms (fitting_names task) a.precondition (giving a.parameters os []))
    × AreKnown task (map atom_of (effect_atoms (fitting_names task) a.effect (giving a.parameters os [])))) where
  abbrev fit : List Name → List Name
  fit = fitting_names task

  abbrev v : Valuation
  v = giving a.parameters os []

  fired_known : (s : Atoms) (x : Spoken) → Contains (fired fit s a.effect v) x → is_known task (atom_of x) ≡ true
  fired_known s x c = speaks.1 (atom_of x) (is_mapped atom_of (effect_atoms fit a.effect v) x (fired_spoken fit s a.effect v x c))

  added_known : (s : Atoms) (g : GroundValue) → effect_adds fit s a.effect v g ≡ true → is_known task g ≡ true
  added_known s g on =
      let found = any_found (tested no_atoms (same_ground g) no_atoms) (fired fit s a.effect v) on in
      of_added task g found.0 found.2 (fired_known s found.0 found.1)

  deleted_known : (s : Atoms) (g : GroundValue) → effect_dels fit s a.effect v g ≡ true → is_known task g ≡ true
  deleted_known s g on =
      let found = any_found (tested no_atoms no_atoms (same_ground g)) (fired fit s a.effect v) on in
      of_deleted task g found.0 found.2 (fired_known s found.0 found.1)

  action_known : ChangesKnown task (step_of task a os)
  action_known s g on = elim (or_cases _ _ on) [ inl added ↦ added_known s g added | inr deleted ↦ deleted_known s g deleted ]

-- one of two steps changes what they clash on
other_changes : (a d kr b e hr : Bool) → (((a || d) && kr) || (((b || e) && hr) || ((a && e) || (b && d)))) ≡ true → (a || d) ≡ false → (b || e) ≡ true
other_changes a d kr b e hr on off = grind arith

module _ (d : DomainValue) (p : ProblemValue) (linked : IsLinked d p) where
  abbrev task : TaskValue
  task = task_of d p

  step_known : (s : LinkedStepValue) (l : IsLinkedStep task s) → ChangesKnown task (step_of task l.action (named_step task s).objects)
  step_known s l =
      action_known task l.action (named_step task s).objects
      (steps_are_known d p linked l.action (at_place task.actions s.action l.action l.action_is) (named_step task s).objects (as_many d p linked s l) (objects_known d p linked s l))

  at_action : (s : LinkedStepValue) (l : IsLinkedStep task s) (o : Option ActionValue) → Some l.action ≡ o → ChangesKnown task (option_map_or (λ a. step_of task a (named_step task s).objects) o idle)
  at_action s l o is = subst (λ q. ChangesKnown task (option_map_or (λ a. step_of task a (named_step task s).objects) q idle)) is (step_known s l)

  module _ (steps : List LinkedStepValue) (are : AreLinkedSteps task steps) where
    at_step : (k : ℕ) (o : Option LinkedStepValue) → slice_get steps k ≡ o
        → ChangesKnown task (option_map_or (λ s. option_map_or (λ a. step_of task a (named_step task s).objects) (slice_get task.actions s.action) idle) o idle)
    at_step k (Some s) is =
        let l = each_linked d p linked steps are k s is in
        at_action s l (slice_get task.actions s.action) (sym l.action_is)
    at_step k None is = idle_known task

    changes_known : (k : ℕ) → ChangesKnown task (named_steps task steps k)
    changes_known k = at_step k (slice_get steps k) refl

    pub clash_known : (s : Atoms) (h k : ℕ) (g : GroundValue) → clash (named_steps task steps h) (named_steps task steps k) s g ≡ true → is_known task g ≡ true
    clash_known s h k g on =
        let one = named_steps task steps h in
        let other = named_steps task steps k in
        elim (cases_Bool (changes one s g)) [
          | inl is ↦ changes_known h s g is
          | inr off ↦ changes_known k s g (other_changes (one.adds s g) (one.dels s g) (other.reads g) (other.adds s g) (other.dels s g) (one.reads g) on off)
        ]
