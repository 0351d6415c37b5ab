-- A change has a cost that passes a test where the effect has that it was compiled from.
use Rattle.std.proofs.Common.{◌≡◌, ℕ, Bool, true, not, List, [], map, length, reverse, refl, ap, subst, ◌∙◌}
use Rattle.std.specs.Prelude.{Option, is_some}
use Rattle.std.specs.List.{list_all}
use Rattle.pddl_plan.specs.Plans.{StepValue}
use Rattle.pddl_effect.specs.Effects as effects
use Rattle.pddl_effect.specs.Effects.{AmountValue, EffectValue, EffectValues}
use Rattle.pddl_domain.specs.Actions.{ActionValue}
use Rattle.pddl_domain.specs.Domains.{DomainValue}
use Rattle.pddl_problem.specs.Inits.{GroundValue}
use Rattle.pddl_problem.specs.Problems.{ProblemValue}
use Rattle.pddl_task.specs.Names.{is_in, number_in}
use Rattle.pddl_task.specs.Linked.{IsLinked}
use Rattle.pddl_task.specs.Valuations.{Valuation, giving}
use Rattle.pddl_task.specs.Tasks.{TaskValue, task_of, object_names, fitting_names}
use Rattle.pddl_state.specs.Atoms.{AtomValue}
use Rattle.pddl_meaning.specs.Worlds.{World, world_of}
use Rattle.pddl_compiled.specs.Compiled.{each, both, no_changes}
use Rattle.pddl_compiled.specs.CompiledMeaning.{FrameValue}
use Rattle.pddl_compiled.specs.Tables.{Tables, number_atom, IsOver}
use Rattle.pddl_compiled.specs.Compiler.{ScopeValue, increase_of, change_of, changes_of_all}
use Rattle.pddl_compiled.specs.Frames.{Fits}
use Rattle.pddl_compiled.specs.TaskTables.{tables_of}
use Rattle.pddl_compiled.proofs.Same.{any_nested, call_right}
use Rattle.pddl_compiled.proofs.Parameters.{parameters_fit}
use Rattle.pddl_linked_plan.specs.StepFaults.{some_amount, some_increase, some_increase_in, some_costless}
use Rattle.pddl_tables.specs.Prices.{price_at, prices_of}
use Rattle.pddl_plan_tables.specs.ChangeCosts.{is_unpriced, some_cost, some_cost_in}
use Rattle.pddl_plan_tables.specs.ActionChanges.{scope_of, effect_of}
use Rattle.pddl_tables.proofs.PricedCalls.{price_is_cost, tables_are_over}

module _ (w : World) (t : Tables) (price : AtomValue → ℕ) (over : IsOver t w price) (test : AtomValue → Bool) where
  abbrev by_name : GroundValue → Bool
  by_name g = test (number_atom t.functions t.objects g)

  increase_right : (a : AmountValue) (v : Valuation) (scope : ScopeValue) (env : FrameValue) → Fits t v scope env → some_cost (increase_of t a scope) test env ≡ some_amount by_name a v
  increase_right (effects.number n) v scope env h = refl
  increase_right (effects.function f) v scope env h = ap test (call_right w t price over v scope env f h)

  mutual
    pub cost_right : (e : EffectValue) (v : Valuation) (scope : ScopeValue) (env : FrameValue) → Fits t v scope env → some_cost (change_of t e scope) test env ≡ some_increase w.fit e by_name v
    cost_right (effects.conjunction es) v scope env h = costs_right es v scope env h
    cost_right (effects.universal xs e) v scope env h =
        any_nested w t price over each (both no_changes) (λ c en. some_cost c test en) (change_of t e) (some_increase w.fit e by_name) (λ u sc en k. cost_right e u sc en k) (λ range c en. refl) xs v scope env h
    cost_right (effects.conditional f e) v scope env h = cost_right e v scope env h
    cost_right (effects.addition a) v scope env h = refl
    cost_right (effects.deletion a) v scope env h = refl
    cost_right (effects.increase a) v scope env h = increase_right a v scope env h

    costs_right : (es : EffectValues) (v : Valuation) (scope : ScopeValue) (env : FrameValue) → Fits t v scope env → some_cost_in (changes_of_all t es scope) test env ≡ some_increase_in w.fit es by_name v
    costs_right effects.no_effects v scope env h = refl
    costs_right (effects.effect e es) v scope env h =
        let head : some_cost (change_of t e scope) test env ≡ some_increase w.fit e by_name v = cost_right e v scope env h in
        let tail : some_cost_in (changes_of_all t es scope) test env ≡ some_increase_in w.fit es by_name v = costs_right es v scope env h in
        cc

-- so a step has an increase without a cost where its change has, in the frame of its objects
pub costless_right : (d : DomainValue) (p : ProblemValue) → IsLinked d p → (a : ActionValue) (s : StepValue) → length s.objects ≡ length a.parameters
    → list_all (is_in (object_names (task_of d p))) s.objects ≡ true
    → some_cost (effect_of (task_of d p) a) (is_unpriced (price_at (task_of d p))) (reverse (map (number_in (object_names (task_of d p))) s.objects)) ≡ some_costless (task_of d p) s a
costless_right d p linked a s as_many known =
    let task = task_of d p in
    let t = tables_of task in
    cost_right (world_of task) t (prices_of task) (tables_are_over d p linked) (is_unpriced (price_at task)) a.effect (giving a.parameters s.objects []) (scope_of a) (reverse (map (number_in (object_names task)) s.objects))
    (parameters_fit t a.parameters s.objects as_many known)
    ∙ ap (λ q. some_increase (fitting_names task) a.effect q (giving a.parameters s.objects [])) (λ i g. not (is_some (price_is_cost d p linked g i)))

-- a step has one where this was found of a change of its action, in the numbers of its objects
pub costless_found : (d : DomainValue) (p : ProblemValue) (task : TaskValue) → IsLinked d p → task_of d p ≡ task → (price : AtomValue → Option ℕ) → ((g : AtomValue) → price g ≡ price_at task g)
    → (a : ActionValue) (s : StepValue) (numbers : List ℕ) (costless : Bool) → length s.objects ≡ length a.parameters → list_all (is_in (object_names task)) s.objects ≡ true
    → numbers ≡ map (number_in (object_names task)) s.objects → costless ≡ some_cost (effect_of task a) (is_unpriced price) (reverse numbers) → costless ≡ some_costless task s a
costless_found d p task linked files price priced a s numbers costless as_many known own found =
    found ∙ ap (λ q. some_cost (effect_of task a) (is_unpriced q) (reverse numbers)) (λ i g. priced g i)
    ∙ ap (λ ns. some_cost (effect_of task a) (is_unpriced (price_at task)) (reverse ns)) own ∙ by_name known
  where
    by_name : list_all (is_in (object_names task)) s.objects ≡ true
        → some_cost (effect_of task a) (is_unpriced (price_at task)) (reverse (map (number_in (object_names task)) s.objects)) ≡ some_costless task s a
    by_name = subst (λ t. list_all (is_in (object_names t)) s.objects ≡ true
        → some_cost (effect_of t a) (is_unpriced (price_at t)) (reverse (map (number_in (object_names t)) s.objects)) ≡ some_costless t s a) files (costless_right d p linked a s as_many)
