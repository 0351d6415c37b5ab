-- What an action's form does is what the action does, and how many increases it has.
use Rattle.std.proofs.Common.{◌≡◌, ◌≤◌, ◌+◌, ◌*◌, ℕ, Bool, true, ◌||◌, cond, List, [], ◌∷◌, map, length, reverse, sym, ap, ◌∙◌, subst, arith}
use Rattle.std.specs.Prelude.{◌<◌, Some, slice_get, unwrap_or}
use Rattle.std.specs.List.{list_all}
use Rattle.std.specs.Option.{option_map_or}
use Rattle.std.proofs.lemmas.List.{length-map}
use Rattle.std.proofs.lemmas.List.Sums.{sum_by-le}
use Rattle.pddl_formula.specs.TypedLists.{TypedValue}
use Rattle.pddl_effect.specs.Effects as effects
use Rattle.pddl_effect.specs.Effects.{number, function, EffectValue, EffectValues, conditional, addition, deletion, increase, no_effects, effect}
use Rattle.pddl_domain.specs.Actions.{ActionValue}
use Rattle.pddl_domain.specs.Domains.{DomainValue}
use Rattle.pddl_problem.specs.Problems.{ProblemValue}
use Rattle.pddl_task.specs.Names.{Name, is_in, item_of, number_in}
use Rattle.pddl_task.specs.GroundSize.{quantifier_size, effect_size, effects_size, action_size, largest_size}
use Rattle.pddl_task.specs.Linked.{IsLinked}
use Rattle.pddl_task.specs.Tasks.{TaskValue, task_of, object_names, fitting_names, fitting_numbers, task_count}
use Rattle.pddl_task.specs.Types.{pairs, fitting}
use Rattle.std.proofs.lemmas.Option.{slice_get_within}
use Rattle.pddl_tables.specs.Prices.{prices_of}
use Rattle.pddl_tables.proofs.PricedCalls.{tables_are_over}
use Rattle.pddl_linked_plan.proofs.SoundSteps.{steps_have_names}
use Rattle.pddl_task.specs.Valuations.{giving}
use Rattle.pddl_state.specs.Atoms.{AtomValue, atom_eq}
use Rattle.pddl_meaning.specs.Worlds.{world_of}
use Rattle.pddl_state.specs.AtomSets.{no_atoms}
use Rattle.pddl_compiled.specs.Compiled.{ChangeValue, both, each, no_changes}
use Rattle.pddl_compiled.specs.Compiler.{ScopeValue, BinderValue, binder_of, binding, onto, wrapped, condition_of, change_of, changes_of_all}
use Rattle.pddl_compiled.specs.CompiledMeaning.{is_true}
use Rattle.pddl_compiled.specs.Frames.{Fits}
use Rattle.pddl_compiled.specs.Tables.{Tables, IsOver}
use Rattle.pddl_compiled.specs.TaskTables.{tables_of}
use Rattle.pddl_compiled.proofs.Parameters.{parameters_fit}
use Rattle.pddl_compiled.proofs.Same.{truth_right, tested_right, spoken_right, changed_right, spent_right}
use Rattle.pddl_evaluation.specs.Costs.{increases_of, increases_in, most_increases}
use Rattle.pddl_linked_plan.specs.LinkedSteps.{LinkedStepValue, AreLinkedSteps}
use Rattle.pddl_linked_plan.specs.LinkedLaws.{named_step, IsLinkedStep}
use Rattle.pddl_plan_steps.specs.NumberedSteps.{numbered_step}
use Rattle.pddl_plan_steps.specs.PlanSteps.{idle, numbered_steps, numbered_goal}
use Rattle.pddl_compiled_plan.specs.CompiledSteps.{scope_of, form_of, form_step}
use Rattle.pddl_plan_steps.proofs.PlanSteps.{objects_known, as_many, each_linked}

pub same_some : {X : Type 0} (x y : X) → Some x ≡ Some y → x ≡ y
same_some x y e = ap (λ o. unwrap_or o x) e

-- ---- what a form does

module _ (task : TaskValue) (price : AtomValue → ℕ) (over : IsOver (tables_of task) (world_of task) price) (a : ActionValue) (os : List Name)
    (many : length os ≡ length a.parameters) (known : list_all (is_in (object_names task)) os ≡ true) where
  abbrev t : Tables
  t = tables_of task

  abbrev numbers : List ℕ
  numbers = map (number_in (object_names task)) os

  fits : Fits t (giving a.parameters os []) (scope_of a) (reverse numbers)
  fits = parameters_fit t a.parameters os many known

  ready_is : (s : AtomValue → Bool) → (form_step price (form_of task a) numbers).ready s ≡ (numbered_step task a os).ready s
  ready_is s = truth_right (world_of task) t price over s a.precondition (giving a.parameters os []) (scope_of a) (reverse numbers) fits

  reads_is : (x : AtomValue) → (form_step price (form_of task a) numbers).reads x ≡ (numbered_step task a os).reads x
  reads_is x =
      let left = tested_right (world_of task) t price over (atom_eq x) a.precondition (giving a.parameters os []) (scope_of a) (reverse numbers) fits in
      let right = spoken_right (world_of task) t price over (atom_eq x) no_atoms no_atoms a.effect (giving a.parameters os []) (scope_of a) (reverse numbers) fits in
      λ i. left i || right i

  adds_is : (s : AtomValue → Bool) (x : AtomValue) → (form_step price (form_of task a) numbers).adds s x ≡ (numbered_step task a os).adds s x
  adds_is s x = changed_right (world_of task) t price over s (atom_eq x) no_atoms a.effect (giving a.parameters os []) (scope_of a) (reverse numbers) fits

  dels_is : (s : AtomValue → Bool) (x : AtomValue) → (form_step price (form_of task a) numbers).dels s x ≡ (numbered_step task a os).dels s x
  dels_is s x = changed_right (world_of task) t price over s no_atoms (atom_eq x) a.effect (giving a.parameters os []) (scope_of a) (reverse numbers) fits

  cost_is : (s : AtomValue → Bool) → (form_step price (form_of task a) numbers).cost s ≡ (numbered_step task a os).cost s
  cost_is s = spent_right (world_of task) t price over s a.effect (giving a.parameters os []) (scope_of a) (reverse numbers) fits

  pub form_does : form_step price (form_of task a) numbers ≡ numbered_step task a os
  form_does = λ i. record { ready = λ s. ready_is s i; reads = λ x. reads_is x i; adds = λ s x. adds_is s x i; dels = λ s x. dels_is s x i; cost = λ s. cost_is s i }

-- ---- how many increases it has

module _ (t : Tables) (count : List Name → ℕ) (counts : (types : List Name) → length (t.range types) ≡ count types) where
  -- under a variable over some objects, where what is behind it has at most so many
  behind : (n : ℕ) (rest : ChangeValue) → increases_of rest ≤ n → (os : List ℕ) → increases_of (each os rest) ≤ length os * n
  behind n rest fewer os = sum_by-le (λ e. increases_of rest) n os (λ d k low. fewer)

  -- of one variable more
  one : (b : BinderValue) (c : ChangeValue) (m : ℕ) → increases_of (wrapped each b.ranges (cond b.closed (both no_changes) c)) ≤ m → (x : Name) (range : List ℕ)
      → increases_of (wrapped each (binding x range b).ranges (cond (binding x range b).closed (both no_changes) c)) ≤ 1 + length range * m
  one b c m fewer x [] = omega arith
  one b c m fewer x (o ∷ []) = omega (arith, fewer)
  one b c m fewer x (o ∷ q ∷ os) = omega (arith, behind m (wrapped each b.ranges (cond b.closed (both no_changes) c)) fewer (o ∷ q ∷ os))

  -- under a quantifier, whatever number of increases its body has at most
  under : (n : ℕ) (c : ChangeValue) → increases_of c ≤ n → (xs : List TypedValue)
      → increases_of (wrapped each (binder_of t.range xs).ranges (cond (binder_of t.range xs).closed (both no_changes) c)) ≤ quantifier_size count xs n
  under n c within [] = omega (arith, within)
  under n c within (x ∷ xs) =
      subst (λ k. increases_of (wrapped each (binder_of t.range (x ∷ xs)).ranges (cond (binder_of t.range (x ∷ xs)).closed (both no_changes) c)) ≤ 1 + k * quantifier_size count xs n)
      (counts x.of) (one (binder_of t.range xs) c (quantifier_size count xs n) (under n c within xs) x.item (t.range x.of))

  mutual
    pub increases_within : (e : EffectValue) (scope : ScopeValue) → increases_of (change_of t e scope) ≤ effect_size count e
    increases_within (effects.conjunction es) scope = omega (arith, all_within es scope)
    increases_within (effects.universal xs e) scope =
        under (effect_size count e) (change_of t e (onto (binder_of t.range xs).slots scope)) (increases_within e (onto (binder_of t.range xs).slots scope)) xs
    increases_within (conditional f e) scope = omega (arith, increases_within e scope)
    increases_within (addition a) scope = omega arith
    increases_within (deletion a) scope = omega arith
    increases_within (increase (number n)) scope = omega arith
    increases_within (increase (function f)) scope = omega arith

    all_within : (es : EffectValues) (scope : ScopeValue) → increases_in (changes_of_all t es scope) ≤ effects_size count es
    all_within no_effects scope = omega arith
    all_within (effect e es) scope = omega (arith, increases_within e scope, all_within es scope)

-- ---- the steps of a plan

module _ (d : DomainValue) (p : ProblemValue) (linked : IsLinked d p) where
  abbrev task : TaskValue
  task = task_of d p

  over : IsOver (tables_of task) (world_of task) (prices_of task)
  over = tables_are_over d p linked

  counts : (types : List Name) → length (fitting_numbers task types) ≡ task_count task types
  counts types = ap length (over.ranges types) ∙ length-map (fitting_names task types) (number_in (object_names task)) ∙ length-map (fitting (pairs task.types) task.objects types) item_of

  -- the goal's form is true where the goal is
  pub goal_by_form : (s : AtomValue → Bool) → is_true s (condition_of (tables_of task) task.goal []) [] ≡ numbered_goal task s
  goal_by_form s = truth_right (world_of task) (tables_of task) (prices_of task) over s task.goal [] [] [] tt

  module _ (steps : List LinkedStepValue) (are : AreLinkedSteps task steps) (k : ℕ) (s : LinkedStepValue) (is : slice_get steps k ≡ Some s) where
    l : IsLinkedStep task s
    l = each_linked d p linked steps are k s is

    objects_back : map (number_in (object_names task)) (named_step task s).objects ≡ s.objects
    objects_back = ap (λ q. q.objects) (steps_have_names d p linked s l).2

    pub action_low : s.action < length task.actions
    action_low = slice_get_within task.actions s.action l.action l.action_is

    -- a step is the form of its action with its objects
    pub step_by_form : (a : ActionValue) → slice_get task.actions s.action ≡ Some a → numbered_steps task steps k ≡ form_step (prices_of task) (form_of task a) s.objects
    step_by_form a at =
        let own : l.action ≡ a = same_some l.action a (sym l.action_is ∙ at) in
        ap (λ o. option_map_or (λ q. option_map_or (λ b. numbered_step task b (named_step task q).objects) (slice_get task.actions q.action) idle) o idle) is
        ∙ ap (λ o. option_map_or (λ b. numbered_step task b (named_step task s).objects) o idle) at
        ∙ sym (form_does task (prices_of task) over a (named_step task s).objects (as_many d p linked s l ∙ ap (λ b. length b.parameters) own) (objects_known d p linked s l))
        ∙ ap (form_step (prices_of task) (form_of task a)) objects_back

    pub few_increases : (a : ActionValue) → slice_get task.actions s.action ≡ Some a → increases_of (form_of task a).effect ≤ most_increases
    few_increases a at =
        let own : l.action ≡ a = same_some l.action a (sym l.action_is ∙ at) in
        let small : action_size (task_count task) a ≤ largest_size = subst (λ b. action_size (task_count task) b ≤ largest_size) own l.within in
        omega (arith, increases_within (tables_of task) (task_count task) counts a.effect (scope_of a), small)
