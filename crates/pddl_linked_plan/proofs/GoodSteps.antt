-- What a step without faults has, and that one which has it has no fault.
use Rattle.std.proofs.Common.{◌≡◌, ◌≤◌, ℕ, Bool, true, false, not, ◌&&◌, ◌||◌, ◌==◌, List, [], ◌∷◌, ◌++◌, map, length, nat_lt, refl, sym, ap, ◌∙◌, arith, true≢false}
use Rattle.std.specs.Prelude.{Option, Some, None, is_some}
use Rattle.std.specs.Option.{option_map_or}
use Rattle.std.specs.List.{list_any, list_all}
use Rattle.std.proofs.lemmas.Bool.Decides.{nat_tests}
use Rattle.pddl_plan.specs.Plans.{StepValue}
use Rattle.pddl_formula.specs.Terms.{name}
use Rattle.pddl_domain.specs.Actions.{ActionValue}
use Rattle.pddl_task.specs.Names.{Name, is_in}
use Rattle.pddl_task.specs.Faults.{some_misfit}
use Rattle.pddl_task.specs.GroundSize.{largest_size, action_size}
use Rattle.pddl_task.specs.Tasks.{TaskValue, object_names, task_count}
use Rattle.pddl_linked_plan.specs.StepFaults.{action_name, action_named, naming, has_arity, unknown_action, other_arity, unknown_object, unfit_object, is_applied, is_large, some_costless, cost_undefined, too_large, number_if, IsGoodStep}
use Rattle.pddl_linked_plan.proofs.Numbers.{is_found}
use Rattle.pddl_linked_plan.proofs.StepTests.{none_stands}

pub record IsFaultless (task : TaskValue) (s : StepValue) : Type 0 where
  pub action : ActionValue
  pub named : action_named task s.action ≡ Some action
  pub arity : length s.objects ≡ length action.parameters
  pub known : list_all (is_in (object_names task)) s.objects ≡ true
  pub fitting : some_misfit (naming task.types task.objects) [] (map name s.objects) action.parameters ≡ false
  pub costs : some_costless task s action ≡ false
  pub within : action_size (task_count task) action ≤ largest_size

-- ---- names of which none is unknown

module _ (known : List Name) where
  pub no_other : (ns : List Name) → list_any (λ o. not (is_in known o)) ns ≡ false → list_all (is_in known) ns ≡ true
  no_other [] h = refl
  no_other (n ∷ ns) h = by (is_in known n) (list_any (λ o. not (is_in known o)) ns) (list_all (is_in known) ns) h (no_other ns)
    where
      by : (b rest all : Bool) → not b || rest ≡ false → (rest ≡ false → all ≡ true) → b && all ≡ true
      by true rest all h more = more h
      by false rest all h more = cc

  pub none_unknown : (ns : List Name) → list_all (is_in known) ns ≡ true → list_any (λ o. not (is_in known o)) ns ≡ false
  none_unknown [] h = refl
  none_unknown (n ∷ ns) h = by (is_in known n) (list_any (λ o. not (is_in known o)) ns) (list_all (is_in known) ns) h (none_unknown ns)
    where
      by : (b rest all : Bool) → b && all ≡ true → (all ≡ true → rest ≡ false) → not b || rest ≡ false
      by true rest all h more = more h
      by false rest all h more = cc

-- ---- tests and numbers

stands_not : (b : Bool) (n : ℕ) → number_if b n ≡ [] → b ≡ false
stands_not true n h = cc
stands_not false n h = refl

same_numbers : (m n : ℕ) → not (m == n) ≡ false → m ≡ n
same_numbers m n h = grind (arith, nat_tests)

numbers_same : (m n : ℕ) → m ≡ n → m == n ≡ true
numbers_same m n h = grind (arith, nat_tests)

not_above : (m n : ℕ) → nat_lt m n ≡ false → n ≤ m
not_above m n h = grind (arith, nat_tests)

above_not : (m n : ℕ) → n ≤ m → nat_lt m n ≡ false
above_not m n h = grind (arith, nat_tests)

second_off : (b c : Bool) → b ≡ true → b && c ≡ false → c ≡ false
second_off true c is h = h
second_off false c is h = cc

nil_parts : (xs ys : List ℕ) → xs ++ ys ≡ [] → (xs ≡ []) × (ys ≡ [])
nil_parts [] ys h = (refl, h)
nil_parts (x ∷ xs) ys h = cc

none_of_six : (a b c d e f : List ℕ) → a ++ b ++ c ++ d ++ e ++ f ≡ [] → (a ≡ []) × (b ≡ []) × (c ≡ []) × (d ≡ []) × (e ≡ []) × (f ≡ [])
none_of_six a b c d e f h =
    let five = nil_parts (a ++ b ++ c ++ d ++ e) f h in
    let four = nil_parts (a ++ b ++ c ++ d) e five.0 in
    let three = nil_parts (a ++ b ++ c) d four.0 in
    let two = nil_parts (a ++ b) c three.0 in
    let one = nil_parts a b two.0 in
    (one.0, one.1, two.1, three.1, four.1, five.1)

-- ---- both ways

module _ (task : TaskValue) (s : StepValue) (good : IsGoodStep task s) where
  abbrev Parts : Type 0
  Parts = (number_if (unknown_action task s) 40 ≡ []) × (number_if (other_arity task s) 41 ≡ []) × (number_if (unknown_object task s) 42 ≡ [])
      × (number_if (unfit_object task s) 43 ≡ []) × (number_if (cost_undefined task s) 44 ≡ []) × (number_if (too_large task s) 46 ≡ [])

  parts : Parts
  parts = none_of_six (number_if (unknown_action task s) 40) (number_if (other_arity task s) 41) (number_if (unknown_object task s) 42)
      (number_if (unfit_object task s) 43) (number_if (cost_undefined task s) 44) (number_if (too_large task s) 46) good

  by_action : (o : Option ActionValue) → action_named task s.action ≡ o → IsFaultless task s
  by_action None named = absurd (true≢false (ap not (sym (is_found action_name task.actions s.action ∙ ap is_some named)) ∙ stands_not (unknown_action task s) 40 parts.0))
  by_action (Some a) named =
      let other : not (has_arity s a) ≡ false = sym (ap (λ o. option_map_or (λ b. not (has_arity s b)) o false) named) ∙ stands_not (other_arity task s) 41 parts.1 in
      let as_many = same_numbers (length s.objects) (length a.parameters) other in
      let objects = stands_not (unknown_object task s) 42 parts.2 in
      let applied : is_applied task s a ≡ true =
      ap (λ b. b && not (unknown_object task s)) (numbers_same (length s.objects) (length a.parameters) as_many) ∙ ap not objects in
      let small : is_large task a ≡ false = sym (ap (λ o. option_map_or (is_large task) o false) named) ∙ stands_not (too_large task s) 46 parts.5 in
      record {
        action = a;
        named = named;
        arity = as_many;
        known = no_other (object_names task) s.objects objects;
        fitting = sym (ap (λ o. option_map_or (λ (b : ActionValue). some_misfit (naming task.types task.objects) [] (map name s.objects) b.parameters) o false) named)
            ∙ stands_not (unfit_object task s) 43 parts.3;
        costs = second_off (not (is_large task a)) (some_costless task s a) (ap not small)
            (second_off (is_applied task s a) (not (is_large task a) && some_costless task s a) applied
            (sym (ap (λ o. option_map_or (λ b. is_applied task s b && (not (is_large task b) && some_costless task s b)) o false) named) ∙ stands_not (cost_undefined task s) 44 parts.4));
        within = not_above largest_size (action_size (task_count task) a) small;
      }

  pub faultless_of : IsFaultless task s
  faultless_of = by_action (action_named task s.action) refl

pub good_of : (task : TaskValue) (s : StepValue) → IsFaultless task s → IsGoodStep task s
good_of task s f =
    none_stands task s f.action f.named (numbers_same (length s.objects) (length f.action.parameters) f.arity) (none_unknown (object_names task) s.objects f.known)
    f.fitting (above_not largest_size (action_size (task_count task) f.action) f.within) f.costs
