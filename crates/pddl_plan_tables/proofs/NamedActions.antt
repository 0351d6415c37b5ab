-- The actions of a task in a table by name.
use Rattle.std.proofs.Common.{◌≡◌, ℕ, false, ◌||◌, List, [], ◌∷◌, map, length, refl, sym, ap, ◌∙◌, bytes_eq}
use Rattle.std.specs.Prelude.{Option, Some, None, is_some, option_map, position}
use Rattle.std.specs.Borrow.{Bor}
use Rattle.std.specs.List.{slice_get}
use Rattle.std.specs.Map.{keys_of, lookup}
use Rattle.std.proofs.lemmas.List.{length-map}
use Rattle.std.proofs.lemmas.Option.{slice_get-map}
use Rattle.pddl_domain.specs.declared.domain.Action.{Action}
use Rattle.pddl_domain.specs.Actions.{ActionValue, action_view}
use Rattle.pddl_domain.specs.declared.domain.Domain.{Domain}
use Rattle.pddl_domain.specs.Domains.{DomainValue, domain_view}
use Rattle.pddl_problem.specs.Problems.{ProblemValue}
use Rattle.pddl_task.specs.Names.{Name, is_in, repeated, number_in}
use Rattle.pddl_task.specs.Faults.{domain_repeats, problem_repeats}
use Rattle.pddl_task.specs.GroundSize.{capped, action_size}
use Rattle.pddl_task.specs.Linked.{IsLinked}
use Rattle.pddl_task.specs.Tasks.{TaskValue, task_count}
use Rattle.pddl_task.proofs.Lists.{nil_parts}
use Rattle.pddl_linked_task.specs.LinkedTasks.{Files}
use Rattle.pddl_linked_task.proofs.OnceNamed.{actions_once}
use Rattle.pddl_plan_tables.proofs.HeldNames.{AreHeld, held_none}
use Rattle.pddl_faults.proofs.PutValues.{found_or}
use Rattle.pddl_linked_plan.specs.StepFaults.{action_name, action_names, action_named}
use Rattle.pddl_plan_tables.specs.declared.action_table.SizedAction.{SizedAction}
use Rattle.pddl_plan_tables.specs.StepTables.{NamedAction, named_action, named_in}
use Rattle.pddl_task.proofs.Numbers.{number_is, is_placed}
use Rattle.pddl_linked_plan.proofs.Numbers.{found_at_number, place_lent}

-- ---- no two actions of linked files have one name

named_once : (d : DomainValue) (p : ProblemValue) → IsLinked d p → repeated [] (map action_name d.actions) ≡ []
named_once d p linked = actions_once d (nil_parts (domain_repeats d) (problem_repeats d p) linked.1.1.1.1.0).0

pub once_in_files : {A : Type 0} (d : Domain A) (f : Files) (actions : List (Action A)) → domain_view d ≡ f.domain → IsLinked f.domain f.problem → actions ≡ d.actions.items
    → repeated [] (map action_name (map action_view actions)) ≡ []
once_in_files d f actions domain linked are =
    ap (λ (xs : List (Action _)). repeated [] (map action_name (map action_view xs))) are ∙ ap (λ (e : DomainValue). repeated [] (map action_name e.actions)) domain
    ∙ named_once f.domain f.problem linked

-- ---- the names in a table

abbrev pub Entry : Type 0 → Type 0
Entry A = Bor (List ℕ) × SizedAction A

abbrev pub name_in : NamedAction → Name
name_in a = a.name

pub names_are : (count : List Name → ℕ) (all : List ActionValue) → map name_in (map (named_action count) all) ≡ map action_name all
names_are count [] = refl
names_are count (a ∷ all) = ap (λ ns. a.name ∷ ns) (names_are count all)

pub is_named : {A : Type 0} (es : List (Entry A)) (n : Name) → is_some (lookup (λ k. bytes_eq n k.now) es) ≡ is_in (map name_in (map named_in es)) n
is_named [] n = refl
is_named (e ∷ es) n = found_or (bytes_eq n e.0.now) e.1 (lookup (λ k. bytes_eq n k.now) es) ∙ ap (λ b. bytes_eq n e.0.now || b) (is_named es n)

pub actions_as_many : {A : Type 0} (task : TaskValue) (es : List (Entry A)) → map named_in es ≡ map (named_action (task_count task)) task.actions → length es ≡ length task.actions
actions_as_many task es are = sym (length-map es named_in) ∙ ap length are ∙ length-map task.actions (named_action (task_count task))

-- ---- actions that are put in one by one

pub held_start : {A : Type 0} (count : List Name → ℕ) (es : List (Entry A)) (all : List ActionValue) → es ≡ [] → repeated [] (map action_name all) ≡ []
    → AreHeld named_in name_in (map (named_action count) all) es (map (named_action count) all)
held_start count es all none once = held_none named_in name_in (map (named_action count) all) es none (ap (repeated []) (names_are count all) ∙ once)

pub entry_is : {A : Type 0} (count : List Name → ℕ) (key : Bor (List ℕ)) (held : SizedAction A) (x : Action A) → key.now ≡ x.name → held.action.now ≡ x → held.size ≡ capped (action_size count (action_view x))
    → named_in (key, held) ≡ named_action count (action_view x)
entry_is count key held x name action size =
    ap (λ n. record { name = n; action = action_view held.action.now; size = held.size }) name
    ∙ ap (λ (y : Action _). record { name = x.name; action = action_view y; size = held.size }) action
    ∙ ap (λ k. record { name = x.name; action = action_view x; size = k }) size

-- ---- an action that is looked up

some_same : {X : Type 0} (x y : X) → Some x ≡ Some y → x ≡ y
some_same x y h = cc

module _ {A : Type 0} (task : TaskValue) (es : List (Entry A)) (n : Name) (are : map named_in es ≡ map (named_action (task_count task)) task.actions) where
  abbrev pub Place : Option ℕ
  Place = position (λ k. bytes_eq n k.now) (keys_of es)

  place_is : Place ≡ position (bytes_eq n) (action_names task)
  place_is =
      place_lent named_in name_in (λ e. refl) es n
      ∙ ap (λ all. position (bytes_eq n) (map name_in all)) are ∙ ap (position (bytes_eq n)) (names_are (task_count task) task.actions)

  -- none is there
  pub none_named : None ≡ Place → is_in (action_names task) n ≡ false
  none_named at = sym (is_placed (action_names task) n) ∙ sym (ap is_some (at ∙ place_is))

  -- one is there: this is its number
  pub number_found : (i : ℕ) → Some i ≡ Place → i ≡ number_in (action_names task) n
  number_found i at = number_is (action_names task) n i (at ∙ place_is)

  number_named : (i : ℕ) → Some i ≡ Place → action_named task n ≡ slice_get task.actions i
  number_named i at = found_at_number action_name task.actions n ∙ sym (ap (slice_get task.actions) (number_found i at))

  -- what is found is the action, and its size
  pub record IsFound (a : NamedAction) : Type 0 where
    pub action_is : action_named task n ≡ Some a.action
    pub size_is : a.size ≡ capped (action_size (task_count task) a.action)

  by_action : (i : ℕ) (o : Option ActionValue) (a : NamedAction) → action_named task n ≡ o → option_map (named_action (task_count task)) o ≡ Some a → IsFound a
  by_action i None a named is = cc
  by_action i (Some b) a named is =
      let same = some_same (named_action (task_count task) b) a is in
      record {
        action_is = named ∙ ap (λ (c : NamedAction). Some c.action) same;
        size_is = sym (ap (λ (c : NamedAction). c.size) same) ∙ ap (λ (c : NamedAction). capped (action_size (task_count task) c.action)) same;
      }

  pub action_found : (i : ℕ) (e : Entry A) → Some i ≡ Place → slice_get es i ≡ Some e → IsFound (named_in e)
  action_found i e at there =
      by_action i (slice_get task.actions i) (named_in e) (number_named i at)
      (sym (slice_get-map (named_action (task_count task)) task.actions i) ∙ sym (ap (λ all. slice_get all i) are) ∙ slice_get-map named_in es i ∙ ap (option_map named_in) there)

  -- it stands there among the task's actions
  pub action_there : (i : ℕ) (e : Entry A) → Some i ≡ Place → slice_get es i ≡ Some e → slice_get task.actions i ≡ Some (named_in e).action
  action_there i e at there = sym (number_named i at) ∙ (action_found i e at there).action_is
