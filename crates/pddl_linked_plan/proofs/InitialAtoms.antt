-- Facts of `:init` by numbers, one after another.
use Rattle.std.proofs.Common.{◌≡◌, ◌<◌, ◌≤◌, ℕ, zero, suc, ◌+◌, Bool, true, false, ◌&&◌, List, [], ◌∷◌, ◌++◌, map, length, get_or, drop, refl, sym, ap, subst, ◌∙◌, bytes_eq, append_assoc, arith}
use Rattle.std.specs.Prelude.{Option, Some, None, is_some, position, slice_get, Contains}
use Rattle.std.specs.List.{list_all, filter_map, cons_option, AllByRecursion}
use Rattle.std.proofs.lemmas.List.{drop_all, append-nil, length-map}
use Rattle.pddl_problem.specs.Inits.{GroundValue, InitValue, holds, init_view}
use Rattle.pddl_problem.specs.declared.problem.InitItem.{InitItem}
use Rattle.pddl_domain.specs.Domains.{DomainValue}
use Rattle.pddl_problem.specs.Problems.{ProblemValue}
use Rattle.pddl_task.specs.Names.{Name, is_in, item_of, number_in}
use Rattle.pddl_task.specs.Settings.{symbol_of}
use Rattle.pddl_task.specs.Linked.{IsLinked}
use Rattle.pddl_task.specs.Tasks.{TaskValue, task_of, fact_in, predicate_names, object_names}
use Rattle.pddl_task.specs.Known.{is_known}
use Rattle.pddl_state.specs.Atoms.{AtomValue}
use Rattle.pddl_task.proofs.KnownAtoms.{initial_is_known}
use Rattle.pddl_task.proofs.Lists.{and_both}
use Rattle.pddl_task.proofs.LinkedTasks.{predicates_stand_once, objects_stand_once}
use Rattle.pddl_task.proofs.LowestFault.{linked_is_good}
use Rattle.pddl_faults.proofs.ListTurns.{rest_is, views_drop}
use Rattle.pddl_linked_plan.specs.LinkedLaws.{name_at}
use Rattle.pddl_linked_plan.specs.NumberedAtoms.{numbered, initial_atoms, NamesAtom, IsInRange, named_atom}
use Rattle.pddl_task.proofs.Numbers.{is_placed}
use Rattle.pddl_linked_plan.proofs.NameNumbers.{at_number, name_of_number, number_in_range, names_of_numbers, numbers_in_range, name_is_in, names_are_in, number_of_name, numbers_of_names}

-- ---- one name

-- a name that is known has a number
pub has_number : (names : List Name) (n : Name) (found : Option ℕ) → found ≡ position (bytes_eq n) names → is_in names n ≡ true → is_some found ≡ true
has_number names n found at known = ap is_some at ∙ is_placed names n ∙ known

both : (b c : Bool) → b && c ≡ true → (b ≡ true) × (c ≡ true)
both true c h = (refl, h)
both false c h = cc

-- ---- the objects of a fact

pub record AreNumbers (names objects : List Name) (i : ℕ) (args : List ℕ) : Type 0 where
  pub known : list_all (is_in names) (drop i objects) ≡ true
  pub so_far : args ++ map (number_in names) (drop i objects) ≡ map (number_in names) objects

pub no_numbers : (names objects : List Name) (args : List ℕ) → list_all (is_in names) objects ≡ true → args ≡ [] → AreNumbers names objects 0 args
no_numbers names objects args known none = record { known = known; so_far = ap (λ ns. ns ++ map (number_in names) objects) none }

module _ (names objects : List Name) (i : ℕ) (n : Name) (low : i < length objects) (at : n ≡ get_or objects i n) where
  parts : list_all (is_in names) (drop i objects) ≡ true → (is_in names n ≡ true) × (list_all (is_in names) (drop (i + 1) objects) ≡ true)
  parts known = both (is_in names n) (list_all (is_in names) (drop (i + 1) objects)) (sym (ap (list_all (is_in names)) (rest_is objects i n low at)) ∙ known)

  pub next_known : (args : List ℕ) → AreNumbers names objects i args → is_in names n ≡ true
  next_known args is = (parts is.known).0

  pub one_more_number : (args : List ℕ) (k : ℕ) → k ≡ number_in names n → AreNumbers names objects i args → AreNumbers names objects (i + 1) (args ++ k ∷ [])
  one_more_number args k number is = record {
    known = (parts is.known).1;
    so_far = append_assoc args (k ∷ []) (map (number_in names) (drop (i + 1) objects))
        ∙ ap (λ j. args ++ j ∷ map (number_in names) (drop (i + 1) objects)) number
        ∙ sym (ap (λ ns. args ++ map (number_in names) ns) (rest_is objects i n low at)) ∙ is.so_far;
  }

pub all_numbers : (names objects : List Name) (i : ℕ) (args : List ℕ) → length objects ≤ i → AreNumbers names objects i args → args ≡ map (number_in names) objects
all_numbers names objects i args past is =
    sym (append-nil args) ∙ sym (ap (λ ns. args ++ map (number_in names) ns) (drop_all i objects past)) ∙ is.so_far

-- what is known of an atom
pub names_known : (task : TaskValue) (g : GroundValue) → is_known task g ≡ true → (is_in (predicate_names task) g.name ≡ true) × (list_all (is_in (object_names task)) g.objects ≡ true)
names_known task g known = both (is_in (predicate_names task) g.name) (list_all (is_in (object_names task)) g.objects) known

-- ---- the facts that hold

abbrev pub AllKnown : TaskValue → List GroundValue → Type 0
AllKnown task gs = AllByRecursion (λ g. is_known task g ≡ true) gs

all_contained : {X : Type 0} (P : X → Type 0) (xs : List X) → ((x : X) → Contains xs x → P x) → AllByRecursion P xs
all_contained P [] h = tt
all_contained P (x ∷ xs) h = (h x (zero, omega arith, refl), all_contained P xs (λ y c. h y (suc c.0, omega (arith, c.1), c.2)))

all_known : (d : DomainValue) (p : ProblemValue) → IsLinked d p → AllKnown (task_of d p) (filter_map fact_in p.init)
all_known d p linked = all_contained (λ g. is_known (task_of d p) g ≡ true) (filter_map fact_in p.init) (initial_is_known d p linked)

module _ {A : Type 0} (task : TaskValue) (init : List (InitItem A)) where
  abbrev pub facts_from : ℕ → List GroundValue
  facts_from i = filter_map fact_in (map init_view (drop i init))

  pub record AreFacts (i : ℕ) (atoms : List AtomValue) : Type 0 where
    pub known : AllKnown task (facts_from i)
    pub so_far : atoms ++ map (numbered task) (facts_from i) ≡ map (numbered task) (filter_map fact_in (map init_view init))

  module _ (i : ℕ) (item : InitItem A) (low : i < length init) (at : item ≡ get_or init i item) (atoms : List AtomValue) where
    front : (v : InitValue) → init_view item ≡ v → facts_from i ≡ filter_map fact_in (v ∷ map init_view (drop (i + 1) init))
    front v is = ap (filter_map fact_in) (views_drop init_view init i item low at) ∙ ap (λ w. filter_map fact_in (w ∷ map init_view (drop (i + 1) init))) is

    pub fact_known : (g : GroundValue) → init_view item ≡ holds g → AreFacts i atoms → is_known task g ≡ true
    fact_known g is so_far = (subst (AllKnown task) (front (holds g) is) so_far.known).0

    pub one_more_fact : (g : GroundValue) (atom : AtomValue) → init_view item ≡ holds g → atom ≡ numbered task g → AreFacts i atoms → AreFacts (i + 1) (atoms ++ atom ∷ [])
    one_more_fact g atom is same so_far = record {
      known = (subst (AllKnown task) (front (holds g) is) so_far.known).1;
      so_far = append_assoc atoms (atom ∷ []) (map (numbered task) (facts_from (i + 1)))
          ∙ ap (λ a. atoms ++ a ∷ map (numbered task) (facts_from (i + 1))) same
          ∙ sym (ap (λ gs. atoms ++ map (numbered task) gs) (front (holds g) is)) ∙ so_far.so_far;
    }

    pub no_fact : (v : InitValue) → init_view item ≡ v → fact_in v ≡ None → AreFacts i atoms → AreFacts (i + 1) atoms
    no_fact v is none so_far =
        let same : facts_from i ≡ facts_from (i + 1) = front v is ∙ ap (λ o. cons_option o (facts_from (i + 1))) none in
        record { known = subst (AllKnown task) same so_far.known; so_far = sym (ap (λ gs. atoms ++ map (numbered task) gs) same) ∙ so_far.so_far }

  pub all_facts : (i : ℕ) (atoms : List AtomValue) → length init ≤ i → AreFacts i atoms → atoms ≡ map (numbered task) (filter_map fact_in (map init_view init))
  all_facts i atoms past so_far =
      sym (append-nil atoms) ∙ sym (ap (λ xs. atoms ++ map (numbered task) (filter_map fact_in (map init_view xs))) (drop_all i init past)) ∙ so_far.so_far

-- the files of a task have these items
pub first_facts : {A : Type 0} (d : DomainValue) (p : ProblemValue) (init : List (InitItem A)) (atoms : List AtomValue) → IsLinked d p → map init_view init ≡ p.init → atoms ≡ []
    → AreFacts (task_of d p) init 0 atoms
first_facts d p init atoms linked same none = record {
  known = subst (λ is. AllKnown (task_of d p) (filter_map fact_in is)) (sym same) (all_known d p linked);
  so_far = ap (λ known. known ++ map (numbered (task_of d p)) (filter_map fact_in (map init_view init))) none;
}

pub initial_are : {A : Type 0} (d : DomainValue) (p : ProblemValue) (init : List (InitItem A)) (i : ℕ) (atoms : List AtomValue) → map init_view init ≡ p.init → length init ≤ i
    → AreFacts (task_of d p) init i atoms → atoms ≡ initial_atoms (task_of d p)
initial_are d p init i atoms same past so_far =
    all_facts (task_of d p) init i atoms past so_far ∙ ap (λ is. map (numbered (task_of d p)) (filter_map fact_in is)) same

-- ---- what the numbers name

names_at : (names ns : List Name) → list_all (is_in names) ns ≡ true → map (slice_get names) (map (number_in names) ns) ≡ map Some ns
names_at names [] known = refl
names_at names (n ∷ ns) known =
    let p = both (is_in names n) (list_all (is_in names) ns) known in
    ap (λ o. o ∷ map (slice_get names) (map (number_in names) ns)) (at_number names n p.0) ∙ ap (λ os. Some n ∷ os) (names_at names ns p.1)

pub numbers_name : (task : TaskValue) (g : GroundValue) → is_known task g ≡ true → NamesAtom task g (numbered task g)
numbers_name task g known =
    let p = names_known task g known in
    record { predicate = at_number (predicate_names task) g.name p.0; objects = names_at (object_names task) g.objects p.1 }

-- ---- atoms of linked files by numbers

pub known_in_range : (task : TaskValue) (g : GroundValue) → is_known task g ≡ true → IsInRange task (numbered task g) × (named_atom task (numbered task g) ≡ g)
known_in_range task g known =
    let p = names_known task g known in
    let low = number_in_range (predicate_names task) g.name p.0 in (
      record {
        predicate = omega (arith, low, length-map task.predicates symbol_of);
        objects = subst (λ len. AllByRecursion (λ k. k < len) (map (number_in (object_names task)) g.objects)) (length-map task.objects item_of) (numbers_in_range (object_names task) g.objects p.1);
      },
      ap (λ n. record { name = n; objects = map (name_at (object_names task)) (map (number_in (object_names task)) g.objects) }) (name_of_number (predicate_names task) g.name p.0)
          ∙ ap (λ os. record { name = g.name; objects = os }) (names_of_numbers (object_names task) g.objects p.1),
    )

pub range_names_one : (d : DomainValue) (p : ProblemValue) → IsLinked d p → (atom : AtomValue) → IsInRange (task_of d p) atom
    → (is_known (task_of d p) (named_atom (task_of d p) atom) ≡ true) × (numbered (task_of d p) (named_atom (task_of d p) atom) ≡ atom)
range_names_one d p linked atom range =
    let task = task_of d p in
    let predicates = predicate_names task in
    let objects = object_names task in
    let low : atom.predicate < length predicates = let h = range.predicate in omega (arith, h, length-map task.predicates symbol_of) in
    let lows = subst (λ len. AllByRecursion (λ k. k < len) atom.args) (sym (length-map task.objects item_of)) range.objects in (
      and_both (is_in predicates (name_at predicates atom.predicate)) (list_all (is_in objects) (map (name_at objects) atom.args)) (name_is_in predicates atom.predicate low) (names_are_in objects atom.args lows),
      ap (λ k. record { predicate = k; args = map (number_in objects) (map (name_at objects) atom.args) }) (number_of_name predicates atom.predicate (predicates_stand_once d (linked_is_good d p linked)) low)
          ∙ ap (λ ks. record { predicate = atom.predicate; args = ks }) (numbers_of_names objects atom.args (objects_stand_once d p) lows),
    )
