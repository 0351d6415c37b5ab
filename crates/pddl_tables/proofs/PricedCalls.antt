-- The tables of a task speak of it: its objects, what fits a type, and its costs by numbers.
use Rattle.std.proofs.Common.{◌≡◌, ℕ, ◌==◌, suc, Bool, true, ◌&&◌, cond, List, [], ◌∷◌, map, refl, sym, ap, ◌∙◌, arith, eqb, bytes_eq}
use Rattle.std.specs.Prelude.{Some, Contains}
use Rattle.std.specs.List.{list_all}
use Rattle.std.specs.Map.{lookup}
use Rattle.std.specs.Option.{unwrap_or}
use Rattle.std.specs.Cmp.Lexicographic.{pointwise}
use Rattle.pddl_domain.specs.Domains.{DomainValue}
use Rattle.pddl_problem.specs.Inits.{GroundValue}
use Rattle.pddl_problem.specs.Problems.{ProblemValue}
use Rattle.pddl_task.specs.Names.{Name, is_in, number_in, same_names}
use Rattle.pddl_task.specs.Faults.{same_ground}
use Rattle.pddl_task.specs.Linked.{IsLinked}
use Rattle.pddl_task.specs.Tasks.{TaskValue, task_of, object_names, function_names, cost_of}
use Rattle.pddl_task.specs.Known.{is_known_call}
use Rattle.pddl_task.proofs.Lists.{and_left, and_right}
use Rattle.pddl_task.proofs.Numbers.{fitting_numbers_are}
use Rattle.pddl_task.proofs.KnownAtoms.{fitting_are_objects, costs_are_known}
use Rattle.pddl_task.proofs.LinkedTasks.{objects_stand_once}
use Rattle.pddl_state.specs.Atoms.{AtomValue, atom_eq}
use Rattle.pddl_meaning.specs.Worlds.{world_of}
use Rattle.pddl_compiled.specs.Tables.{number_atom, IsOver}
use Rattle.pddl_compiled.specs.TaskTables.{tables_of}
use Rattle.pddl_compiled.proofs.Numbers.{apart}
use Rattle.pddl_tables.specs.Prices.{numbered_cost, price_at, prices_of}

both_same : (a b c d : Bool) → a ≡ c → b ≡ d → a && b ≡ c && d
both_same a b c d h k = ap (λ x. x && b) h ∙ ap (λ x. c && x) k

-- objects that are known are the same where their numbers are
objects_apart : (names ms ns : List Name) → list_all (is_in names) ns ≡ true → pointwise (◌==◌) (map (number_in names) ms) (map (number_in names) ns) ≡ same_names ms ns
objects_apart names [] [] known = refl
objects_apart names [] (n ∷ ns) known = refl
objects_apart names (m ∷ ms) [] known = refl
objects_apart names (m ∷ ms) (n ∷ ns) known =
    both_same (eqb (number_in names m) (number_in names n)) (pointwise (◌==◌) (map (number_in names) ms) (map (number_in names) ns)) (bytes_eq m n) (same_names ms ns)
    (apart names m n (and_left (is_in names n) (list_all (is_in names) ns) known)) (objects_apart names ms ns (and_right (is_in names n) (list_all (is_in names) ns) known))

module _ (task : TaskValue) where
  abbrev number : GroundValue → AtomValue
  number g = number_atom (function_names task) (object_names task) g

  calls_apart : (g h : GroundValue) → is_known_call task h ≡ true → atom_eq (number g) (number h) ≡ same_ground g h
  calls_apart g h known =
      both_same (eqb (number g).predicate (number h).predicate) (pointwise (◌==◌) (number g).args (number h).args) (bytes_eq g.name h.name) (same_names g.objects h.objects)
      (apart (function_names task) g.name h.name (and_left (is_in (function_names task) h.name) (list_all (is_in (object_names task)) h.objects) known))
      (objects_apart (object_names task) g.objects h.objects (and_right (is_in (function_names task) h.name) (list_all (is_in (object_names task)) h.objects) known))

  found_same : (g : GroundValue) (es : List (GroundValue × ℕ)) → ((h : GroundValue) (n : ℕ) → Contains es (h, n) → is_known_call task h ≡ true)
      → lookup (atom_eq (number g)) (map (numbered_cost task) es) ≡ lookup (same_ground g) es
  found_same g [] known = refl
  found_same g (e ∷ es) known =
      ap (λ b. cond b (Some e.1) (lookup (atom_eq (number g)) (map (numbered_cost task) es))) (calls_apart g e.0 (known e.0 e.1 (0, omega arith, refl)))
      ∙ ap (λ o. cond (same_ground g e.0) (Some e.1) o) (found_same g es (λ h n c. known h n (suc c.0, omega (arith, c.1), c.2)))

-- in linked files a function of objects has the cost of its numbers
pub price_is_cost : (d : DomainValue) (p : ProblemValue) → IsLinked d p → (g : GroundValue)
    → price_at (task_of d p) (number_atom (function_names (task_of d p)) (object_names (task_of d p)) g) ≡ cost_of (task_of d p) g
price_is_cost d p linked g = found_same (task_of d p) g (task_of d p).costs (costs_are_known d p linked)

pub tables_are_over : (d : DomainValue) (p : ProblemValue) → IsLinked d p → IsOver (tables_of (task_of d p)) (world_of (task_of d p)) (prices_of (task_of d p))
tables_are_over d p linked = record {
  fit = fitting_are_objects d p;
  ranges = fitting_numbers_are (task_of d p) (objects_stand_once d p);
  prices = λ g. ap (λ o. unwrap_or o 0) (sym (price_is_cost d p linked g));
}
