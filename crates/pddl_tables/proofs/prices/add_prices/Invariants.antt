use Rattle.std.proofs.Common.{◌≡◌, ◌≤◌, length, map, drop}
use Rattle.std.specs.Map.{lookup}
use Rattle.pddl_problem.specs.Inits.{init_view}
use Rattle.pddl_state.specs.Atoms.{AtomValue, atom_eq}
use Rattle.pddl_linked_task.specs.LinkedTasks.{task_of_files}
use Rattle.pddl_tables.proofs.PriceTables.{given}
use Rattle.pddl_tables.proofs.prices.add_prices.Given as goal

-- the table has the costs of the items behind
abbrev pub invariant-loop-left : goal.invariant-loop-left
invariant-loop-left g l = record {
  within : l.left ≤ length l.init;
  held : (call : AtomValue) → lookup (atom_eq call) l.prices.entries ≡ given (task_of_files l.lookups) (map init_view (drop l.left l.init)) call;
}

abbrev pub decreases-loop-left : goal.decreases-loop-left
decreases-loop-left g l = l.left
