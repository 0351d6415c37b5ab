use Rattle.std.proofs.Common.{◌≡◌, ◌<◌, ℕ, true, length}
use Rattle.std.specs.Prelude.{Some, slice_get}
use Rattle.pddl_linked_task.specs.LinkedTasks.{task_of_files}
use Rattle.pddl_compiled_plan.specs.CompiledSteps.{AreForms, IsHeld}
use Rattle.pddl_step.proofs.actions.compile_all_marked.Given as goal

-- the actions that are marked so far are held
abbrev pub invariant-loop-number : goal.invariant-loop-number
invariant-loop-number g l = record {
  as_many : length l.held.items ≡ l.number;
  forms : AreForms (task_of_files l.task) l.held.items;
  made : (n : ℕ) → n < length l.held.items → slice_get l.marks n ≡ Some true → IsHeld l.held.items n;
}
