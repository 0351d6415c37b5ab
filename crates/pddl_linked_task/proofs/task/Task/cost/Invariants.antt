use Rattle.std.proofs.Common.{◌≡◌, map, drop}
use Rattle.std.specs.List.{filter_map}
use Rattle.std.specs.Map.{lookup}
use Rattle.pddl_problem.specs.Inits.{GroundValue, init_view}
use Rattle.pddl_task.specs.Faults.{same_ground}
use Rattle.pddl_task.specs.Tasks.{cost_in, cost_of}
use Rattle.pddl_linked_task.specs.LinkedTasks.{task_of_files}
use Rattle.pddl_linked_task.proofs.task.Task.cost.Given as goal

-- what is left of `:init` gives the cost
abbrev pub invariant-loop-item : goal.invariant-loop-item
invariant-loop-item g l =
    let asked : GroundValue = record { name = l.function; objects = map (λ o. o.now) l.objects } in
    lookup (same_ground asked) (filter_map cost_in (map init_view (drop l.item-index l.item-items))) ≡ cost_of (task_of_files l.self) asked
