use Rattle.std.proofs.Common.{◌≡◌, drop, map}
use Rattle.pddl_formula.specs.TypedLists.{typed_view}
use Rattle.pddl_task.specs.Faults.{object_types}
use Rattle.pddl_names.proofs.passes.object_types.Given as goal

abbrev pub invariant-loop-object : goal.invariant-loop-object
invariant-loop-object g l = object_types (map typed_view (drop l.object-index l.objects)) ≡ object_types (map typed_view l.objects)
