use Rattle.std.proofs.Common.{drop}
use Rattle.pddl_items.specs.Items.{items_view}
use Rattle.pddl_step_reader.specs.Inner.PlanReading.{names_at}
use Rattle.pddl_step_reader.proofs.PlanSteps.{NamesSoFar}
use Rattle.pddl_step_reader.proofs.plan_items.add_names.Given as goal

-- the names so far, and those of the items that are left
abbrev pub invariant-loop-item : goal.invariant-loop-item
invariant-loop-item g l = NamesSoFar (names_at (items_view l.items)) (items_view (drop l.item-index l.items)) l.initial.plan l.plan
