use Rattle.std.proofs.Common.{take}
use Rattle.pddl_types.specs.TopRows.{AreRowsOf}
use Rattle.pddl_types.proofs.told.set_rows.Given as goal

abbrev pub invariant-loop-span : goal.invariant-loop-span
invariant-loop-span g l = AreRowsOf l.rows.begun.items l.rows.held.items (take l.span-index l.spans)
