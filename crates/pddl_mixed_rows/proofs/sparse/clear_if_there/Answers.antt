use Rattle.std.proofs.Common.{rules}
use Rattle.pddl_mixed_rows.proofs.SparseNumbers.{clear_past}
use Rattle.pddl_mixed_rows.proofs.sparse.clear_if_there.Goals as goal

pub returns-then-row-place : goal.returns-then-row-place
returns-then-row-place c = λ i. clear_past c.args.row.now c.args.place (search rules) i
