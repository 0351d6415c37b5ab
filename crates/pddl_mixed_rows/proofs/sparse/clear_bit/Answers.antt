use Rattle.pddl_mixed_rows.proofs.SparseNumbers.{clear_bit}
use Rattle.pddl_mixed_rows.proofs.sparse.clear_bit.Goals as goal

pub returns : goal.returns
returns c = clear_bit c.args.row.now c.args.place c.requires
