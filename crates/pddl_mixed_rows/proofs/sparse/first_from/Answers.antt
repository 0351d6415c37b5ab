use Rattle.std.proofs.Common.{arith}
use Rattle.pddl_mixed_rows.proofs.SparseNumbers.{found_none}
use Rattle.pddl_mixed_rows.proofs.sparse.first_from.Goals as goal

pub returns-in-Err-clause-below : goal.returns-in-Err-clause-below
returns-in-Err-clause-below c = (found_none c.args.numbers.now c.args.from c.in-Err.place c.requires c.in-Err.ensures.position).1

pub returns-in-Err-clause-from : goal.returns-in-Err-clause-from
returns-in-Err-clause-from c = λ k up low.
    let above = (found_none c.args.numbers.now c.args.from c.in-Err.place c.requires c.in-Err.ensures.position).2 k up low in
    omega (arith, above)
