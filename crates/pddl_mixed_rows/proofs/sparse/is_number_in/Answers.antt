use Rattle.std.proofs.Common.{sym}
use Rattle.pddl_mixed_rows.proofs.SparseNumbers.{found_none, absent}
use Rattle.pddl_mixed_rows.proofs.sparse.is_number_in.Goals as goal

pub returns-in-Err : goal.returns-in-Err
returns-in-Err c =
    let r = found_none c.args.numbers.now c.args.number c.in-Err.field-0 c.requires c.in-Err.ensures.position in
    sym (absent c.args.numbers.now c.args.number c.in-Err.field-0 r.1 r.2)
