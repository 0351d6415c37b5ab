use Rattle.pddl_bit_rows.proofs.RowBits.{shared_bits}
use Rattle.pddl_bit_rows.proofs.row.share_no_bit.Goals as goal

pub returns : goal.returns
returns c =
    let d = shared_bits c.args.a.now c.args.b.now (λ k. (c.type_inv.a k).fits) in
    (λ t. d.0 (c.rows_disjoint.ensures.0 t), λ h. c.rows_disjoint.ensures.1 (d.1 h))
