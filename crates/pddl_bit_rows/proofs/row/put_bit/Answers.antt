use Rattle.pddl_bit_rows.proofs.RowBits.{put_bit}
use Rattle.pddl_bit_rows.proofs.row.put_bit.Goals as goal

pub returns : goal.returns
returns c = put_bit c.args.row.now c.args.place c.requires
