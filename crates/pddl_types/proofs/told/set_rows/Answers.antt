use Rattle.pddl_bit_rows.proofs.RowBits.{no_bits}
use Rattle.pddl_types.proofs.told.set_rows.Goals as goal

pub loop-span-init : goal.loop-span-init
loop-span-init g c = rw (c.requires.begun, c.requires.held) (record { begin = λ i. no_bits i; hold = λ i. no_bits i })
