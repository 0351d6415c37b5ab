use Rattle.std.proofs.Common.{◌%◌, ◌==◌, ap, ◌∙◌}
use Rattle.std.specs.Int.{bit_at}
use Rattle.std.proofs.lemmas.Nat.Bits.{shr_and_one}
use Rattle.pddl_bit_rows.specs.BitRows.{has_bit}
use Rattle.pddl_bit_rows.proofs.row.is_bit_set.Goals as goal

pub returns : goal.returns
unfolding has_bit
returns c = ap (λ w. w == 1) (shr_and_one c.word.result (c.args.place % 64)) ∙ ap (λ w. bit_at w (c.args.place % 64) == 1) c.word.ensures
