use Rattle.pddl_token.proofs.NameBytes.{name_byte_at}
use Rattle.pddl_token.proofs.name.name_byte.Goals as goal

pub returns : goal.returns
returns c = name_byte_at c.args.byte c.ranges.byte.fits
