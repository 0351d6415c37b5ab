use Rattle.std.proofs.Common.{sym, ◌∙◌}
use Rattle.pddl_token.proofs.NameBytes.{no_byte_at}
use Rattle.pddl_token.proofs.name.folded.Goals as goal

pub returns-then-byte-eq0-clause-later : goal.returns-then-byte-eq0-clause-later
returns-then-byte-eq0-clause-later c = no_byte_at c.args.text.now c.loop-i.i c.loop-i-test.true (sym c.name_byte-byte.ensures ∙ c.if-byte-eq0.true)
