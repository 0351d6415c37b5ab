use Rattle.std.proofs.Common.{sym, ◌∙◌}
use Rattle.pddl_token.proofs.NameBytes.{name_by_bytes, no_name, no_bytes}
use Rattle.pddl_token.proofs.name.short_name.Goals as goal

pub returns-in-len1-up-clause-name : goal.returns-in-len1-up-clause-name
returns-in-len1-up-clause-name c = name_by_bytes c.args.text.now (sym c.is_ascii_alphabetic.ensures.value ∙ c.if-is_ascii_alphabetic.true) ∙ c.folded.ensures.later

pub returns-in_default-clause-name : goal.returns-in_default-clause-name
returns-in_default-clause-name c = no_bytes c.args.text.now c.in_default.len_below

pub returns-in_default-2-clause-name : goal.returns-in_default-2-clause-name
returns-in_default-2-clause-name c = no_name c.args.text.now (sym c.is_ascii_alphabetic.ensures.value ∙ c.if-is_ascii_alphabetic.false)
