use Rattle.pddl_file.proofs.KeywordLaws.{flag_reads}
use Rattle.pddl_file.proofs.laws.flags_as_spelled.Goals as goal

pub returns : goal.returns
returns c = λ t name. (flag_reads.sound t name, flag_reads.complete t name)
