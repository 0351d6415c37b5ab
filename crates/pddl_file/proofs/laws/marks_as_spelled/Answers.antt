use Rattle.pddl_file.proofs.MarkLaws.{mark_reads}
use Rattle.pddl_file.proofs.laws.marks_as_spelled.Goals as goal

pub returns : goal.returns
returns c = λ section t mark. ((mark_reads section).sound t mark, (mark_reads section).complete t mark)
