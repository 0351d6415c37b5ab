use Rattle.pddl_file_layout.proofs.DomainTextLaws.{domain_reads_back}
use Rattle.pddl_file_layout.proofs.laws.domain_reads_back.Goals as goal

pub returns : goal.returns
returns c = domain_reads_back
