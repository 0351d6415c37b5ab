use Rattle.pddl_file_layout.proofs.DomainTextLaws.{domain_levels}
use Rattle.pddl_file_layout.proofs.laws.domain_levels_as_read.Goals as goal

pub returns : goal.returns
returns c = domain_levels
