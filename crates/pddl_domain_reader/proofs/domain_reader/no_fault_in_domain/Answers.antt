use Rattle.pddl_domain_reader.proofs.DomainTextLaws as laws
use Rattle.pddl_domain_reader.proofs.domain_reader.no_fault_in_domain.Goals as goal

pub returns : goal.returns
returns c = laws.no_fault_in_domain
