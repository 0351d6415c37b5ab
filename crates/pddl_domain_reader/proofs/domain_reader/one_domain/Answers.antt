use Rattle.pddl_domain_reader.proofs.DomainTextLaws as laws
use Rattle.pddl_domain_reader.proofs.domain_reader.one_domain.Goals as goal

pub returns : goal.returns
returns c = laws.one_domain
