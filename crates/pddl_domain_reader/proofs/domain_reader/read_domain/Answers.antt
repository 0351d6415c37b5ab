use Rattle.pddl_domain_reader.proofs.DomainTextLaws.{one_domain}
use Rattle.pddl_domain_reader.proofs.domain_reader.read_domain.Goals as goal

pub returns-in-Ok-clause-only : goal.returns-in-Ok-clause-only
returns-in-Ok-clause-only g c = λ domain spells. one_domain c.args.text.now _ domain c.in-Ok.ensures spells
