use Rattle.std.proofs.Common.{ap}
use Rattle.pddl_file_layout.specs.DomainLayout.{domain_text}
use Rattle.pddl_file_layout.proofs.DomainTextLaws.{one_canonical_domain}
use Rattle.pddl_file_layout.proofs.laws.one_canonical_domain.Goals as goal

pub returns : goal.returns
returns c = λ d e text more p q within inside short brief. (one_canonical_domain d e text more p q within inside short brief, λ same. ap domain_text same)
