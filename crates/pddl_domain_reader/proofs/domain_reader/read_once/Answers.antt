use Rattle.pddl_build.proofs.Parts.{made_reads}
use Rattle.pddl_domain.specs.Domains.{domain_view}
use Rattle.pddl_domain_reader.specs.DomainTexts.{SpellsDomain}
use Rattle.pddl_domain_reader.proofs.DomainTurns.{answered}
use Rattle.pddl_domain_reader.proofs.DomainTextLaws.{read_spells}
use Rattle.pddl_domain_reader.proofs.domain_reader.read_once.Goals as goal

pub returns : goal.returns
returns g c =
    let text = c.args.text.now in
    let domain = c.read_sections-read.new.domain in
    rw c.and.ensures
    (made_reads domain c.read_sections-read.result (λ d. SpellsDomain (domain_view d) text) (c.read_sections-read.ensures c.in_ok-name.name c.in_ok-name.ensures)
    (λ file. read_spells text file.items (domain_view domain) file.has
    (answered file.items c.in_ok-name.name file.sections (domain_view domain) file.opened (rw c.empty_domain-domain.ensures at file.adds))))
