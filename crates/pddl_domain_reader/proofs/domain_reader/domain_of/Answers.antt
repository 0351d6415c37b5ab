use Rattle.std.proofs.Common.{[]}
use Rattle.pddl_build.proofs.Parts.{made_reads}
use Rattle.pddl_build.proofs.FoundParts.{made_fails}
use Rattle.pddl_items.specs.Items.{items_view}
use Rattle.pddl_file.specs.Inner.FileReading.{RefusesSections}
use Rattle.pddl_domain.specs.Domains.{domain_view}
use Rattle.pddl_domain_reader.specs.Inner.DomainReading.{domain_of}
use Rattle.pddl_domain_reader.specs.Inner.Sections.{domain_verdict, AddsParts}
use Rattle.pddl_domain_reader.proofs.domain_reader.domain_of.Goals as goal

pub returns-clause-domain : goal.returns-clause-domain
returns-clause-domain g c =
    rw c.and.ensures
    (made_reads c.add_sections-added.new.domain c.add_sections-added.result (λ d. AddsParts (items_view c.args.sections.now) (domain_of c.args.name []) (domain_view d))
    c.add_sections-added.ensures.sections (λ adds. rw c.empty_domain-domain.ensures at adds))

pub returns-clause-refused : goal.returns-clause-refused
returns-clause-refused g c =
    rw c.and.ensures
    (made_fails c.add_sections-added.new.domain c.add_sections-added.result (λ fault. RefusesSections fault (domain_verdict (items_view c.args.sections.now))) c.add_sections-added.ensures.refused)
