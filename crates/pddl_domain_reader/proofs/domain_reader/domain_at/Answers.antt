use Rattle.std.proofs.Common.{[], codes}
use Rattle.pddl_items.specs.Items.{items_view}
use Rattle.pddl_file.specs.Inner.FileReading.{RefusesSections, RefusesFile}
use Rattle.pddl_file.proofs.SectionTurns.{head_refused, sections_refused}
use Rattle.pddl_domain.specs.Domains.{domain_view}
use Rattle.pddl_domain_reader.specs.Inner.DomainReading.{domain_of, domain_readers}
use Rattle.pddl_domain_reader.specs.Inner.Sections.{domain_verdict, domain_answer, AddsParts, AnswersDomain}
use Rattle.pddl_domain_reader.proofs.DomainTurns.{answered}
use Rattle.pddl_domain_reader.proofs.Results.{if_ok, if_err}
use Rattle.pddl_domain_reader.proofs.domain_reader.domain_at.Goals as goal

pub returns-in-Err-clause-refused : goal.returns-in-Err-clause-refused
returns-in-Err-clause-refused g c =
    head_refused domain_readers (codes "domain") [] (items_view c.args.items.now) c.in-Err.span (rw c.in-Err.is at c.in_ok-opening.ensures)

pub returns-clause-domain : goal.returns-clause-domain
returns-clause-domain g c =
    let items = items_view c.args.items.now in
    let name = c.in-Ok.opening.name in
    let sections = items_view c.in-Ok.opening.sections.now in
    if_ok (λ d. AddsParts sections (domain_of name []) (domain_view d)) (λ d. AnswersDomain (domain_view d) items) c.domain_of.result
    (λ d adds. answered items name sections (domain_view d) (rw c.in-Ok.is at c.in_ok-opening.ensures) adds) c.domain_of.ensures.domain

pub returns-clause-refused : goal.returns-clause-refused
returns-clause-refused g c =
    let items = items_view c.args.items.now in
    let name = c.in-Ok.opening.name in
    let sections = items_view c.in-Ok.opening.sections.now in
    if_err (λ fault. RefusesSections fault (domain_verdict sections)) (λ fault. RefusesFile fault (domain_answer items)) c.domain_of.result
    (λ fault refused. sections_refused domain_readers (codes "domain") [] items name sections (rw c.in-Ok.is at c.in_ok-opening.ensures) fault refused) c.domain_of.ensures.refused
