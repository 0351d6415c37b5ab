use Rattle.std.proofs.Common.{◌<◌, ◌≤◌, length, arith}
use Rattle.std.proofs.lemmas.Result.{err_from_is_err_and}
use Rattle.pddl_items.specs.Items.{items_view}
use Rattle.pddl_file.proofs.SectionTurns.{sections_stop}
use Rattle.pddl_domain.specs.Domains.{domain_view}
use Rattle.pddl_domain_reader.specs.Inner.DomainReading.{domain_readers}
use Rattle.pddl_domain_reader.specs.Inner.Sections.{domain_verdict}
use Rattle.pddl_domain_reader.proofs.DomainTurns.{adds_end, adds_on}
use Rattle.pddl_domain_reader.proofs.section_reader.add_sections.Goals as goal

pub returns-in_err-keyword-clause-refused : goal.returns-in_err-keyword-clause-refused
returns-in_err-keyword-clause-refused g c =
    let l = c.loop-item in
    let xs = c.args.items.now in
    let lt : l.item-index < length xs = omega arith in
    let p = err_from_is_err_and c.from_residual.result c.from_residual.ensures.1 in
    rw (p.1, p.2)
    (sections_stop domain_readers l.seen l.invariant.parts xs l.item-index (domain_verdict (items_view xs)) l.invariant.goes
    c.item-item.result lt c.item-item.is c.in_err-keyword.field-0.0 c.in_err-keyword.ensures.refused)

pub loop-item-preserved : goal.loop-item-preserved
loop-item-preserved g c =
    let l = c.loop-item in
    let xs = c.args.items.now in
    let lt : l.item-index < length xs = omega arith in
    adds_on l.seen xs l.item-index (domain_view c.args.domain.now) (domain_view l.domain) l.invariant c.item-item.result lt c.item-item.is
    c.in_ok-keyword.keyword (domain_view c.add_section.new.domain) c.with-seen.result c.in_ok-keyword.ensures.section c.with-seen.ensures

pub returns-clause-sections : goal.returns-clause-sections
returns-clause-sections g c =
    let l = c.loop-item in
    let past : length c.args.items.now ≤ l.item-index = omega arith in
    adds_end l.seen c.args.items.now l.item-index (domain_view c.args.domain.now) (domain_view l.domain) l.invariant past
