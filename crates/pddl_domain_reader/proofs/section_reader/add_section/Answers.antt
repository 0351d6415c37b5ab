use Rattle.std.proofs.Common.{sym, ◌∙◌}
use Rattle.pddl_file.proofs.SectionTurns.{no_key_stops, twice_stops, unfit_stops}
use Rattle.pddl_items.specs.ItemTrees.{item_tree}
use Rattle.pddl_domain.specs.Domains.{domain_view}
use Rattle.pddl_domain_reader.specs.Inner.DomainReading.{part_at, domain_readers}
use Rattle.pddl_domain_reader.proofs.DomainTurns.{none_added, some_added}
use Rattle.pddl_domain_reader.proofs.section_reader.add_section.Goals as goal

pub returns-in_default-clause-refused : goal.returns-in_default-clause-refused
returns-in_default-clause-refused g c =
    no_key_stops domain_readers c.args.seen c.args.item.now c.refusal.result (sym c.in_default.is ∙ c.keyword_of.ensures.reads) c.refusal.ensures.fault

pub returns-then-has-clause-refused : goal.returns-then-has-clause-refused
returns-then-has-clause-refused g c =
    twice_stops domain_readers c.args.seen c.args.item.now c.in-Some.keyword (sym c.in-Some.is ∙ c.keyword_of.ensures.reads)
    c.span_of-span.result (sym c.if-has.true ∙ c.has.ensures) c.span_of-span.ensures

pub returns-then-not-branch-clause-refused : goal.returns-then-not-branch-clause-refused
returns-then-not-branch-clause-refused g c =
    unfit_stops domain_readers c.args.seen c.args.item.now c.in-Some.keyword (sym c.in-Some.is ∙ c.keyword_of.ensures.reads)
    c.refusal-then-not-branch.result (sym c.if-has.false ∙ c.has.ensures)
    (none_added (domain_view c.args.domain.now) (part_at (item_tree c.args.item.now)) (rw c.if-not-branch.true at c.in_ok-add_item.ensures)) c.refusal-then-not-branch.ensures.fault

pub returns-clause-section : goal.returns-clause-section
returns-clause-section g c =
    some_added c.args.seen c.args.item.now c.in-Some.keyword (sym c.in-Some.is ∙ c.keyword_of.ensures.reads) (sym c.if-has.false ∙ c.has.ensures)
    (domain_view c.args.domain.now) (domain_view c.add_item.new.domain) (rw c.if-not-branch.false at c.in_ok-add_item.ensures)
