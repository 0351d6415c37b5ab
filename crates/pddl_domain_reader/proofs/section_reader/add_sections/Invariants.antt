use Rattle.std.proofs.Common.{drop}
use Rattle.pddl_items.specs.Items.{items_view}
use Rattle.pddl_domain.specs.Domains.{domain_view}
use Rattle.pddl_domain_reader.specs.Inner.Sections.{domain_verdict}
use Rattle.pddl_domain_reader.proofs.DomainTurns.{AddsSoFar}
use Rattle.pddl_domain_reader.proofs.section_reader.add_sections.Given as goal

-- the sections so far were added, and with the items that are left they say what all items say
abbrev pub invariant-loop-item : goal.invariant-loop-item
invariant-loop-item g l = AddsSoFar l.seen (items_view (drop l.item-index l.items)) (domain_verdict (items_view l.items)) (domain_view l.initial.domain) (domain_view l.domain)
