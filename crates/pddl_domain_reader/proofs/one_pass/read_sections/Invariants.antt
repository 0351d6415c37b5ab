use Rattle.std.proofs.Common.{ℕ, ◌-◌, List, [], length, codes}
use Rattle.pddl_file.specs.Inner.Begun.{HasBegun}
use Rattle.pddl_domain.specs.Domains.{domain_view}
use Rattle.pddl_domain_reader.proofs.DomainTurns.{SectionsTo}
use Rattle.pddl_domain_reader.proofs.one_pass.read_sections.Given as goal

-- the sections so far were added
abbrev pub invariant-loop-next : goal.invariant-loop-next
invariant-loop-next g l = (name : List ℕ) → HasBegun (codes "domain") name l.text [] l.initial.at → SectionsTo name l.text l.at l.seen (domain_view l.initial.domain) (domain_view l.domain)

abbrev pub decreases-loop-next : goal.decreases-loop-next
decreases-loop-next g l = length l.text - l.at
