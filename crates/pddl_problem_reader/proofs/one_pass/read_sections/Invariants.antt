use Rattle.std.proofs.Common.{ℕ, ◌-◌, List, [], length, codes}
use Rattle.pddl_file.specs.Inner.Begun.{HasBegun}
use Rattle.pddl_problem_reader.specs.Inner.Slots.{slots_view}
use Rattle.pddl_problem_reader.proofs.OnePass.{SectionsTo}
use Rattle.pddl_problem_reader.proofs.one_pass.read_sections.Given as goal

-- the slots hold the sections so far
abbrev pub invariant-loop-next : goal.invariant-loop-next
invariant-loop-next g l = (name : List ℕ) → HasBegun (codes "problem") name l.text [] l.initial.at → SectionsTo name l.text l.at l.seen (slots_view l.slots)

abbrev pub decreases-loop-next : goal.decreases-loop-next
decreases-loop-next g l = length l.text - l.at
