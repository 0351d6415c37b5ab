use Rattle.std.proofs.Common.{[], drop}
use Rattle.pddl_items.specs.Items.{items_view}
use Rattle.pddl_sections.specs.Inner.Verdicts.{verdict}
use Rattle.pddl_file.specs.Inner.WordReading.{nothing_seen}
use Rattle.pddl_problem_reader.specs.Inner.ProblemReading.{problem_readers}
use Rattle.pddl_problem_reader.specs.Inner.Slots.{slots_view}
use Rattle.pddl_problem_reader.proofs.SlotLaws.{SoFar}
use Rattle.pddl_problem_reader.proofs.section_reader.read_sections.Given as goal

-- the slots hold the sections so far, and with those that are left the verdict is that on all
abbrev pub invariant-loop-item : goal.invariant-loop-item
invariant-loop-item g l = SoFar (slots_view l.initial.slots) l.seen (slots_view l.slots) (items_view (drop l.item-index l.items)) (verdict problem_readers nothing_seen [] (items_view l.items))
