use Rattle.std.proofs.Common.{◌≡◌}
use Rattle.std.specs.Prelude.{flat_map}
use Rattle.pddl_items.specs.Items.{items_view}
use Rattle.pddl_sections.specs.Sections.{lists_in}
use Rattle.pddl_sections.specs.Inner.Verdicts.{first_mark}
use Rattle.pddl_sections.proofs.Turns.{lists_from}
use Rattle.pddl_file.specs.Inner.WordReading.{mark_in}
use Rattle.pddl_file.proofs.mark.+marks.Given as goal

-- none in the items so far
abbrev pub invariant-first_marked_in-loop-item : goal.invariant-first_marked_in-loop-item
invariant-first_marked_in-loop-item g l =
    first_mark (mark_in l.in_types) (lists_from l.items l.item-index) ≡ first_mark (mark_in l.in_types) (flat_map lists_in (items_view l.items))
