use Rattle.pddl_items.specs.ItemTrees.{item_trees}
use Rattle.pddl_build.proofs.FoundParts.{right_part}
use Rattle.pddl_declaration_reader.specs.Inner.Slots.{slots_view, no_slots, slots_from}
use Rattle.pddl_declaration_reader.proofs.action_reader.slots_of.Goals as goal

pub returns : goal.returns
returns g c =
    rw c.if_right.ensures
    (right_part slots_view c.add_fields-right.new.slots c.add_fields-right.result (slots_from no_slots (item_trees c.args.items.now)) (rw c.no_slots-slots.ensures at c.add_fields-right.ensures))
