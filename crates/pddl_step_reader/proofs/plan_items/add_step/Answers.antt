use Rattle.pddl_items.specs.Items.{items_view}
use Rattle.pddl_items.proofs.TreeLists.{item_view_list, items_back}
use Rattle.pddl_step_reader.proofs.plan_items.add_step.Goals as goal

pub returns-in-List : goal.returns-in-List
returns-in-List g c =
    rw (c.in-List.is, item_view_list c.in-List.items c.in-List.field-1, items_back (items_view c.in-List.items.items), ← c.deref.ensures.value) c.add_step_of.ensures
