use Rattle.std.proofs.Common.{[], arith, rules}
use Rattle.pddl_items.specs.Items.{items_view}
use Rattle.pddl_text.proofs.InTurn.{whole_text}
use Rattle.pddl_text.proofs.texts.read_items.Goals as goal

pub returns : goal.returns
returns g c =
    whole_text c.args.text.now c.add_items-end.new.at (λ whole. items_view whole.items) (items_view c.add_items-end.new.items.items) c.add_items-end.result c.if_whole.result (omega arith)
    (rw c.new-items.ensures.items at (c.add_items-end.ensures.items [] (search rules))) c.if_whole.ensures
