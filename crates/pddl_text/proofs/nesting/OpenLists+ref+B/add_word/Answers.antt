use Rattle.std.proofs.Common.{reverse, length, arith, ◌∙◌, ap}
use Rattle.pddl_items.proofs.TreeLists.{item_view_word}
use Rattle.pddl_text.proofs.Stacks.{item_added, begin_more}
use Rattle.pddl_text.specs.Inner.Nesting.{nest_of, with_item}
use Rattle.pddl_text.proofs.nesting.OpenLists+ref+B.add_word.Goals as goal

pub invariant_of-self : goal.invariant_of-self
invariant_of-self g c =
    let before = c.args.self.now in
    let after = c.push.new.self in
    record { begin_within = begin_more (reverse before.opened.items) (length before.items.items) (length after.items) before.begin_within (omega (arith, c.push.ensures.lower_bound, before.items.ok.0, after.ok.0)) }

pub returns-clause-added : goal.returns-clause-added
returns-clause-added g c =
    let before = c.args.self.now in
    item_added before.opened.items before.items.items c.push.new.self.items _ before.begin_within c.in_ok-push.ensures.items
    ∙ ap (with_item (nest_of before.opened.items before.items.items)) (item_view_word _ c.args.token.now)
