use Rattle.std.proofs.Common.{◌<◌, length, sym, ap, ◌∙◌, arith}
use Rattle.pddl_items.specs.ItemTrees.{item_tree}
use Rattle.pddl_formula_reader.proofs.Turns.{each_on}
use Rattle.pddl_file.specs.Inner.WordReading.{flag_at}
use Rattle.pddl_file.proofs.flag.flags_of.Goals as goal

pub loop-item-preserved : goal.loop-item-preserved
loop-item-preserved g c =
    let l = c.loop-item in
    let lt : l.item-index < length c.args.items.now = omega arith in
    each_on flag_at c.args.items.now l.item-index c.item-item.result l.flags.items _ lt c.push.new.self.items c.in-Some.flag l.invariant
    (sym c.in-Some.is ∙ c.in_ok-flag.ensures ∙ ap (λ item. flag_at (item_tree item)) c.item-item.is) c.in_ok-push.ensures.items
