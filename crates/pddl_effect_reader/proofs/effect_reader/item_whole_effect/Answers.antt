use Rattle.std.proofs.Common.{◌≡◌, ◌<◌, length, refl, ap, ◌∙◌, arith}
use Rattle.std.proofs.lemmas.List.{length-map, nil_from_length}
use Rattle.pddl_token.specs.Spelling.{view}
use Rattle.pddl_token.specs.Trees.{unplaced}
use Rattle.pddl_items.specs.ItemTrees.{item_tree, item_trees}
use Rattle.pddl_items.proofs.TreeLists.{item_tree_list, item_tree_word}
use Rattle.pddl_effect_reader.specs.Inner.EffectReading.{whole_effect_at, effect_at}
use Rattle.pddl_effect_reader.proofs.EffectTurns.{whole_effect_at_empty, whole_effect_at_list, whole_effect_at_leaf}
use Rattle.pddl_effect_reader.proofs.effect_reader.item_whole_effect.Goals as goal

pub returns-then-len-eq0 : goal.returns-then-len-eq0
returns-then-len-eq0 g c =
    let items = c.in-List.items in
    rw c.in-List.is (whole_effect_at_empty items c.in-List.field-1 c.new.result (nil_from_length items.items (omega (arith, items.ok.0))) c.new.ensures.items)

pub returns-else-len-eq0 : goal.returns-else-len-eq0
returns-else-len-eq0 g c =
    let items = c.in-List.items in
    let some : 0 < length (item_trees items.items) = omega (arith, length-map items.items item_tree, items.ok.0) in
    let there : item_tree c.args.item.now ≡ _ = ap item_tree c.in-List.is ∙ item_tree_list items c.in-List.field-1 in
    let same : whole_effect_at (item_tree c.args.item.now) ≡ effect_at (item_tree c.args.item.now) = rw there (whole_effect_at_list (item_trees items.items) some) in
    rw same c.item_effect.ensures

pub returns-in-Word : goal.returns-in-Word
returns-in-Word g c =
    rw (c.in-Word.is, item_tree_word _ c.in-Word.field-0, whole_effect_at_leaf (unplaced (view c.in-Word.field-0))) refl
