use Rattle.std.proofs.Common.{map, sym, ◌∙◌, refl, arith}
use Rattle.pddl_token.specs.Spelling.{view}
use Rattle.pddl_token.specs.Trees.{unplaced}
use Rattle.pddl_items.specs.ItemTrees.{item_tree, item_trees}
use Rattle.pddl_items.proofs.TreeLists.{item_tree_list, item_tree_word}
use Rattle.pddl_build.proofs.Parts.{found_reads}
use Rattle.pddl_formula_reader.specs.declared.head.Head.TheVariants as heads
use Rattle.pddl_effect.specs.declared.effect.Effect.TheVariants as cases
use Rattle.pddl_effect.specs.Effects.{conjunction, effects_of, effect_view}
use Rattle.pddl_effect_reader.specs.Inner.EffectReading.{effect_at}
use Rattle.pddl_effect_reader.proofs.EffectLaws.{effect_at_list, effect_at_leaf}
use Rattle.pddl_effect.proofs.Views.{view_and}
use Rattle.pddl_effect_reader.proofs.EffectTurns.{scoped_is, by_head}
use Rattle.pddl_formula_reader.proofs.Fills.{fill_next, fill_end}
use Rattle.pddl_effect_reader.proofs.effect_reader.+effect.Goals as goal

pub item_effect-returns-in-List : goal.item_effect-returns-in-List
item_effect-returns-in-List g t c =
    rw (c.in-List.is, item_tree_list c.in-List.items c.in-List.field-1, effect_at_list (item_trees c.in-List.items.items), ← c.deref.ensures.value) c.list_effect.ensures

pub item_effect-returns-in-Word : goal.item_effect-returns-in-Word
item_effect-returns-in-Word g t c =
    rw (c.in-Word.is, item_tree_word _ c.in-Word.field-0, effect_at_leaf (unplaced (view c.in-Word.field-0))) refl

pub list_effect-returns-in-And : goal.list_effect-returns-in-And
list_effect-returns-in-And g t c =
    rw (by_head c.args.items.now c.head-item.result heads.And (omega arith) c.head-item.is (sym c.in-And.is ∙ c.head_of.ensures))
    (found_reads cases.And effect_view (λ v. map effect_view v.items) (λ es. conjunction (effects_of es)) view_and c.effects_of.result c.conjunction.result _ c.conjunction.ensures c.effects_of.ensures)

pub list_effect-returns-in-Forall : goal.list_effect-returns-in-Forall
list_effect-returns-in-Forall g t c =
    rw (by_head c.args.items.now c.head-item.result heads.Forall (omega arith) c.head-item.is (sym c.in-Forall.is ∙ c.head_of.ensures)) c.scoped_of.ensures

pub list_effect-returns-in-When : goal.list_effect-returns-in-When
list_effect-returns-in-When g t c =
    rw (by_head c.args.items.now c.head-item.result heads.When (omega arith) c.head-item.is (sym c.in-When.is ∙ c.head_of.ensures)) c.scoped_of-in-When.ensures

pub effects_of-loop-index-preserved : goal.effects_of-loop-index-preserved
effects_of-loop-index-preserved g t c =
    let l = c.loop-index in
    fill_next effect_view effect_at c.args.items.now _ l.index c.index-items-index.result (omega arith) c.index-items-index.is l.effects c.item_effect.result c.push_effect-effects.result
    l.invariant c.item_effect.ensures c.push_effect-effects.ensures

pub effects_of-returns-after-loop-index : goal.effects_of-returns-after-loop-index
effects_of-returns-after-loop-index g t c =
    let l = c.loop-index in
    fill_end effect_view effect_at c.args.items.now _ l.index (omega arith) l.effects l.invariant

pub scoped_of-returns : goal.scoped_of-returns
scoped_of-returns g t c =
    let item = c.item-item.result in
    let body = c.body-item.result in
    rw (scoped_is c.args.items.now item body (omega arith) (omega arith) c.item-item.is c.body-item.is c.args.scope)
    (c.scoped.ensures (effect_at (item_tree body)) c.item_effect.ensures)
