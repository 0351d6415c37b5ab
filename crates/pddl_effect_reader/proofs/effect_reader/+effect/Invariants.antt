use Rattle.std.proofs.Common.{map}
use Rattle.std.specs.Prelude.{IfOk}
use Rattle.pddl_items.specs.ItemTrees.{item_trees}
use Rattle.pddl_items.specs.Inner.TreeReading.{all_of}
use Rattle.pddl_formula_reader.specs.Inner.Reading.{behind}
use Rattle.pddl_formula_reader.proofs.Fills.{SoFar}
use Rattle.pddl_effect.specs.Effects.{effect_view}
use Rattle.pddl_effect_reader.specs.Inner.EffectReading.{effect_at}
use Rattle.pddl_effect_reader.proofs.effect_reader.+effect.Given as goal

-- those so far, if there are any, and those of the items that are left
abbrev pub invariant-effects_of-loop-index : goal.invariant-effects_of-loop-index
invariant-effects_of-loop-index g l =
    IfOk l.effects (SoFar effect_view effect_at l.items (all_of (behind (map effect_at (item_trees l.items)))) l.index)
