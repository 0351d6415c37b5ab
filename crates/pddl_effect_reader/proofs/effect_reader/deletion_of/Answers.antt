use Rattle.std.proofs.Common.{arith}
use Rattle.pddl_build.proofs.Parts.{found_reads}
use Rattle.pddl_items.specs.ItemTrees.{item_tree}
use Rattle.pddl_formula.specs.Terms.{atom_view}
use Rattle.pddl_formula_reader.specs.Inner.Reading.{atom_at}
use Rattle.pddl_effect.specs.declared.effect.Effect.TheVariants as cases
use Rattle.pddl_effect.specs.Effects.{deletion, effect_view}
use Rattle.pddl_effect.proofs.Views.{view_del}
use Rattle.pddl_effect_reader.proofs.EffectTurns.{only_is}
use Rattle.pddl_effect_reader.proofs.effect_reader.deletion_of.Goals as goal

pub returns : goal.returns
returns g c =
    rw (only_is c.args.items.now c.item-item.result (omega arith) (omega arith) c.item-item.is)
    (found_reads cases.Del effect_view atom_view deletion view_del c.atom_of.result c.deletion.result (atom_at (item_tree c.item-item.result)) c.deletion.ensures c.atom_of.ensures)
