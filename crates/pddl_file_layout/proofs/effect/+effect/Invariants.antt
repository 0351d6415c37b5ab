use Rattle.std.proofs.Common.{◌≡◌, true, map, take}
use Rattle.std.specs.List.{list_all}
use Rattle.pddl_effect.specs.Effects.{effect_view}
use Rattle.pddl_file_layout.specs.FormulaValues.{is_effect}
use Rattle.pddl_file_layout.specs.Inner.Texts.{spaced_by, effect_text}
use Rattle.pddl_file_layout.specs.Inner.Printing.{Puts}
use Rattle.pddl_file_layout.proofs.effect.+effect.Given as goal

-- those so far are written
abbrev pub invariant-put_effects-loop-effect : goal.invariant-put_effects-loop-effect
invariant-put_effects-loop-effect g l = record {
  printed : Puts (g.W.Sink.contents l.initial.out) (g.W.Sink.contents l.out) (g.W.Sink.failures l.initial.out) (g.W.Sink.failures l.out) l.initial.failed l.failed (spaced_by effect_text (map effect_view (take l.effect-index l.effects.items)));
  good : list_all is_effect (map effect_view (take l.effect-index l.effects.items)) ≡ true;
}
