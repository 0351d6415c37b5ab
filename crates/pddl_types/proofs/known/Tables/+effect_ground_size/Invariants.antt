use Rattle.std.proofs.Common.{◌≡◌, ◌≤◌, ◌+◌, drop, map}
use Rattle.pddl_effect.specs.Effects.{effect_view, effects_of}
use Rattle.pddl_task.specs.GroundSize.{capped, effects_size}
use Rattle.pddl_types.specs.Known.{count_in}
use Rattle.pddl_types.proofs.known.Tables.+effect_ground_size.Given as goal

abbrev pub invariant-loop-part : goal.invariant-loop-part
invariant-loop-part g l =
    let count = count_in l.self.known in
    record {
      low : l.size ≤ 1000001;
      whole : capped (l.size + effects_size count (effects_of (map effect_view (drop l.part-index l.part-items)))) ≡ capped (1 + effects_size count (effects_of (map effect_view l.part-items)));
    }
