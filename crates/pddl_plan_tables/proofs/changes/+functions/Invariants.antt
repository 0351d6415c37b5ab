use Rattle.std.proofs.Common.{◌≡◌, drop, map}
use Rattle.pddl_effect.specs.Effects.{effect_view, effects_of}
use Rattle.pddl_plan_tables.specs.ChangeCosts.{some_has_function}
use Rattle.pddl_plan_tables.proofs.changes.+functions.Given as goal

-- some of all has a function term where some of those that are left has one
abbrev pub invariant-some_has_function-loop-effect : goal.invariant-some_has_function-loop-effect
invariant-some_has_function-loop-effect g l =
    some_has_function (effects_of (map effect_view (drop l.effect-index l.effects.items))) ≡ some_has_function (effects_of (map effect_view l.effects.items))
