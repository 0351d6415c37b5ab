use Rattle.std.proofs.Common.{◌≡◌, ◌++◌, map, drop}
use Rattle.pddl_effect.specs.Effects.{effect_view}
use Rattle.pddl_compiled.specs.Compiler.{change_of}
use Rattle.pddl_compiled.specs.Views.{change_view}
use Rattle.pddl_compiled.specs.Scopes.{scope_view}
use Rattle.pddl_compiled.proofs.changes.+changes.Given as goal

-- the changes so far, and those that are left
abbrev pub invariant-add_changes-loop-effect : goal.invariant-add_changes-loop-effect
invariant-add_changes-loop-effect g l =
    let t = g.L.Lookups.tables l.lookups in
    map change_view l.changes.items ++ map (λ f. change_of t (effect_view f) (scope_view l.scope)) (drop l.effect-index l.effects.items) ≡ map change_view l.fn.changes.items ++ map (λ f. change_of t (effect_view f) (scope_view l.scope)) l.effects.items
