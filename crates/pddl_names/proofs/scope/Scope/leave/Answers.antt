use Rattle.std.proofs.Common.{◌≡◌, [], ◌∷◌, ap, ◌∙◌, drop-drop, refl, arith, reverse}
use Rattle.std.proofs.lemmas.List.{reverse-append}
use Rattle.std.proofs.lemmas.Grind.{common_steps}
use Rattle.pddl_names.proofs.Scopes.{scope_less, scope_there}
use Rattle.pddl_names.proofs.scope.Scope.leave.Goals as goal
use Rattle.pddl_names.proofs.scope.Scope.leave.Goals.{in-Some+in-Ok, in_default}

pub unreachable-requires : goal.unreachable-requires
unreachable-requires g c =
    let left = c.pop.new.self.items in
    scope_there (reverse left) c.loop.self-inside.innermost.entries c.in-Some.last c.as_bytes-name.result.now c.as_bytes-name.ensures.value
    (rw (c.in-Some.ensures.items, reverse-append left (c.in-Some.last ∷ [])) at c.loop.invariant.is_scope) c.in-Err.ensures.absent

pub loop-preserved : goal.loop-preserved
loop-preserved g c =
    let before = c.loop.self-inside in
    let left = c.pop.new.self.items in
    elim c.match-pop.branch [
      | in-Some+in-Ok w ↦
          let turned : reverse before.bound.items ≡ w.in-Some.last ∷ reverse left = ap reverse w.in-Some.ensures.items ∙ reverse-append left (w.in-Some.last ∷ []) in
          rw (w.self-inside-is, w.in-Ok.ensures.entries) (record {
            left = rw (← drop-drop 1 c.loop.counter c.args.self.now, ← c.loop.invariant.left, turned) refl;
            is_scope = scope_less (reverse left) before.innermost.entries w.in-Some.last w.as_bytes-name.result w.as_bytes-name.ensures.value (rw turned at c.loop.invariant.is_scope);
          })
      | in_default w ↦
          let none : left ≡ [] = grind (arith, common_steps, w.in_default.ensures.cases) in
          let before_none : before.bound.items ≡ [] = rw none at w.in_default.ensures.items in
          rw (w.self-inside-is, none) (record {
            left = rw (← drop-drop 1 c.loop.counter c.args.self.now, ← c.loop.invariant.left, before_none) refl;
            is_scope = rw before_none at c.loop.invariant.is_scope;
          })
    ]
