use Rattle.std.proofs.Common.{arith, ◌+◌, ◌∷◌, drop, map, sym, ap, ◌∙◌}
use Rattle.std.proofs.lemmas.List.{drop_more, drop_all}
use Rattle.pddl_formula.specs.TypedLists.{typed_view}
use Rattle.pddl_compiled.specs.Compiler.{framed}
use Rattle.pddl_compiled.specs.Frames.{parameter_slot}
use Rattle.pddl_compiled.specs.Scopes.{slot_view}
use Rattle.pddl_compiled.proofs.Binders.{pushed, finished, turned_round}
use Rattle.pddl_compiled.proofs.scope.parameter_slots.Goals as goal

pub returns : goal.returns
returns g c =
    let slots = c.loop-parameter.slots.items in
    let whole = map parameter_slot (map typed_view c.args.parameters.now) in
    turned_round slot_view slots c.reverse.new.self.items whole c.reverse.ensures.items
    (finished slot_view slots _ whole (ap (λ ps. map parameter_slot (map typed_view ps)) (drop_all c.loop-parameter.parameter-index c.args.parameters.now (omega (arith, c.loop-parameter-test.false)))) c.loop-parameter.invariant)

pub loop-parameter-preserved : goal.loop-parameter-preserved
loop-parameter-preserved g c =
    let parameters = c.args.parameters.now in
    let i = c.loop-parameter.parameter-index in
    let left = map parameter_slot (map typed_view (drop (i + 1) parameters)) in
    let is = ap (λ n. (n, framed)) c.as_bytes-name.ensures.value ∙ ap (λ p. parameter_slot (typed_view p)) c.parameter-item.is in
    pushed slot_view c.loop-parameter.slots.items c.push.new.self.items _ left (map parameter_slot (map typed_view (drop i parameters))) (map parameter_slot (map typed_view parameters)) c.in_ok-push.ensures.items
    (ap (λ l. map parameter_slot (map typed_view l)) (drop_more parameters i c.parameter-item.result c.loop-parameter-test.true) ∙ ap (λ s. s ∷ left) (sym is)) c.loop-parameter.invariant
