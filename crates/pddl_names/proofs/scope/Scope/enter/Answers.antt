use Rattle.std.proofs.Common.{◌≡◌, length, ap, arith, reverse}
use Rattle.std.proofs.lemmas.List.{length-map, length-reverse}
use Rattle.pddl_names.specs.Scopes.{entry_of}
use Rattle.pddl_names.proofs.Scopes.{none_entered, entered_more}
use Rattle.pddl_names.proofs.scope.Scope.enter.Goals as goal

pub loop-place-init : goal.loop-place-init
loop-place-init g c = none_entered

pub loop-place-preserved : goal.loop-place-preserved
loop-place-preserved g c =
    let bound = c.self.inside.bound.items in
    let began : c.len-began.result ≡ length c.args.self.now = omega (arith, c.len-began.ensures, ap length c.self.view_is, length-map (reverse bound) entry_of, length-reverse bound) in
    rw c.in-Ok.ensures.bound
    (entered_more c.loop-place.invariant c.index-deref-place.result c.in-Ok.hidden c.once.result c.requires (omega (arith, c.loop-place-test.true, c.len-place-end.ensures))
    (rw c.deref.ensures.value at c.index-deref-place.is) c.in-Ok.ensures.hidden (rw (began, c.as_bytes.ensures.value) at c.once.ensures) c.lower-found.ensures.found)
