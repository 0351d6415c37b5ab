use Rattle.std.proofs.Common.{◌≡◌, true, false, not, refl, ap, sym, subst, ◌∙◌, arith, Contains}
use Rattle.pddl_task.specs.Names.{is_in}
use Rattle.pddl_task.specs.Types.{types_of}
use Rattle.pddl_faults.proofs.ListTurns.{rest_is}
use Rattle.pddl_types.proofs.types.Types.known.Goals as goal

pub returns-then-not-contains : goal.returns-then-not-contains
returns-then-not-contains g c =
    let known = is_in (types_of c.args.self.now.declared) in
    let own : not (known c.primitive-item.result) ≡ true = ap (λ n. not (known n)) (sym c.as_bytes-name.ensures.value) ∙ ap not (sym c.contains.ensures) ∙ ap not c.if-not-contains.true in
    let left = rw (rest_is c.as_slice-primitives.result.now c.loop-primitive.primitive-index c.primitive-item.result c.loop-primitive-test.true c.primitive-item.is, own) at c.loop-primitive.invariant in
    (refl, subst (λ ns. Contains ns c.as_bytes-name.result.now) left (0, omega arith, sym c.as_bytes-name.ensures.value))

pub loop-primitive-preserved : goal.loop-primitive-preserved
loop-primitive-preserved g c =
    let known = is_in (types_of c.args.self.now.declared) in
    let own : not (known c.primitive-item.result) ≡ false = ap (λ n. not (known n)) (sym c.as_bytes-name.ensures.value) ∙ ap not (sym c.contains.ensures) ∙ ap not c.if-not-contains.false in
    rw (rest_is c.as_slice-primitives.result.now c.loop-primitive.primitive-index c.primitive-item.result c.loop-primitive-test.true c.primitive-item.is, own) at c.loop-primitive.invariant
