use Rattle.std.proofs.Common.{◌≡◌, ◌++◌, length, arith}
use Rattle.std.specs.Prelude.{Result, Ok, Err, OnErr}
use Rattle.pddl_linked_plan.proofs.HeldSteps.{still_within, steps_stay, within_pushed, steps_pushed, step_pushed}
use Rattle.pddl_linked_plan.proofs.steps.Steps.push.Goals as goal

on_err : {T E : Type 0} (r : Result T E) (P : Type 0) → P → OnErr r P
on_err (Ok x) P holds = tt
on_err (Err e) P holds = holds

pub invariant_of-self : goal.invariant_of-self
invariant_of-self g c = rw c.in_err-extend_from_slice.ensures.items c.self.invariant

pub invariant_of-self-in_err-push : goal.invariant_of-self-in_err-push
invariant_of-self-in_err-push g c =
    rw (c.in_err-push.ensures.items, c.in_ok-extend_from_slice.ensures.items) (still_within c.self.inside.objects.items c.args.objects.now c.self.inside.parts.items c.self.invariant)

pub invariant_of-self-2 : goal.invariant_of-self-2
invariant_of-self-2 g c =
    let start : c.len-start.result ≡ length c.self.inside.objects.items = omega arith in
    let end : c.len-end.result ≡ length (c.self.inside.objects.items ++ c.args.objects.now) = rw (← c.in_ok-extend_from_slice.ensures.items) (omega arith) in
    rw (c.in_ok-push.ensures.items, c.in_ok-extend_from_slice.ensures.items)
    (within_pushed c.self.inside.objects.items c.args.objects.now c.self.inside.parts.items c.self.invariant _ start end)

pub returns-clause-added : goal.returns-clause-added
returns-clause-added g c =
    let start : c.len-start.result ≡ length c.self.inside.objects.items = omega arith in
    let end : c.len-end.result ≡ length (c.self.inside.objects.items ++ c.args.objects.now) = rw (← c.in_ok-extend_from_slice.ensures.items) (omega arith) in
    rw (c.in_ok-push.ensures.items, c.in_ok-extend_from_slice.ensures.items, ← c.self.view_is)
    (steps_pushed c.self.inside.objects.items c.args.objects.now c.self.inside.parts.items c.self.invariant _ _
    (step_pushed c.self.inside.objects.items c.args.objects.now c.args.action c.args.moment c.len-start.result c.len-end.result start end))

pub returns-in_err-push-clause-refused : goal.returns-in_err-push-clause-refused
returns-in_err-push-clause-refused g c =
    on_err c.from_residual-in_err-push.result _
    (rw (c.in_err-push.ensures.items, c.in_ok-extend_from_slice.ensures.items, ← c.self.view_is)
    (steps_stay c.self.inside.objects.items c.args.objects.now c.self.inside.parts.items c.self.invariant))
