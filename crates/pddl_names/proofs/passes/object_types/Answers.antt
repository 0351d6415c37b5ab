use Rattle.std.proofs.Common.{◌≡◌, true, false, length, refl, sym, arith, nat_lt}
use Rattle.std.proofs.lemmas.List.{drop_all}
use Rattle.pddl_task.proofs.Lists.{has_first}
use Rattle.pddl_faults.proofs.ListTurns.{rest_is}
use Rattle.pddl_names.proofs.passes.object_types.Goals as goal

pub returns-then-as_slice-gt1 : goal.returns-then-as_slice-gt1
returns-then-as_slice-gt1 g c =
    let several : nat_lt 1 (length c.object-item.result.types) ≡ true = grind arith in
    rw (c.as_bytes.ensures.value, ← c.loop-object.invariant, rest_is c.args.objects.now c.loop-object.object-index c.object-item.result c.loop-object-test.true c.object-item.is, several)
    (refl, has_first c.object-item.result.name _)

pub loop-object-preserved : goal.loop-object-preserved
loop-object-preserved g c =
    let one : nat_lt 1 (length c.object-item.result.types) ≡ false = grind arith in
    rw (rest_is c.args.objects.now c.loop-object.object-index c.object-item.result c.loop-object-test.true c.object-item.is, one) at c.loop-object.invariant

pub returns : goal.returns
returns g c = sym (rw (drop_all c.loop-object.object-index c.args.objects.now c.loop-object-test.false) at c.loop-object.invariant)
