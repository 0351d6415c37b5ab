use Rattle.std.proofs.Common.{◌≡◌, true, false, not, refl, sym, arith}
use Rattle.std.proofs.lemmas.List.{drop_all}
use Rattle.pddl_domain.specs.Declarations.{number}
use Rattle.pddl_task.specs.Names.{same_names}
use Rattle.pddl_task.proofs.Lists.{has_first}
use Rattle.pddl_faults.proofs.ListTurns.{rest_is}
use Rattle.pddl_names.proofs.passes.object_fluents.Goals as goal

pub returns-then-not-is_number : goal.returns-then-not-is_number
returns-then-not-is_number g c =
    let other : not (same_names c.function-item.result.result number) ≡ true = grind arith in
    rw (c.as_bytes.ensures.value, ← c.loop-function.invariant, rest_is c.deref-function-items.result.now c.loop-function.function-index c.function-item.result c.loop-function-test.true c.function-item.is, other)
    (refl, has_first c.function-item.result.name _)

pub loop-function-preserved : goal.loop-function-preserved
loop-function-preserved g c =
    let right : not (same_names c.function-item.result.result number) ≡ false = grind arith in
    rw (rest_is c.deref-function-items.result.now c.loop-function.function-index c.function-item.result c.loop-function-test.true c.function-item.is, right) at c.loop-function.invariant

pub returns : goal.returns
returns g c = sym (rw (drop_all c.loop-function.function-index c.deref-function-items.result.now c.loop-function-test.false) at c.loop-function.invariant)
