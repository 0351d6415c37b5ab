use Rattle.std.proofs.Common.{sym, ap}
use Rattle.std.proofs.lemmas.List.{drop_all}
use Rattle.pddl_names.specs.Claims.{fault_number}
use Rattle.pddl_names.proofs.InitClaims.{checked_other, checked_wrong, checked_more}
use Rattle.pddl_names.proofs.init.agree_in.Goals as goal
use Rattle.pddl_names.proofs.init.agree_in.Goals.{then-is_value-of_values+in_ok-before+else-of_values-is_cost, else-is_value-of_values, then-of_values, else-of_values}

pub returns-then-of_values-is_cost : goal.returns-then-of_values-is_cost
returns-then-of_values-is_cost g c =
    let here =
    checked_wrong c.loop-item-test.true c.item-item.is c.loop-item.invariant c.claim_of-is_value.result c.claim_of-is_value.ensures c.in_ok-before.before c.if-is_value-of_values.true c.in_ok-before.ensures.first
    (rw (c.eq-is_cost.ensures, c.as_bytes-name.ensures.value, c.as_slice.ensures) at c.if-of_values-is_cost.true) in
    elim c.if-of_values.branch [
      | then-of_values w ↦ rw (w.result-is, c.as_bytes-name.ensures.value) (ap fault_number (sym w.if-of_values.true), here)
      | else-of_values w ↦ rw (w.result-is, c.as_bytes-name.ensures.value) (ap fault_number (sym w.if-of_values.false), here)
    ]

pub loop-item-preserved : goal.loop-item-preserved
loop-item-preserved g c =
    elim c.if-is_value-of_values.branch [
      | then-is_value-of_values+in_ok-before+else-of_values-is_cost w ↦
          rw w.claims-is
          (checked_more c.loop-item-test.true c.item-item.is c.loop-item.invariant c.claim_of-is_value.result c.claim_of-is_value.ensures w.in_ok-before.before w.if-is_value-of_values.true w.in_ok-before.ensures.first
          w.first_number.new.table.entries w.in_ok-before.ensures.put (rw (w.eq-is_cost.ensures, w.as_bytes-name.ensures.value, w.as_slice.ensures) at w.if-of_values-is_cost.false))
      | else-is_value-of_values w ↦ rw w.claims-is (checked_other c.loop-item-test.true c.item-item.is c.loop-item.invariant c.claim_of-is_value.result c.claim_of-is_value.ensures w.if-is_value-of_values.false)
    ]

pub returns : goal.returns
returns g c = sym (rw (drop_all c.loop-item.item-index c.args.init.now c.loop-item-test.false) at c.loop-item.invariant.rest)
