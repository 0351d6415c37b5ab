use Rattle.pddl_token.proofs.Values.{too_large}
use Rattle.pddl_token.proofs.number.add_digits.Goals as goal

pub returns-in_err-longer : goal.returns-in_err-longer
returns-in_err-longer c = rw c.from_residual.ensures
    (too_large 9999999999999999999 c.args.value c.loop-digit.longer c.loop-digit.digit-index c.args.digits.now c.loop-digit-test.true c.loop-digit.invariant.value c.in_err-longer.ensures)
