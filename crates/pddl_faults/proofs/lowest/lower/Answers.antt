use Rattle.std.proofs.Common.{arith}
use Rattle.pddl_faults.specs.Passes.{fault_of}
use Rattle.pddl_faults.proofs.FoundFaults.{lower_front, lower_back}
use Rattle.pddl_faults.proofs.lowest.lower.Goals as goal

pub returns-then-number-clause-found : goal.returns-then-number-clause-found
returns-then-number-clause-found c = λ xs ys h k.
    lower_back xs ys (fault_of c.in-Err.fault) (fault_of c.in-Err-second.other) (omega (arith, c.number.ensures, c.number-in-Err-second.ensures, c.if-number.true)) (rw c.in-Err.is at h) (rw c.in-Err-second.is at k)

pub returns-else-number-clause-found : goal.returns-else-number-clause-found
returns-else-number-clause-found c = λ xs ys h k.
    lower_front xs ys c.in-Err.fault c.in-Err-second.other (omega (arith, c.number.ensures, c.number-in-Err-second.ensures, c.if-number.false)) (rw c.in-Err.is at h) (rw c.in-Err-second.is at k)
