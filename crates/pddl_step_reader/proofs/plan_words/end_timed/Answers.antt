use Rattle.std.proofs.Common.{◌≡◌, ◌<◌, length, arith}
use Rattle.std.proofs.lemmas.Bool.Decides.{nat_tests}
use Rattle.pddl_step_reader.proofs.StepsRead.{timed_ended}
use Rattle.pddl_step_reader.proofs.plan_words.end_timed.Goals as goal

pub returns : goal.returns
returns g c = λ done kept closing is reads.
    let b = c.args.plan.now in
    let some : 0 < length b.names = grind (arith, nat_tests, c.has_names.ensures, c.if-not-has_names.false) in
    let same : length b.moments ≡ length b.steps = grind (arith, nat_tests, c.is_timed.ensures, c.if-not-is_timed.false) in
    timed_ended b done kept closing c.args.moment c.end_step_at.new.self is same some c.in_ok-end_step_at.ensures.ended reads
