use Rattle.std.proofs.Common.{◌≡◌, ◌<◌, length, arith}
use Rattle.std.proofs.lemmas.Bool.Decides.{nat_tests}
use Rattle.pddl_step_reader.proofs.StepsRead.{no_elements, plain_ended}
use Rattle.pddl_step_reader.proofs.plan_words.end_plain.Goals as goal

pub returns : goal.returns
returns g c = λ done kept closing is reads.
    let b = c.args.plan.now in
    let some : 0 < length b.names = grind (arith, nat_tests, c.has_names.ensures, c.if-not-has_names.false) in
    let none : length b.moments ≡ 0 = grind (arith, nat_tests, c.is_plain.ensures, c.if-not-is_plain.false) in
    plain_ended b done kept closing c.end_step.new.self is (no_elements b.moments none) some c.in_ok-end_step.ensures.ended reads

pub end_step-requires-clause-named : goal.end_step-requires-clause-named
end_step-requires-clause-named g c = grind (arith, nat_tests, c.has_names.ensures, c.if-not-has_names.false)

pub end_step-requires-clause-plain : goal.end_step-requires-clause-plain
end_step-requires-clause-plain g c = no_elements c.args.plan.now.moments (grind (arith, nat_tests, c.is_plain.ensures, c.if-not-is_plain.false))
