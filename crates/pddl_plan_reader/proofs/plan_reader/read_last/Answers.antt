use Rattle.std.proofs.Common.{subst, ◌++◌}
use Rattle.std.specs.Prelude.{OnOk}
use Rattle.pddl_token.specs.Spelling.{Spells}
use Rattle.pddl_scan.specs.Faults.{AreValued}
use Rattle.pddl_plan_reader.proofs.RestRead.{moved_read}
use Rattle.pddl_plan_reader.proofs.plan_reader.read_last.Goals as goal

pub returns-clause-plan : goal.returns-clause-plan
returns-clause-plan g c = λ text done within valued reads.
    let all = (done ++ c.args.kept.now) ++ c.args.words.now in
    let words = subst (λ r. OnOk r (Spells all text × AreValued all)) c.in_default.is valued in
    let moved = c.in_default-read_on.ensures done reads in
    let read = moved_read _ _ text done c.args.kept.now c.args.words.now _ within words.0 words.1 moved in
    c.read_rest.ensures.plan text moved.done read.within read.spells read.valued read.steps

pub returns-clause-fault : goal.returns-clause-fault
returns-clause-fault g c = λ text done within valued reads _.
    let all = (done ++ c.args.kept.now) ++ c.args.words.now in
    let words = subst (λ r. OnOk r (Spells all text × AreValued all)) c.in_default.is valued in
    let moved = c.in_default-read_on.ensures done reads in
    let read = moved_read _ _ text done c.args.kept.now c.args.words.now _ within words.0 words.1 moved in
    c.read_rest.ensures.fault text moved.done read.within read.spells read.valued read.steps
