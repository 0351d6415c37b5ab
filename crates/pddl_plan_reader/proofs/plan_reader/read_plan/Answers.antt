use Rattle.std.proofs.Common.{ap}
use Rattle.std.specs.Prelude.{Err}
use Rattle.pddl_plan_reader.proofs.PlanTextLaws.{no_fault_in_plan}
use Rattle.pddl_plan_reader.proofs.RestRead.{refused_text}
use Rattle.pddl_plan_reader.proofs.plan_reader.read_plan.Goals as goal

pub returns-in-Err-clause-fault : goal.returns-in-Err-clause-fault
returns-in-Err-clause-fault g c =
    let new = c.new-reader.ensures in
    refused_text c.in-Err.fault c.args.text.now (λ e. absurd (cc (c.in-Err.ensures.failed.0 (ap Err e), new.going))) (λ e. (c.in-Err.ensures.too_long _ new).0 (ap Err e)) c.in-Err.ensures.refusals

pub returns-in-Err-clause-only : goal.returns-in-Err-clause-only
returns-in-Err-clause-only g c = λ plan spells. no_fault_in_plan c.args.text.now _ plan (returns-in-Err-clause-fault g c) spells

pub returns-clause-plan : goal.returns-clause-plan
returns-clause-plan g c = c.finish.ensures.plan c.args.text.now (c.in_default.ensures.stands _ c.new-reader.ensures)

pub returns-clause-only : goal.returns-clause-only
returns-clause-only g c = λ plan spells. c.finish.ensures.only c.args.text.now plan (c.in_default.ensures.stands _ c.new-reader.ensures) spells

pub returns-clause-fault : goal.returns-clause-fault
returns-clause-fault g c = c.finish.ensures.fault c.args.text.now (c.in_default.ensures.stands _ c.new-reader.ensures)
