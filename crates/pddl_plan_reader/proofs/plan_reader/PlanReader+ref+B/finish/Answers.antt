use Rattle.std.proofs.Common.{◌++◌, subst, arith}
use Rattle.std.specs.Prelude.{IfErr}
use Rattle.pddl_text.proofs.AllGiven.{none_since}
use Rattle.pddl_plan.specs.Plans.{plan_view}
use Rattle.pddl_step_reader.specs.PlanTexts.{PlanStands}
use Rattle.pddl_plan_reader.proofs.RestRead.{answers_only, err_with}
use Rattle.pddl_plan_reader.proofs.plan_reader.PlanReader+ref+B.finish.Goals as goal

pub returns-clause-plan : goal.returns-clause-plan
returns-clause-plan g c = λ text stands.
    let self = c.args.self in
    let since = none_since self.lexer text (stands.done ++ self.kept) c.clear.new.self c.clear.ensures stands.lexed in
    let words = c.finish_into-ended.ensures.words text (stands.done ++ self.kept) since in
    c.read_whole.ensures.plan text (c.read_last-read.ensures.plan text stands.done (omega (arith, stands.lexed.counted, self.lexer.short)) words stands.reads)

pub returns-clause-fault : goal.returns-clause-fault
returns-clause-fault g c = λ text stands.
    let self = c.args.self in
    let since = none_since self.lexer text (stands.done ++ self.kept) c.clear.new.self c.clear.ensures stands.lexed in
    let words = c.finish_into-ended.ensures.words text (stands.done ++ self.kept) since in
    let fault = c.finish_into-ended.ensures.fault text (stands.done ++ self.kept) since in
    let refused = c.read_last-read.ensures.fault text stands.done (omega (arith, stands.lexed.counted, self.lexer.short)) words stands.reads fault in
    err_with c.read_whole.result (λ fault is. subst (λ r. IfErr r (λ fault. PlanStands fault text)) is refused) c.read_whole.ensures.fault

pub returns-clause-only : goal.returns-clause-only
returns-clause-only g c = λ text plan stands spells. answers_only (λ found. plan_view found) text plan c.read_whole.result spells (returns-clause-plan g c text stands) (returns-clause-fault g c text stands)
