use Rattle.std.proofs.Common.{subst, inl, inr}
use Rattle.pddl_plan.specs.Plans.{plan_view}
use Rattle.pddl_file_lines.specs.declared.outcome.RunFault.TheVariants.{ReadFailed, WriteFailed}
use Rattle.pddl_file_lines.specs.Contents.{IsPlanContent}
use Rattle.pddl_file_lines.proofs.Made.{if_made, only_memory, on_any}
use Rattle.pddl_plan_commands.proofs.reading.read_plan_checked.Goals as goal

pub returns-in-Plan : goal.returns-in-Plan
returns-in-Plan g c =
    let content = subst (IsPlanContent (g.S.Source.remaining c.args.plan.now) (g.S.Source.at_end c.read_plan_file.new.source)) c.in-Plan.is c.in_ok-read.ensures.content in
    record {
      answer = if_made c.judged_plan-answer.result c.or_memory.result _ _ c.or_memory.ensures (λ answer judged. (content.0.0, content.0.1, inr (plan_view c.in-Plan.read, content.0.2, judged))) c.judged_plan-answer.ensures;
      read = if_made c.judged_plan-answer.result c.or_memory.result _ _ c.or_memory.ensures (λ answer judged. inl content.1) c.judged_plan-answer.ensures;
      judged_at_end = if_made c.judged_plan-answer.result c.or_memory.result _ _ c.or_memory.ensures (λ answer judged is. content.1) c.judged_plan-answer.ensures;
      none_failed = on_any c.or_memory.result c.in_ok-read.ensures.none_failed;
      memory = λ is. c.in_ok-read.ensures.none_failed;
      read_failed = λ is. absurd (cc (only_memory c.judged_plan-answer.result c.or_memory.result ReadFailed c.or_memory.ensures is));
      no_write = λ is. absurd (cc (only_memory c.judged_plan-answer.result c.or_memory.result WriteFailed c.or_memory.ensures is));
      stands = c.read_plan_file.ensures.stands;
    }
