use Rattle.std.proofs.Common.{subst, inl}
use Rattle.pddl_plan.specs.Plans.{plan_view}
use Rattle.pddl_file_lines.specs.declared.outcome.RunFault.TheVariants.{ReadFailed, WriteFailed}
use Rattle.pddl_file_lines.specs.Contents.{IsPlanContent}
use Rattle.pddl_file_lines.proofs.Made.{if_made, only_memory, on_any}
use Rattle.pddl_commands.proofs.Good.{answered, plan_printed, refused_is_bad}
use Rattle.pddl_commands.proofs.formatting.read_formatted_plan.Goals as goal

pub returns-in-Plan : goal.returns-in-Plan
returns-in-Plan g c =
    let content = subst (IsPlanContent (g.S.Source.remaining c.args.source.now) (g.S.Source.at_end c.read_plan_file.new.source)) c.in-Plan.is c.in_ok-plan.ensures.content in
    record {
      answer = if_made c.formatted_plan-answer.result c.or_memory.result _ _ c.or_memory.ensures
          (λ answer is. (content.0.0, content.0.1, plan_printed (plan_view c.in-Plan.plan) content.0.0 answer.0.items answer.1 is.0 content.0.2 is.1)) c.formatted_plan-answer.ensures;
      read = if_made c.formatted_plan-answer.result c.or_memory.result _ _ c.or_memory.ensures (λ answer is. inl content.1) c.formatted_plan-answer.ensures;
      good_at_end = if_made c.formatted_plan-answer.result c.or_memory.result _ _ c.or_memory.ensures (λ answer is good. content.1) c.formatted_plan-answer.ensures;
      none_failed = on_any c.or_memory.result c.in_ok-plan.ensures.none_failed;
      memory = λ is. c.in_ok-plan.ensures.none_failed;
      read_failed = λ is. absurd (cc (only_memory c.formatted_plan-answer.result c.or_memory.result ReadFailed c.or_memory.ensures is));
      no_write = λ is. absurd (cc (only_memory c.formatted_plan-answer.result c.or_memory.result WriteFailed c.or_memory.ensures is));
      stands = c.read_plan_file.ensures.stands;
    }

pub returns-in-Refused : goal.returns-in-Refused
returns-in-Refused g c =
    let content = subst (IsPlanContent (g.S.Source.remaining c.args.source.now) (g.S.Source.at_end c.read_plan_file.new.source)) c.in-Refused.is c.in_ok-plan.ensures.content in
    record {
      answer = (content.1.0, content.1.1, content.1.2);
      read = content.0;
      good_at_end = λ good. absurd (refused_is_bad good);
      none_failed = c.in_ok-plan.ensures.none_failed;
      memory = λ is. c.in_ok-plan.ensures.none_failed;
      read_failed = λ is. absurd (answered is);
      no_write = λ is. answered is;
      stands = c.read_plan_file.ensures.stands;
    }
