use Rattle.std.proofs.Common.{refl, rules, subst}
use Rattle.std.specs.Io.KnownBytes.{Appends}
use Rattle.pddl_device.specs.Device.{AppendsBeginning}
use Rattle.pddl_plan_commands.specs.Inner.WantedPrintings.{printing_of}
use Rattle.pddl_file_lines.proofs.Left.{keeps_itself}
use Rattle.pddl_plan_commands.proofs.Runs.{is_text}
use Rattle.pddl_plan_commands.proofs.running.run.Goals as goal

pub returns-in_err-printed : goal.returns-in_err-printed
returns-in_err-printed g c =
    let did = c.read_each.ensures in
    let kept = keeps_itself (g.W.Sink.contents c.args.out.now) in
    record {
      outcome = search rules;
      none_failed = search rules;
      memory = λ is. (did.memory (search rules), (kept, refl));
      read_failed = λ is. (did.read_failed (search rules), (kept, refl));
      write_failed = λ is. absurd (did.no_write (search rules));
      domain_stands = did.stands;
      problem_stands = did.problem_stands;
      plan_stands = did.plan_stands;
      domain_first = did.domain_first;
      problem_first = did.problem_first;
      no_read_after_domain = did.no_read_after_domain;
      no_read_after_problem = did.no_read_after_problem;
    }

pub returns-in-Ok : goal.returns-in-Ok
returns-in-Ok g c =
    let did = c.in_ok-printed.ensures in
    let written = subst (Appends (g.W.Sink.contents c.args.out.now) (g.W.Sink.contents c.write_text.new.writer)) c.deref.ensures.value c.in-Ok.ensures.written in
    let text = is_text (printing_of c.args.wanted) _ c.in_ok-printed.printed.items c.in_ok-printed.outcome did.answer did.read did.judged_at_end in
    record {
      outcome = (c.in_ok-printed.printed.items, text, written);
      none_failed = (did.none_failed, c.in-Ok.ensures.none_failed);
      memory = λ is. absurd (cc (is));
      read_failed = λ is. absurd (cc (is));
      write_failed = λ is. absurd (cc (is));
      domain_stands = did.stands;
      problem_stands = did.problem_stands;
      plan_stands = did.plan_stands;
      domain_first = did.domain_first;
      problem_first = did.problem_first;
      no_read_after_domain = did.no_read_after_domain;
      no_read_after_problem = did.no_read_after_problem;
    }

pub returns : goal.returns
returns g c =
    let did = c.in_ok-printed.ensures in
    let begun = subst (AppendsBeginning (g.W.Sink.contents c.args.out.now) (g.W.Sink.contents c.write_text.new.writer)) c.deref.ensures.value c.in-Err.ensures.beginning in
    let text = is_text (printing_of c.args.wanted) _ c.in_ok-printed.printed.items c.in_ok-printed.outcome did.answer did.read did.judged_at_end in
    record {
      outcome = tt;
      none_failed = tt;
      memory = λ is. absurd (cc (is));
      read_failed = λ is. absurd (cc (is));
      write_failed = λ is. (c.in-Err.ensures.write_failed, did.none_failed, (c.in_ok-printed.printed.items, c.in_ok-printed.outcome, text, begun));
      domain_stands = did.stands;
      problem_stands = did.problem_stands;
      plan_stands = did.plan_stands;
      domain_first = did.domain_first;
      problem_first = did.problem_first;
      no_read_after_domain = did.no_read_after_domain;
      no_read_after_problem = did.no_read_after_problem;
    }
