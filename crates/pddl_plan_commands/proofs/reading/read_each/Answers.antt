use Rattle.std.proofs.Common.{◌∙◌, refl, sym, subst, inl, inr}
use Rattle.std.proofs.lemmas.Result.{IfOk-weaker, on_ok_weaker}
use Rattle.pddl_domain.specs.Domains.{domain_view}
use Rattle.pddl_domain_reader.specs.DomainTexts.{SpellsDomain, DomainStands}
use Rattle.pddl_kind.specs.declared.Kind.TheVariants.{Domain}
use Rattle.pddl_file_lines.specs.declared.outcome.RunFault.TheVariants.{ReadFailed, WriteFailed}
use Rattle.pddl_file_lines.specs.Contents.{IsContent}
use Rattle.pddl_file_lines.specs.Refusals.{IsRefused}
use Rattle.pddl_file_lines.proofs.Left.{some_left, no_domain_left, stands_still}
use Rattle.pddl_file_lines.proofs.Made.{if_made, only_memory, on_any}
use Rattle.pddl_plan_commands.proofs.reading.read_each.Goals as goal

pub refused_domain-requires : goal.refused_domain-requires
refused_domain-requires g c = subst (λ text. DomainStands c.in-Err.fault text) (c.deref.ensures.value ∙ sym c.deref-in-Err.ensures.value) c.in-Err.ensures.fault

pub returns-in-Text : goal.returns-in-Text
returns-in-Text g c =
    let content = subst (IsContent Domain (g.S.Source.remaining c.args.domain.now) (g.S.Source.at_end c.read_file.new.source)) c.in-Text.is c.in_ok-text.ensures.content in
    let given = some_left (g.T.Source.remaining c.args.problem.now) in
    let steps = some_left (g.U.Source.remaining c.args.plan.now) in
    record {
      answer = if_made c.refused_domain.result c.or_memory.result _ _ c.or_memory.ensures
          (λ answer is. (
            c.in-Text.text.items,
            given.0,
            steps.0,
            content.0,
            given.1,
            steps.1,
            inl (is.0, subst (λ text. IsRefused Domain text answer.0.items) c.deref-in-Err.ensures.value is.1),
          )) c.refused_domain.ensures;
      read = if_made c.refused_domain.result c.or_memory.result _ _ c.or_memory.ensures (λ answer is. (inl content.1, inl refl, inl refl)) c.refused_domain.ensures;
      judged_at_end = if_made c.refused_domain.result c.or_memory.result _ _ c.or_memory.ensures (λ answer is judged. absurd (judged is.0)) c.refused_domain.ensures;
      none_failed = on_any c.or_memory.result (c.in_ok-text.ensures.none_failed, refl, refl);
      memory = λ is. (c.in_ok-text.ensures.none_failed, refl, refl);
      read_failed = λ is. absurd (cc (only_memory c.refused_domain.result c.or_memory.result ReadFailed c.or_memory.ensures is));
      no_write = λ is. absurd (cc (only_memory c.refused_domain.result c.or_memory.result WriteFailed c.or_memory.ensures is));
      stands = c.read_file.ensures.stands;
      problem_stands = stands_still (g.T.Source.remaining c.args.problem.now);
      plan_stands = stands_still (g.U.Source.remaining c.args.plan.now);
      domain_first = λ none. (refl, refl);
      problem_first = λ none. refl;
      no_read_after_domain = λ failed. (refl, refl);
      no_read_after_problem = λ failed. refl;
    }

pub returns : goal.returns
returns g c =
    let content = subst (IsContent Domain (g.S.Source.remaining c.args.domain.now) (g.S.Source.at_end c.read_file.new.source)) c.in-TooLong.is c.in_ok-text.ensures.content in
    let given = some_left (g.T.Source.remaining c.args.problem.now) in
    let steps = some_left (g.U.Source.remaining c.args.plan.now) in
    record {
      answer = (content.1.0, given.0, steps.0, content.1.1, given.1, steps.1, inl (refl, content.1.2));
      read = (inr content.0, inl refl, inl refl);
      judged_at_end = λ judged. absurd (judged refl);
      none_failed = (c.in_ok-text.ensures.none_failed, refl, refl);
      memory = λ is. absurd (cc (is));
      read_failed = λ is. absurd (cc (is));
      no_write = λ is. absurd (cc (is));
      stands = c.read_file.ensures.stands;
      problem_stands = stands_still (g.T.Source.remaining c.args.problem.now);
      plan_stands = stands_still (g.U.Source.remaining c.args.plan.now);
      domain_first = λ none. (refl, refl);
      problem_first = λ none. refl;
      no_read_after_domain = λ failed. (refl, refl);
      no_read_after_problem = λ failed. refl;
    }

pub returns-in-Ok-clause-domain_first : goal.returns-in-Ok-clause-domain_first
returns-in-Ok-clause-domain_first g c none =
    let remaining = g.S.Source.remaining c.args.domain.now in
    let content = subst (IsContent Domain remaining (g.S.Source.at_end c.read_file.new.source)) c.in-Text.is c.in_ok-text.ensures.content in
    absurd (no_domain_left remaining c.in-Text.text.items (domain_view c.in-Ok.read) content.0 (subst (λ text. SpellsDomain (domain_view c.in-Ok.read) text) c.deref.ensures.value c.in-Ok.ensures.domain) none)

pub returns-in-Ok-clause-answer : goal.returns-in-Ok-clause-answer
returns-in-Ok-clause-answer g c =
    let content = subst (IsContent Domain (g.S.Source.remaining c.args.domain.now) (g.S.Source.at_end c.read_file.new.source)) c.in-Text.is c.in_ok-text.ensures.content in
    let spells = subst (λ text. SpellsDomain (domain_view c.in-Ok.read) text) c.deref.ensures.value c.in-Ok.ensures.domain in
    IfOk-weaker c.read_problem_and_plan-answer.result _ _
    (λ answer judged. (c.in-Text.text.items, judged.0, judged.1, content.0, judged.2, judged.3, inr (domain_view c.in-Ok.read, spells, judged.4))) c.read_problem_and_plan-answer.ensures.answer

pub returns-in-Ok-clause-judged_at_end : goal.returns-in-Ok-clause-judged_at_end
returns-in-Ok-clause-judged_at_end g c =
    let content = subst (IsContent Domain (g.S.Source.remaining c.args.domain.now) (g.S.Source.at_end c.read_file.new.source)) c.in-Text.is c.in_ok-text.ensures.content in
    IfOk-weaker c.read_problem_and_plan-answer.result _ _
    (λ answer ends judged. let both = ends judged in (content.1, both.0, both.1)) c.read_problem_and_plan-answer.ensures.judged_at_end

pub returns-in-Ok-clause-read : goal.returns-in-Ok-clause-read
returns-in-Ok-clause-read g c =
    let content = subst (IsContent Domain (g.S.Source.remaining c.args.domain.now) (g.S.Source.at_end c.read_file.new.source)) c.in-Text.is c.in_ok-text.ensures.content in
    IfOk-weaker c.read_problem_and_plan-answer.result _ _
    (λ answer read. (inl content.1, inr read.0, read.1)) c.read_problem_and_plan-answer.ensures.read

pub returns-in-Ok-clause-none_failed : goal.returns-in-Ok-clause-none_failed
returns-in-Ok-clause-none_failed g c = on_ok_weaker c.read_problem_and_plan-answer.result (λ later. (c.in_ok-text.ensures.none_failed, later.0, later.1)) c.read_problem_and_plan-answer.ensures.none_failed

pub returns-in-Ok-clause-memory : goal.returns-in-Ok-clause-memory
returns-in-Ok-clause-memory g c = λ is. let later = c.read_problem_and_plan-answer.ensures.memory is in (c.in_ok-text.ensures.none_failed, later.0, later.1)

pub returns-in-Ok-clause-read_failed : goal.returns-in-Ok-clause-read_failed
returns-in-Ok-clause-read_failed g c = λ is. inr (c.read_problem_and_plan-answer.ensures.read_failed is)

pub returns-in-Ok-clause-no_write : goal.returns-in-Ok-clause-no_write
returns-in-Ok-clause-no_write g c = c.read_problem_and_plan-answer.ensures.no_write

pub returns-in-Ok-clause-stands : goal.returns-in-Ok-clause-stands
returns-in-Ok-clause-stands g c = c.read_file.ensures.stands

pub returns-in-Ok-clause-problem_stands : goal.returns-in-Ok-clause-problem_stands
returns-in-Ok-clause-problem_stands g c = c.read_problem_and_plan-answer.ensures.stands

pub returns-in-Ok-clause-plan_stands : goal.returns-in-Ok-clause-plan_stands
returns-in-Ok-clause-plan_stands g c = c.read_problem_and_plan-answer.ensures.plan_stands

pub returns-in-Ok-clause-problem_first : goal.returns-in-Ok-clause-problem_first
returns-in-Ok-clause-problem_first g c = c.read_problem_and_plan-answer.ensures.problem_first

pub returns-in-Ok-clause-no_read_after_domain : goal.returns-in-Ok-clause-no_read_after_domain
returns-in-Ok-clause-no_read_after_domain g c = λ failed. absurd (failed c.in_ok-text.ensures.none_failed)

pub returns-in-Ok-clause-no_read_after_problem : goal.returns-in-Ok-clause-no_read_after_problem
returns-in-Ok-clause-no_read_after_problem g c = c.read_problem_and_plan-answer.ensures.no_read_after_failure
