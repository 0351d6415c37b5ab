use Rattle.std.proofs.Common.{◌∙◌, refl, sym, subst, inl, inr}
use Rattle.std.proofs.lemmas.Result.{IfOk-weaker, on_ok_weaker}
use Rattle.pddl_domain.specs.Domains.{domain_view}
use Rattle.pddl_domain_reader.specs.DomainTexts.{SpellsDomain, DomainStands}
use Rattle.pddl_kind.specs.declared.Kind.TheVariants.{Domain}
use Rattle.pddl_file_lines.specs.declared.outcome.RunFault.TheVariants.{ReadFailed, WriteFailed}
use Rattle.pddl_file_lines.specs.Contents.{IsContent}
use Rattle.pddl_file_lines.specs.Refusals.{IsRefused}
use Rattle.pddl_file_lines.proofs.Left.{some_left, no_domain_left, stands_still}
use Rattle.pddl_file_lines.proofs.Made.{if_made, only_memory, on_any}
use Rattle.pddl_commands.proofs.Good.{answered, refused_is_bad}
use Rattle.pddl_commands.proofs.checking.read_both.Goals as goal

pub refused_domain-requires : goal.refused_domain-requires
refused_domain-requires g c = subst (λ text. DomainStands c.in-Err.fault text) (c.deref.ensures.value ∙ sym c.deref-in-Err.ensures.value) c.in-Err.ensures.fault

pub returns-in-Text : goal.returns-in-Text
returns-in-Text g c =
    let content = subst (IsContent Domain (g.S.Source.remaining c.args.domain.now) (g.S.Source.at_end c.read_file.new.source)) c.in-Text.is c.in_ok-text.ensures.content in
    let given = some_left (g.T.Source.remaining c.args.problem.now) in
    record {
      answer = if_made c.refused_domain.result c.or_memory.result _ _ c.or_memory.ensures
          (λ answer is. (c.in-Text.text.items, given.0, content.0, given.1, inl (is.0, subst (λ text. IsRefused Domain text answer.0.items) c.deref-in-Err.ensures.value is.1))) c.refused_domain.ensures;
      read = if_made c.refused_domain.result c.or_memory.result _ _ c.or_memory.ensures (λ answer is. (inl content.1, inl refl)) c.refused_domain.ensures;
      good_at_end = if_made c.refused_domain.result c.or_memory.result _ _ c.or_memory.ensures (λ answer is good. absurd (cc (is.0, good))) c.refused_domain.ensures;
      none_failed = on_any c.or_memory.result (c.in_ok-text.ensures.none_failed, refl);
      memory = λ is. (c.in_ok-text.ensures.none_failed, refl);
      read_failed = λ is. absurd (cc (only_memory c.refused_domain.result c.or_memory.result ReadFailed c.or_memory.ensures is));
      no_write = λ is. absurd (cc (only_memory c.refused_domain.result c.or_memory.result WriteFailed c.or_memory.ensures is));
      stands = c.read_file.ensures.stands;
      problem_stands = stands_still (g.T.Source.remaining c.args.problem.now);
      domain_first = λ none. refl;
      no_read_after_failure = λ failed. refl;
    }

pub returns : goal.returns
returns g c =
    let content = subst (IsContent Domain (g.S.Source.remaining c.args.domain.now) (g.S.Source.at_end c.read_file.new.source)) c.in-TooLong.is c.in_ok-text.ensures.content in
    let given = some_left (g.T.Source.remaining c.args.problem.now) in
    record {
      answer = (content.1.0, given.0, content.1.1, given.1, inl (refl, content.1.2));
      read = (inr content.0, inl refl);
      good_at_end = λ good. absurd (refused_is_bad good);
      none_failed = (c.in_ok-text.ensures.none_failed, refl);
      memory = λ is. (c.in_ok-text.ensures.none_failed, refl);
      read_failed = λ is. absurd (answered is);
      no_write = λ is. answered is;
      stands = c.read_file.ensures.stands;
      problem_stands = stands_still (g.T.Source.remaining c.args.problem.now);
      domain_first = λ none. refl;
      no_read_after_failure = λ failed. refl;
    }

pub returns-in-Ok-clause-answer : goal.returns-in-Ok-clause-answer
returns-in-Ok-clause-answer g c =
    let content = subst (IsContent Domain (g.S.Source.remaining c.args.domain.now) (g.S.Source.at_end c.read_file.new.source)) c.in-Text.is c.in_ok-text.ensures.content in
    let spells = subst (λ text. SpellsDomain (domain_view c.in-Ok.read) text) c.deref.ensures.value c.in-Ok.ensures.domain in
    IfOk-weaker c.read_problem_checked-answer.result _ _ (λ answer judged. (c.in-Text.text.items, judged.0, content.0, judged.1, inr (domain_view c.in-Ok.read, spells, judged.2))) c.read_problem_checked-answer.ensures.answer

pub returns-in-Ok-clause-read : goal.returns-in-Ok-clause-read
returns-in-Ok-clause-read g c =
    let content = subst (IsContent Domain (g.S.Source.remaining c.args.domain.now) (g.S.Source.at_end c.read_file.new.source)) c.in-Text.is c.in_ok-text.ensures.content in
    IfOk-weaker c.read_problem_checked-answer.result _ _ (λ answer read. (inl content.1, inr read)) c.read_problem_checked-answer.ensures.read

pub returns-in-Ok-clause-good_at_end : goal.returns-in-Ok-clause-good_at_end
returns-in-Ok-clause-good_at_end g c =
    let content = subst (IsContent Domain (g.S.Source.remaining c.args.domain.now) (g.S.Source.at_end c.read_file.new.source)) c.in-Text.is c.in_ok-text.ensures.content in
    IfOk-weaker c.read_problem_checked-answer.result _ _ (λ answer ends good. (content.1, ends good)) c.read_problem_checked-answer.ensures.good_at_end

pub returns-in-Ok-clause-none_failed : goal.returns-in-Ok-clause-none_failed
returns-in-Ok-clause-none_failed g c = on_ok_weaker c.read_problem_checked-answer.result (λ later. (c.in_ok-text.ensures.none_failed, later)) c.read_problem_checked-answer.ensures.none_failed

pub returns-in-Ok-clause-memory : goal.returns-in-Ok-clause-memory
returns-in-Ok-clause-memory g c = λ is. (c.in_ok-text.ensures.none_failed, c.read_problem_checked-answer.ensures.memory is)

pub returns-in-Ok-clause-read_failed : goal.returns-in-Ok-clause-read_failed
returns-in-Ok-clause-read_failed g c = λ is. inr (c.read_problem_checked-answer.ensures.read_failed is)

pub returns-in-Ok-clause-no_write : goal.returns-in-Ok-clause-no_write
returns-in-Ok-clause-no_write g c = c.read_problem_checked-answer.ensures.no_write

pub returns-in-Ok-clause-stands : goal.returns-in-Ok-clause-stands
returns-in-Ok-clause-stands g c = c.read_file.ensures.stands

pub returns-in-Ok-clause-problem_stands : goal.returns-in-Ok-clause-problem_stands
returns-in-Ok-clause-problem_stands g c = c.read_problem_checked-answer.ensures.stands

pub returns-in-Ok-clause-domain_first : goal.returns-in-Ok-clause-domain_first
returns-in-Ok-clause-domain_first g c =
    let remaining = g.S.Source.remaining c.args.domain.now in
    let content = subst (IsContent Domain (g.S.Source.remaining c.args.domain.now) (g.S.Source.at_end c.read_file.new.source)) c.in-Text.is c.in_ok-text.ensures.content in
    let spells = subst (λ text. SpellsDomain (domain_view c.in-Ok.read) text) c.deref.ensures.value c.in-Ok.ensures.domain in
    λ none. absurd (no_domain_left remaining c.in-Text.text.items (domain_view c.in-Ok.read) content.0 spells none)

pub returns-in-Ok-clause-no_read_after_failure : goal.returns-in-Ok-clause-no_read_after_failure
returns-in-Ok-clause-no_read_after_failure g c = λ failed. absurd (failed c.in_ok-text.ensures.none_failed)
