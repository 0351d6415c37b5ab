use Rattle.std.proofs.Common.{◌≡◌, true, ap, sym, ◌∙◌, subst, inr}
use Rattle.std.specs.Prelude.{Err}
use Rattle.pddl_kind.specs.declared.Kind.TheVariants.{Plan}
use Rattle.pddl_file_lines.specs.declared.outcome.RunFault.TheVariants.{ReadFailed, WriteFailed}
use Rattle.pddl_file_lines.specs.Contents.{IsPlanFile, HasCome}
use Rattle.pddl_file_lines.proofs.Left.{too_long_refused}
use Rattle.pddl_file_lines.proofs.Made.{if_made, only_memory, on_any}
use Rattle.pddl_file_lines.proofs.PlanFiles.{went_well, went_ill, content_is}
use Rattle.pddl_file_lines.proofs.plan_file.read_plan_file.Goals as goal

pub returns-in-Ok : goal.returns-in-Ok
returns-in-Ok g c =
    let remaining = g.S.Source.remaining c.args.source.now in
    let at_end = g.S.Source.at_end c.feed_all-fed.new.source in
    let failures = g.S.Source.failures c.feed_all-fed.new.source in
    let file = c.feed_all-fed.new.file in
    let fed = went_well (HasCome file remaining) c.feed_all-fed.result file c.in-Ok.file c.in-Ok.ensures c.feed_all-fed.ensures.come in
    let ended = went_well (at_end ≡ true) c.feed_all-fed.result file c.in-Ok.file c.in-Ok.ensures c.feed_all-fed.ensures.at_end in
    let unfailed = went_well (failures ≡ g.S.Source.failures c.args.source.now) c.feed_all-fed.result file c.in-Ok.file c.in-Ok.ensures c.feed_all-fed.ensures.none_failed in
    let come = fed.0 in
    record {
      content = if_made c.ended.result c.or_memory.result _ _ c.or_memory.ensures (λ content is. content_is remaining at_end come.0 content come.1 ended.0 is)
          (c.ended.ensures come.0 (subst (λ f. IsPlanFile f come.0) (sym fed.1) come.2));
      none_failed = on_any c.or_memory.result unfailed.0;
      memory = λ is. unfailed.0;
      read_failed = λ is. absurd (cc (only_memory c.ended.result c.or_memory.result ReadFailed c.or_memory.ensures is));
      no_write = λ is. absurd (cc (only_memory c.ended.result c.or_memory.result WriteFailed c.or_memory.ensures is));
      stands = c.feed_all-fed.ensures.stands;
    }

pub returns-in_ok-too_long-in-Err-TooLong-clause-content : goal.returns-in_ok-too_long-in-Err-TooLong-clause-content
returns-in_ok-too_long-in-Err-TooLong-clause-content g c =
    let refused = went_ill c.feed_all-fed.result c.feed_all-fed.new.file c.in-Err-TooLong.field-0 c.in-Err-TooLong.ensures in
    let left = c.feed_all-fed.ensures.too_long (refused ∙ ap Err c.in-Err-TooLong.field-0-is) in
    let line = c.in_ok-too_long-in-Err-TooLong.ensures in
    (inr line, (left.0, left.1, too_long_refused Plan left.0 c.in_ok-too_long-in-Err-TooLong.field-0.items left.2 line))
