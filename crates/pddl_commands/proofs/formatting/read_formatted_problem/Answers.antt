use Rattle.std.proofs.Common.{subst, inl, inr}
use Rattle.pddl_kind.specs.declared.Kind.TheVariants.{Problem}
use Rattle.pddl_file_lines.specs.declared.outcome.RunFault.TheVariants.{ReadFailed, WriteFailed}
use Rattle.pddl_file_lines.specs.Contents.{IsContent}
use Rattle.pddl_file_lines.proofs.Made.{if_made, only_memory, on_any}
use Rattle.pddl_commands.specs.Formats.{IsFormatted}
use Rattle.pddl_commands.proofs.Good.{answered, refused_is_bad}
use Rattle.pddl_commands.proofs.formatting.read_formatted_problem.Goals as goal

pub returns-in-Text : goal.returns-in-Text
returns-in-Text g c =
    let content = subst (IsContent Problem (g.S.Source.remaining c.args.source.now) (g.S.Source.at_end c.read_file.new.source)) c.in-Text.is c.in_ok-text.ensures.content in
    record {
      answer = if_made c.formatted_problem.result c.or_memory.result _ _ c.or_memory.ensures
          (λ answer is. (c.in-Text.text.items, content.0, is)) c.formatted_problem.ensures;
      read = if_made c.formatted_problem.result c.or_memory.result _ _ c.or_memory.ensures (λ answer is. inl content.1) c.formatted_problem.ensures;
      good_at_end = if_made c.formatted_problem.result c.or_memory.result _ _ c.or_memory.ensures (λ answer is good. content.1) c.formatted_problem.ensures;
      none_failed = on_any c.or_memory.result c.in_ok-text.ensures.none_failed;
      memory = λ is. c.in_ok-text.ensures.none_failed;
      read_failed = λ is. absurd (cc (only_memory c.formatted_problem.result c.or_memory.result ReadFailed c.or_memory.ensures is));
      no_write = λ is. absurd (cc (only_memory c.formatted_problem.result c.or_memory.result WriteFailed c.or_memory.ensures is));
      stands = c.read_file.ensures.stands;
    }

pub returns-in-TooLong : goal.returns-in-TooLong
returns-in-TooLong g c =
    let content = subst (IsContent Problem (g.S.Source.remaining c.args.source.now) (g.S.Source.at_end c.read_file.new.source)) c.in-TooLong.is c.in_ok-text.ensures.content in
    record {
      answer = (content.1.0, content.1.1, content.1.2);
      read = inr content.0;
      good_at_end = λ good. absurd (refused_is_bad good);
      none_failed = c.in_ok-text.ensures.none_failed;
      memory = λ is. c.in_ok-text.ensures.none_failed;
      read_failed = λ is. absurd (answered is);
      no_write = λ is. answered is;
      stands = c.read_file.ensures.stands;
    }
