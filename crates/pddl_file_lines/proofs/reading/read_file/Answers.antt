use Rattle.std.proofs.Common.{ap, ◌∙◌}
use Rattle.std.specs.Prelude.{Err}
use Rattle.pddl_file_lines.proofs.Left.{left_more, too_long_refused}
use Rattle.pddl_file_lines.proofs.reading.read_file.Goals as goal

pub returns-in_ok-too_long-in-Err-TooLong-clause-content : goal.returns-in_ok-too_long-in-Err-TooLong-clause-content
returns-in_ok-too_long-in-Err-TooLong-clause-content g c =
    let read = c.read_all.ensures in
    let is = c.in-Err-TooLong.is ∙ ap Err c.in-Err-TooLong.field-0-is in
    let left = left_more (g.S.Source.remaining c.args.source.now) (g.S.Source.remaining c.read_all.new.reader) 16777216 read.stands.0 (read.too_long is) (read.stands.2 is).0 in
    let line = c.in_ok-too_long-in-Err-TooLong.ensures in
    (line, (left.0, left.1, too_long_refused c.args.kind left.0 c.in_ok-too_long-in-Err-TooLong.field-0.items left.2 line))

pub returns-in-Err-ReadFailed-clause-content : goal.returns-in-Err-ReadFailed-clause-content
returns-in-Err-ReadFailed-clause-content g c = tt

pub returns-in-Err-ReadFailed-clause-none_failed : goal.returns-in-Err-ReadFailed-clause-none_failed
returns-in-Err-ReadFailed-clause-none_failed g c = tt
