use Rattle.std.proofs.Common.{subst, refl, rules}
use Rattle.std.specs.Io.KnownBytes.{Appends}
use Rattle.pddl_device.specs.Device.{AppendsBeginning}
use Rattle.pddl_file_lines.proofs.Left.{keeps_itself}
use Rattle.pddl_commands.proofs.checking.check_problem_file.Goals as goal

pub returns-in_err-printed-clause-memory : goal.returns-in_err-printed-clause-memory
returns-in_err-printed-clause-memory g c = λ is. let same = c.read_both.ensures.memory (search rules) in (same.0, same.1, keeps_itself (g.W.Sink.contents c.args.out.now), refl)

pub returns-in_err-printed-clause-read_failed : goal.returns-in_err-printed-clause-read_failed
returns-in_err-printed-clause-read_failed g c = λ is. (c.read_both.ensures.read_failed (search rules), keeps_itself (g.W.Sink.contents c.args.out.now), refl)

pub returns-in-Ok-clause-outcome : goal.returns-in-Ok-clause-outcome
returns-in-Ok-clause-outcome g c =
    let read = c.in_ok-printed.ensures in
    let written = subst (Appends (g.W.Sink.contents c.args.out.now) (g.W.Sink.contents c.write_text.new.writer)) c.deref.ensures.value c.in-Ok.ensures.written in
    (read.answer.0, read.answer.1, c.in_ok-printed.printed.items, read.answer.2, read.answer.3, read.read.0, read.read.1, read.answer.4, written)

pub returns-in-Ok-clause-none_failed : goal.returns-in-Ok-clause-none_failed
returns-in-Ok-clause-none_failed g c = let same = c.in_ok-printed.ensures.none_failed in (same.0, same.1, c.in-Ok.ensures.none_failed)

pub returns-clause-write_failed : goal.returns-clause-write_failed
returns-clause-write_failed g c =
    let read = c.in_ok-printed.ensures in
    let begun = subst (AppendsBeginning (g.W.Sink.contents c.args.out.now) (g.W.Sink.contents c.write_text.new.writer)) c.deref.ensures.value c.in-Err.ensures.beginning in
    λ is. (
      c.in-Err.ensures.write_failed,
      read.none_failed.0,
      read.none_failed.1,
      (read.answer.0, read.answer.1, c.in_ok-printed.printed.items, c.in_ok-printed.outcome, read.answer.2, read.answer.3, read.read.0, read.read.1, read.answer.4, begun),
    )
