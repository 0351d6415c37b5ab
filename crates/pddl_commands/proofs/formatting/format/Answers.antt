use Rattle.std.proofs.Common.{subst, refl, rules}
use Rattle.std.specs.Io.KnownBytes.{Appends}
use Rattle.pddl_device.specs.Device.{AppendsBeginning}
use Rattle.pddl_file_lines.proofs.Left.{keeps_itself}
use Rattle.pddl_commands.proofs.formatting.format.Goals as goal

pub returns-in_err-printed-clause-memory : goal.returns-in_err-printed-clause-memory
returns-in_err-printed-clause-memory g c = λ is. (search rules, keeps_itself (g.W.Sink.contents c.args.out.now), refl)

pub returns-in_err-printed-clause-read_failed : goal.returns-in_err-printed-clause-read_failed
returns-in_err-printed-clause-read_failed g c = λ is. (search rules, keeps_itself (g.W.Sink.contents c.args.out.now), refl)

pub returns-in-Ok-clause-outcome : goal.returns-in-Ok-clause-outcome
returns-in-Ok-clause-outcome g c =
    let read = c.in_ok-printed.ensures in
    let written = subst (Appends (g.W.Sink.contents c.args.out.now) (g.W.Sink.contents c.write_text.new.writer)) c.deref.ensures.value c.in-Ok.ensures.written in
    (read.answer.0, c.in_ok-printed.printed.items, read.answer.1, read.read, read.answer.2, written)

pub returns-in-Ok-clause-none_failed : goal.returns-in-Ok-clause-none_failed
returns-in-Ok-clause-none_failed g c = (c.in_ok-printed.ensures.none_failed, c.in-Ok.ensures.none_failed)

pub returns-clause-write_failed : goal.returns-clause-write_failed
returns-clause-write_failed g c =
    let read = c.in_ok-printed.ensures in
    let written = subst (AppendsBeginning (g.W.Sink.contents c.args.out.now) (g.W.Sink.contents c.write_text.new.writer)) c.deref.ensures.value c.in-Err.ensures.beginning in
    λ _. (c.in-Err.ensures.write_failed, read.none_failed, (read.answer.0, c.in_ok-printed.printed.items, c.in_ok-printed.outcome, read.answer.1, read.read, read.answer.2, written))
