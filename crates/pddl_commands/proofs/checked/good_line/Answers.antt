use Rattle.std.specs.Prelude.{codes}
use Rattle.pddl_file_lines.proofs.FaultLines.{five_pieces}
use Rattle.pddl_commands.proofs.checked.good_line.Goals as goal

pub returns : goal.returns
returns g c =
    five_pieces c.new-line.result.items c.extend_from_slice.new.self.items c.extend_from_slice-2.new.self.items c.push.new.self.items c.extend_from_slice-3.new.self.items c.push-2.new.self.items
    (codes "good: ") c.args.word.now (codes " ") c.args.name.now (codes "\n") c.new-line.ensures.items c.in_ok-extend_from_slice.ensures.items c.in_ok-extend_from_slice-2.ensures.items
    c.in_ok-push.ensures.items c.in_ok-extend_from_slice-3.ensures.items c.in_ok-push-2.ensures.items
