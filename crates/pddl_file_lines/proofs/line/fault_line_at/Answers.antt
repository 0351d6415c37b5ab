use Rattle.std.specs.Prelude.{codes}
use Rattle.pddl_file_lines.specs.Inner.Faults.{whole_name, shown_position}
use Rattle.pddl_file_lines.proofs.FaultLines.{five_pieces, line_at}
use Rattle.pddl_file_lines.proofs.line.fault_line_at.Goals as goal

pub returns : goal.returns
returns g c = λ text place at.
    line_at c.args.word.now text (whole_name c.args.name) place c.args.pos c.push.new.self.items at
    (five_pieces c.new-line.result.items c.extend_from_slice.new.self.items c.extend_from_slice-2.new.self.items c.push_name.new.line.items c.push_place.new.line.items c.push.new.self.items
    c.args.word.now (codes ": fault ") (whole_name c.args.name) (shown_position c.args.pos) (codes "\n") c.new-line.ensures.items c.in_ok-extend_from_slice.ensures.items c.in_ok-extend_from_slice-2.ensures.items
    c.in_ok-push_name.ensures c.in_ok-push_place.ensures c.in_ok-push.ensures.items)
