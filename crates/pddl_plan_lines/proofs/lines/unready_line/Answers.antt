use Rattle.std.proofs.Common.{◌+◌, ◌++◌}
use Rattle.std.specs.Prelude.{codes}
use Rattle.std.specs.Fmt.{decimal}
use Rattle.pddl_plan_lines.proofs.LinePieces.{three_pieces}
use Rattle.pddl_plan_lines.proofs.lines.unready_line.Goals as goal

pub returns : goal.returns
returns g c =
    three_pieces c.new-line.result.items c.push_place.new.line.items c.push_place-2.new.line.items c.extend_from_slice.new.self.items (codes "invalid: happening " ++ decimal (c.args.happening + 1))
    (codes ", step " ++ decimal (c.args.step + 1)) (codes ": precondition is false\n") c.new-line.ensures.items c.in_ok-push_place.ensures c.in_ok-push_place-2.ensures c.in_ok-extend_from_slice.ensures.items
