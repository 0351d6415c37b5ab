use Rattle.std.specs.Prelude.{codes}
use Rattle.pddl_linked_task.specs.LinkedTasks.{task_of_files}
use Rattle.pddl_linked_plan.specs.NumberedAtoms.{named_atom}
use Rattle.pddl_plan_lines.specs.PlanLines.{atom_text, clash_words}
use Rattle.pddl_plan_lines.proofs.LinePieces.{three_pieces}
use Rattle.pddl_plan_lines.proofs.lines.clash_line.Goals as goal

pub returns : goal.returns
returns g c =
    three_pieces c.new-line.result.items c.push_clash.new.line.items c.push_atom.new.line.items c.push.new.self.items (clash_words c.args.happening c.args.steps.0 c.args.steps.1)
    (atom_text (named_atom (task_of_files c.args.task.now) c.args.atom.now)) (codes "\n") c.new-line.ensures.items c.in_ok-push_clash.ensures c.in_ok-push_atom.ensures c.in_ok-push.ensures.items
