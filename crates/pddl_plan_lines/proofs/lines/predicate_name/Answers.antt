use Rattle.std.proofs.Common.{◌∙◌}
use Rattle.pddl_task.specs.Settings.{symbol_of}
use Rattle.pddl_task.specs.Tasks.{predicate_names}
use Rattle.pddl_linked_task.specs.LinkedTasks.{task_of_files}
use Rattle.pddl_plan_lines.proofs.LinePieces.{named, name_found}
use Rattle.pddl_plan_lines.proofs.lines.predicate_name.Goals as goal

pub unwrap-requires : goal.unwrap-requires
unwrap-requires g c = named symbol_of (λ name. name.now) c.predicate_name.result (task_of_files c.args.task.now).predicates c.args.number c.predicate_name.ensures c.requires

pub returns : goal.returns
returns g c =
    c.as_bytes.ensures.value ∙ name_found (λ name. name.now) c.predicate_name.result c.unwrap.result (predicate_names (task_of_files c.args.task.now)) c.args.number c.unwrap.ensures c.predicate_name.ensures
