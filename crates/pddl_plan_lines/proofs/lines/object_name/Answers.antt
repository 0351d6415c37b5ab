use Rattle.std.proofs.Common.{◌∙◌}
use Rattle.pddl_task.specs.Names.{item_of}
use Rattle.pddl_task.specs.Tasks.{object_names}
use Rattle.pddl_linked_task.specs.LinkedTasks.{task_of_files}
use Rattle.pddl_plan_lines.proofs.LinePieces.{named, name_found}
use Rattle.pddl_plan_lines.proofs.lines.object_name.Goals as goal

pub unwrap-requires : goal.unwrap-requires
unwrap-requires g c = named item_of (λ name. name.now) c.object_name.result (task_of_files c.args.task.now).objects c.args.number c.object_name.ensures c.requires

pub returns : goal.returns
returns g c =
    c.as_bytes.ensures.value ∙ name_found (λ name. name.now) c.object_name.result c.unwrap.result (object_names (task_of_files c.args.task.now)) c.args.number c.unwrap.ensures c.object_name.ensures
