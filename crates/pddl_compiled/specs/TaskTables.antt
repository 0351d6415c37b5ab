-- The tables of a task (own).
use Rattle.pddl_task.specs.Tasks.{TaskValue, object_names, predicate_names, function_names, fitting_numbers}
use Rattle.pddl_compiled.specs.Tables.{Tables}

-- Predicates and functions are numbered in the domain's order, objects in the task's.
abbrev pub tables_of : TaskValue → Tables
tables_of task = record {
  predicates = predicate_names task;
  functions = function_names task;
  objects = object_names task;
  range = fitting_numbers task;
}
