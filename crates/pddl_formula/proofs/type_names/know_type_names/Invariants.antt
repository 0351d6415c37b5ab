use Rattle.std.proofs.Common.{◌≡◌, drop}
use Rattle.std.specs.List.{list_all}
use Rattle.pddl_formula.specs.Reserved.{is_type_name}
use Rattle.pddl_formula.proofs.type_names.know_type_names.Given as goal

-- whether all are types rests on those that are left
abbrev pub invariant-loop-name : goal.invariant-loop-name
invariant-loop-name g l = list_all is_type_name (drop l.name-index l.names) ≡ list_all is_type_name l.names
