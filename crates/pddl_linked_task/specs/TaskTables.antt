-- What two linked files declare, as a task holds it.
use Rattle.std.specs.Prelude.{◌++◌}
use Rattle.pddl_domain.specs.Domains.{DomainValue}
use Rattle.pddl_problem.specs.Problems.{ProblemValue}
use Rattle.pddl_task.specs.Linked.{IsLinked}
use Rattle.pddl_types.specs.Known.{AreAllKnown}
use Rattle.pddl_types.specs.declared.known.Tables.{Tables}

-- all that a domain and a problem declare is known
abbrev pub HaveAll : {A B : _} → DomainValue → ProblemValue → Tables A B → Type 0
HaveAll d p tables = AreAllKnown d (d.constants ++ p.objects) tables.known tables.told

-- and the two files are linked
pub record AreTablesOf {A B : Type 0} (d : DomainValue) (p : ProblemValue) (tables : Tables A B) : Type 0 where
  pub linked : IsLinked d p
  pub known : HaveAll d p tables
