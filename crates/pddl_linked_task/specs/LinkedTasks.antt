-- Two linked files, and the task that they make.
use Rattle.pddl_domain.specs.Domains.{DomainValue}
use Rattle.pddl_problem.specs.Problems.{ProblemValue}
use Rattle.pddl_task.specs.Tasks.{TaskValue, task_of}

-- a domain and a problem
pub record Files : Type 0 where
  pub domain : DomainValue
  pub problem : ProblemValue

abbrev pub files : DomainValue → ProblemValue → Files
files d p = record { domain = d; problem = p }

-- the task that they make
abbrev pub task_of_files : Files → TaskValue
task_of_files f = task_of f.domain f.problem
