use Rattle.std.proofs.Common.{◌≡◌, map, drop}
use Rattle.pddl_domain.specs.Declarations.{function_view}
use Rattle.pddl_domain.specs.Domains.{domain_view}
use Rattle.pddl_task.specs.Faults.{object_fluents}
use Rattle.pddl_names.proofs.passes.object_fluents.Given as goal

abbrev pub invariant-loop-function : goal.invariant-loop-function
invariant-loop-function g l = object_fluents (record (domain_view l.domain) { functions = map function_view (drop l.function-index l.function-items) }) ≡ object_fluents (domain_view l.domain)
