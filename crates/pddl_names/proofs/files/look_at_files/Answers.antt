use Rattle.std.proofs.lemmas.Result.{err_from_is_err_and, on_ok_weaker}
use Rattle.pddl_domain.specs.Domains.{domain_view}
use Rattle.pddl_faults.proofs.FoundFaults.{passed_found}
use Rattle.pddl_names.specs.FaultParts.{problem_in}
use Rattle.pddl_names.proofs.FoundParts.{passed_part, ok_holds}
use Rattle.pddl_names.proofs.HeldFiles.{known_faults, nothing_bound, known_still}
use Rattle.pddl_names.proofs.RuleParts.{parts_verdict, stopped_verdict}
use Rattle.pddl_names.proofs.files.look_at_files.Goals as goal

pub returns-in_err-names-clause-verdict : goal.returns-in_err-names-clause-verdict
returns-in_err-names-clause-verdict g c =
    let p = err_from_is_err_and c.from_residual.result c.from_residual.ensures.1 in
    rw (p.1, p.2) (stopped_verdict (domain_view c.args.domain.now) (problem_in c.args.problem) c.in_err-names.field-0.0 c.in_err-names.ensures.passes)

pub search_actions-actions-requires : goal.search_actions-actions-requires
search_actions-actions-requires g c = nothing_bound c.in_ok-names.ensures.known

pub look_at_problem-requires : goal.look_at_problem-requires
look_at_problem-requires g c = known_still c.in_ok-names.ensures.known c.search_actions-actions.ensures.told.1

pub returns-clause-verdict : goal.returns-clause-verdict
returns-clause-verdict g c =
    parts_verdict (domain_view c.args.domain.now) (problem_in c.args.problem) c.lower-2.result c.in_ok-names.ensures.passes
    (c.lower-2.ensures.found _ _
    (c.lower-found.ensures.found _ _ c.in_ok-names.ensures.found
    (c.lower.ensures.found _ _ (rw (known_faults c.in_ok-names.ensures.known, c.deref.ensures.value) at c.search_actions-actions.ensures.found)
    (c.lower-others.ensures.found _ _ (passed_found 25 _ _ (rw c.deref-2.ensures.value at c.object_types.ensures)) (passed_part 32 _ c.object_fluents.result c.object_fluents.ensures))))
    c.look_at_problem.ensures.found)

pub returns-clause-known : goal.returns-clause-known
returns-clause-known g c = on_ok_weaker c.lower-2.result (λ both. ok_holds _ _ c.look_at_problem.result both.1 c.look_at_problem.ensures.known) c.lower-2.ensures.both
