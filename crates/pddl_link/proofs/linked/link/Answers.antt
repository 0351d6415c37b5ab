use Rattle.std.proofs.Common.{[], ◌∷◌, map, drop, Err, refl}
use Rattle.std.proofs.lemmas.Result.{err_from_is_err_and}
use Rattle.pddl_domain.specs.Domains.{domain_view}
use Rattle.pddl_problem.specs.Problems.{problem_view}
use Rattle.pddl_task.specs.Faults.{domain_names}
use Rattle.pddl_task.specs.Linked.{fault, fault_in, rules}
use Rattle.pddl_faults.proofs.Verdicts.{found_at, decided_after}
use Rattle.pddl_link.proofs.linked.link.Goals as goal

pub returns-in_err-domain_name-clause-verdict : goal.returns-in_err-domain_name-clause-verdict
returns-in_err-domain_name-clause-verdict g c =
    let p = err_from_is_err_and c.from_residual.result c.from_residual.ensures.1 in
    rw (p.1, p.2) (found_at [] 20 _ _ c.in_err-domain_name.field-0.0 tt refl c.in_err-domain_name.ensures)

pub returns-in_err-both-clause-verdict : goal.returns-in_err-both-clause-verdict
returns-in_err-both-clause-verdict g c =
    let d = domain_view c.args.domain.now in
    let q = problem_view c.args.problem.now in
    let p = err_from_is_err_and c.from_residual-in_err-both.result c.from_residual-in_err-both.ensures.1 in
    rw (p.1, p.2) (decided_after {T = Unit {0}} (fault 20 (domain_names d q) ∷ []) (map (fault_in d q) (drop 1 rules)) (Err c.in_err-both.field-0.0) (c.in_ok-domain_name.ensures, tt) c.in_err-both.ensures.verdict)

pub of-requires : goal.of-requires
of-requires g c = record { linked = (c.in_ok-domain_name.ensures, c.in_ok-both.ensures.verdict); known = c.in_ok-both.ensures.known }
