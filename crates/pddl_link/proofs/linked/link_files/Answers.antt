use Rattle.std.proofs.Common.{[], ◌∷◌, ◌++◌, map, drop, Result, Err, refl, ◌∙◌}
use Rattle.std.proofs.lemmas.Result.{err_from_is_err_and}
use Rattle.pddl_domain.specs.Domains.{DomainValue, domain_view}
use Rattle.pddl_problem.specs.Problems.{ProblemValue}
use Rattle.pddl_task.specs.Faults.{types_twice, type_cycles, large_goals}
use Rattle.pddl_task.specs.Linked.{fault, fault_in, rules, NoneStands}
use Rattle.pddl_task.proofs.Lists.{append-none}
use Rattle.pddl_faults.specs.declared.fault.LinkFault.{LinkFault}
use Rattle.pddl_faults.specs.Passes.{Verdict}
use Rattle.pddl_faults.proofs.Verdicts.{decided_after}
use Rattle.pddl_names.specs.FaultParts.{problem_in, part_rules, goal_rules}
use Rattle.pddl_names.proofs.FoundParts.{holds_on}
use Rattle.pddl_link.proofs.Stages.{stage_first, given_on, alone_verdict}
use Rattle.pddl_link.proofs.linked.link_files.Goals as goal

pub returns-in_err-types-clause-verdict : goal.returns-in_err-types-clause-verdict
returns-in_err-types-clause-verdict g c =
    let d = domain_view c.args.domain.now in
    let p = err_from_is_err_and c.from_residual.result c.from_residual.ensures.1 in
    rw (p.1, p.2)
    (stage_first 22 (fault 21 (types_twice d ++ []) ∷ fault 22 (type_cycles d ++ []) ∷ []) (map (fault_in d (problem_in c.args.problem)) (drop 3 rules)) c.in_err-types.field-0.0 refl refl
    (rw (append-none (types_twice d), append-none (type_cycles d)) c.in_err-types.ensures.verdict))

-- no fault of types stands in front of the others
behind_types : {T : Type 0} (d : DomainValue) (p : ProblemValue) (r : Result T LinkFault) → NoneStands (fault 21 (types_twice d) ∷ fault 22 (type_cycles d) ∷ []) → Verdict (map (fault_in d p) (drop 3 rules)) r
    → Verdict (map (fault_in d p) (drop 1 rules)) r
behind_types d p r none =
    decided_after (fault 21 (types_twice d ++ []) ∷ fault 22 (type_cycles d ++ []) ∷ []) (map (fault_in d p) (drop 3 rules)) r (append-none (types_twice d) ∙ none.0, (append-none (type_cycles d) ∙ none.1.0, tt))

pub returns-in_err-known-clause-verdict : goal.returns-in_err-known-clause-verdict
returns-in_err-known-clause-verdict g c =
    let d = domain_view c.args.domain.now in
    let p = problem_in c.args.problem in
    let q = err_from_is_err_and c.from_residual-in_err-known.result c.from_residual-in_err-known.ensures.1 in
    let e = c.in_err-known.field-0.0 in
    rw (q.1, q.2) (behind_types {T = Unit {0}} d p (Err e) c.in_ok-types.ensures.verdict
    (stage_first 33 (map (fault_in d p) part_rules) (map (fault_in d p) goal_rules) e refl refl (rw c.in_err-known.ensures.failed at c.order_behind_types-order.ensures.verdict)))

pub invariant_of-tables : goal.invariant_of-tables
invariant_of-tables g c = record { numbered = rw c.in_ok-known.ensures.made.0 (rw c.in_ok-known.ensures.made.1 at c.order_behind_types-order.ensures.numbered) }

pub look_at_goal-goal-requires : goal.look_at_goal-goal-requires
look_at_goal-goal-requires g c =
    rw c.in_ok-known.ensures.made.0 (rw c.in_ok-known.ensures.made.1 at c.order_behind_types-order.ensures.known)

pub returns-clause-known : goal.returns-clause-known
returns-clause-known g c =
    rw c.and.ensures
    (given_on _ _ c.look_at_goal-goal.result _ (holds_on c.look_at_goal-goal.result (rw c.in_ok-known.ensures.made.0 (rw c.in_ok-known.ensures.made.1 at c.order_behind_types-order.ensures.known))))

pub returns-clause-verdict : goal.returns-clause-verdict
returns-clause-verdict g c =
    let d = domain_view c.args.domain.now in
    let p = problem_in c.args.problem in
    let goals = map (fault_in d p) goal_rules in
    let parts = map (fault_in d p) part_rules in
    rw c.and.ensures
    (behind_types d p _ c.in_ok-types.ensures.verdict
    (decided_after parts goals _ (rw c.in_ok-known.ensures.made.1 at c.order_behind_types-order.ensures.verdict)
    (given_on _ _ c.look_at_goal-goal.result _ (alone_verdict 35 (large_goals d p) c.look_at_goal-goal.result c.look_at_goal-goal.ensures))))
