use Rattle.std.proofs.Common.{◌≡◌, List, [], ◌∷◌, ◌++◌, map, drop, refl, ap, ap₂, ◌∙◌, subst}
use Rattle.std.specs.List.{AllByRecursion}
use Rattle.pddl_domain.specs.Domains.{DomainValue, domain_view}
use Rattle.pddl_task.specs.Linked.{FaultRule, fault, domain_fault, fault_in, rules}
use Rattle.pddl_task.proofs.Lists.{append-none}
use Rattle.pddl_faults.specs.Passes.{Verdict}
use Rattle.pddl_faults.proofs.Verdicts.{decided_after}
use Rattle.pddl_names.specs.FaultParts.{no_problem}
use Rattle.pddl_link.proofs.Stages.{given_on}
use Rattle.pddl_link.proofs.linked.check_domain.Goals as goal

-- a problem that breaks none of some rules adds no fault to a domain's
alone : (d : DomainValue) (rs : List FaultRule) → AllByRecursion (λ r. r.in_problem d no_problem ≡ []) rs → map (fault_in d no_problem) rs ≡ map (domain_fault d) rs
alone d [] none = refl
alone d (r ∷ rs) none = ap₂ ◌∷◌ (ap (λ ws. fault r.number (r.in_domain d ++ ws)) none.0 ∙ ap (fault r.number) (append-none (r.in_domain d))) (alone d rs none.1)

pub returns : goal.returns
returns g c =
    let d = domain_view c.args.domain.now in
    let rest = drop 1 rules in
    rw c.and.ensures
    (decided_after (fault 20 [] ∷ []) (map (domain_fault d) rest) _ (refl, tt)
    (given_on _ _ c.link_files.result (tt {0})
    (subst (λ fs. Verdict fs c.link_files.result) (alone d rest (refl, (refl, (refl, (refl, (refl, (refl, (refl, (refl, (refl, (refl, (refl, (refl, (refl, (refl, tt))))))))))))))) c.link_files.ensures.verdict)))
