use Rattle.std.proofs.Common.{[], refl, sym, ◌∙◌, rules, tests}
use Rattle.std.proofs.lemmas.Iterator.{YieldsList-from_slice}
use Rattle.std.proofs.lemmas.Iterator.Search.{any_from_yields_List}
use Rattle.pddl_problem.specs.Inits.{init_view}
use Rattle.pddl_faults.proofs.FoundFaults.{passed_found}
use Rattle.pddl_names.specs.Claims.{is_failure}
use Rattle.pddl_names.proofs.InitClaims.{no_failures}
use Rattle.pddl_names.proofs.init.claims.Goals as goal

pub returns-then-any : goal.returns-then-any
returns-then-any g c = c.lower.ensures.found _ _ (passed_found 29 _ _ c.claims_agree.ensures) (passed_found 31 _ _ c.claims_agree-values.ensures)

pub returns-else-any : goal.returns-else-any
returns-else-any g c =
    let init = c.args.init.now in
    let none = sym (any_from_yields_List (λ i. is_failure (init_view i)) _ _ _ c.any.ensures.ran (YieldsList-from_slice init c.iter.ensures.rest) (λ x b q k. search (rules, tests))) ∙ c.if-any.false in
    rw (no_failures init_view [] init refl none) (passed_found 31 _ _ c.claims_agree-values.ensures)
