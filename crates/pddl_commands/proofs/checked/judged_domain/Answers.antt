use Rattle.std.proofs.Common.{ap, ◌∙◌}
use Rattle.std.specs.Prelude.{codes}
use Rattle.std.proofs.lemmas.Result.{IfOk-weaker}
use Rattle.pddl_domain.specs.Domains.{domain_view}
use Rattle.pddl_commands.specs.Checks.{good_line}
use Rattle.pddl_commands.proofs.Good.{judged_good, good_by_verdict}
use Rattle.pddl_commands.proofs.checked.judged_domain.Goals as goal

pub returns-in-Ok : goal.returns-in-Ok
returns-in-Ok g c =
    let d = domain_view c.args.domain.now in
    let good = good_by_verdict d c.check_domain.result c.in-Ok.field-0 c.in-Ok.is c.check_domain.ensures in
    IfOk-weaker c.good.result _ _ (λ answer is. judged_good d answer.0.items answer.1 is.0 good (is.1 ∙ ap (good_line (codes "domain")) c.as_bytes.ensures.value)) c.good.ensures
