use Rattle.std.proofs.Common.{refl}
use Rattle.std.specs.Prelude.{codes}
use Rattle.std.proofs.lemmas.Result.{err_from_is_err_and}
use Rattle.pddl_token.specs.NumberText.{number_text}
use Rattle.pddl_layout.proofs.Printed.{nothing, prints_on, stops_more}
use Rattle.pddl_layout.proofs.plan.put_moment.Goals as goal

pub returns-in_default : goal.returns-in_default
returns-in_default g c = rw c.in_default.is (nothing (g.W.Sink.contents c.args.out.now), refl)

pub returns-in_err-put_number : goal.returns-in_err-put_number
returns-in_err-put_number g c =
    let p = err_from_is_err_and c.from_residual.result c.from_residual.ensures.1 in
    rw (p.1, c.in-Some.is) (stops_more _ _ _ _ (number_text c.in-Some.moment) (codes ": ") c.in_err-put_number.ensures.printed)

pub returns : goal.returns
returns g c =
    rw c.in-Some.is (prints_on _ _ _ _ _ _ (number_text c.in-Some.moment) (codes ": ") c.put.result c.in_ok-put_number.ensures.printed c.put.ensures)
