use Rattle.std.proofs.Common.{sym}
use Rattle.pddl_types.proofs.ToldTypes.{fitting_more}
use Rattle.pddl_types.proofs.told.told_fit.Goals as goal

pub returns-in-Some : goal.returns-in-Some
returns-in-Some g c = λ types are told tops. (are, (are c.args.pair c.in-Some.fit.now (sym c.in-Some.ensures.value)).2)

pub returns : goal.returns
returns g c = λ types are told tops.
    (fitting_more types c.args.fitting.now.entries c.insert.new.self.entries c.args.pair c.in_ok-fit.fit are c.in_ok-insert.ensures.updates.0 (told.0, tops.0, rw (told.1, tops.1) at c.in_ok-fit.ensures), rw (told.1, tops.1) at c.in_ok-fit.ensures)
