use Rattle.pddl_types.proofs.ToldTypes.{none_unknown, found_there, fitting_kept, told_put}
use Rattle.pddl_types.proofs.told.Told.tell.Goals as goal

pub returns-in-Some-clause-number : goal.returns-in-Some-clause-number
returns-in-Some-clause-number g c = rw (← c.self.view_is) (found_there c.self.inside.types.entries c.args.names c.in-Some.number c.in-Some.ensures.index)

pub returns-in-Some-clause-passes : goal.returns-in-Some-clause-passes
returns-in-Some-clause-passes g c = none_unknown c.requires.told c.args.names.now c.in-Some.number (returns-in-Some-clause-number g c)

pub invariant_of-self : goal.invariant_of-self
invariant_of-self g c =
    fitting_kept _ _ c.self.inside.fitting.entries
    (told_put c.args.names c.of-tops.result c.put_new.result (rw (← c.self.view_is) at c.requires.told) c.in_default.ensures.index c.of-tops.ensures.told c.of-tops.ensures.passes c.put_new.ensures.unique c.put_new.ensures.place c.put_new.ensures.entries).0
    c.self.invariant

pub returns : goal.returns
returns g c =
    let (kept, told, passes, number) =
    told_put c.args.names c.of-tops.result c.put_new.result (rw (← c.self.view_is) at c.requires.told) c.in_default.ensures.index c.of-tops.ensures.told c.of-tops.ensures.passes c.put_new.ensures.unique c.put_new.ensures.place c.put_new.ensures.entries
    in
    record { told = told; kept = rw (← c.self.view_is) kept; passes = passes; number = number }
