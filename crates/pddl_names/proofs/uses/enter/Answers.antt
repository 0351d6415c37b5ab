use Rattle.std.proofs.Common.{map}
use Rattle.std.proofs.lemmas.Result.{err_from_is_err_and}
use Rattle.pddl_formula.specs.TypedLists.{typed_view}
use Rattle.pddl_names.proofs.Scopes.{entered_bound}
use Rattle.pddl_names.proofs.ToldUses.{told_still, told_inside}
use Rattle.pddl_names.proofs.uses.enter.Goals as goal

pub returns-in_err-numbers-clause-told : goal.returns-in_err-numbers-clause-told
returns-in_err-numbers-clause-told g c = told_still c.tell_all.ensures.told c.tell_all.ensures.kept c.requires

pub returns-in_err-repeated-clause-told : goal.returns-in_err-repeated-clause-told
returns-in_err-repeated-clause-told g c = rw c.in_err-repeated.ensures.bound (told_still c.tell_all.ensures.told c.tell_all.ensures.kept c.requires)

pub returns-clause-told : goal.returns-clause-told
returns-clause-told g c =
    rw c.in_ok-repeated.ensures.bound
    (told_inside (map typed_view c.args.variables.now.items) c.deref.result.now (rw c.deref.ensures.value c.in_ok-numbers.ensures.numbers) (told_still c.tell_all.ensures.told c.tell_all.ensures.kept c.requires))

pub returns-clause-bound : goal.returns-clause-bound
returns-clause-bound g c =
    rw c.in_ok-repeated.ensures.bound (entered_bound (map typed_view c.args.variables.now.items) c.deref.result.now c.args.scope.now (rw c.deref.ensures.value c.in_ok-numbers.ensures.many))

pub returns-in_err-numbers-clause-passes : goal.returns-in_err-numbers-clause-passes
returns-in_err-numbers-clause-passes g c = let p = err_from_is_err_and c.from_residual.result c.from_residual.ensures.1 in rw (p.1, p.2) c.in_err-numbers.ensures.passes

pub returns-in_err-repeated-clause-passes : goal.returns-in_err-repeated-clause-passes
returns-in_err-repeated-clause-passes g c = let p = err_from_is_err_and c.from_residual-in_err-repeated.result c.from_residual-in_err-repeated.ensures.1 in rw (p.1, p.2) tt

pub returns-clause-passes : goal.returns-clause-passes
returns-clause-passes g c = c.in_ok-numbers.ensures.passes
