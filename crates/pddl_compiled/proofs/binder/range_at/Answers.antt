use Rattle.std.proofs.Common.{sym, ap, ◌∙◌}
use Rattle.std.specs.Prelude.{unwrap_or}
use Rattle.pddl_compiled.proofs.Binders.{weaker, view_at}
use Rattle.pddl_compiled.proofs.binder.range_at.Goals as goal

pub returns-in_default : goal.returns-in_default
returns-in_default g c =
    let range = (g.L.Lookups.tables c.args.lookups.now).range in
    weaker _ _ (λ numbers is y at. is ∙ ap (λ o. range (unwrap_or o y).of)
    (sym (view_at c.args.variables.now.items c.as_slice.result.now c.args.place c.index-as_slice-place.result c.as_slice.ensures.value c.requires.in_range) ∙ at)) c.fitting.result c.fitting.ensures
