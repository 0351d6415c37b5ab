use Rattle.std.proofs.Common.{ap, ◌∙◌}
use Rattle.std.proofs.Math.Bool.{and-true}
use Rattle.pddl_forest.specs.Spans.{some_holds}
use Rattle.pddl_types.proofs.NamedSpans.{in_table, do_tell}
use Rattle.pddl_types.proofs.types.Types.is_under_tops.Goals as goal

pub returns : goal.returns
returns g c = λ slot n told is type.
    let tops = c.args.tops.now in
    c.hold_all.ensures ∙ and-true (some_holds tops c.args.number) ∙ ap (some_holds tops) is ∙ do_tell c.args.self.now (in_table c.self.view_is c.self.invariant) n slot tops told type
