use Rattle.std.proofs.Common.{◌≡◌}
use Rattle.pddl_domain.specs.Actions.{action_view}
use Rattle.pddl_compiled.specs.Compiler.{condition_of, change_of}
use Rattle.pddl_compiled.specs.Scopes.{scope_view}
use Rattle.pddl_compiled.specs.Views.{condition_view, change_view}
use Rattle.pddl_build.proofs.BothMade.{first_made, second_made}
use Rattle.pddl_step.proofs.actions.compile_in_scope.Goals as goal

pub returns : goal.returns
returns g c =
    let tables = g.L.Lookups.tables c.args.lookups.now in
    let action = action_view c.args.action.now in
    let scope = scope_view c.args.scope.now in
    let condition = c.compile_condition-precondition in
    let change = c.compile_change-effect in
    let made = c.in_ok-precondition in
    record {
      precondition = first_made condition.result change.result (made.precondition, made.effect) (λ f. condition_view f ≡ condition_of tables action.precondition scope) made.ensures condition.ensures;
      effect = second_made condition.result change.result (made.precondition, made.effect) (λ e. change_view e ≡ change_of tables action.effect scope) made.ensures change.ensures;
    }
