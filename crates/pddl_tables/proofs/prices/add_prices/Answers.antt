use Rattle.std.proofs.Common.{◌≡◌, ◌<◌, ◌-◌, map, length, drop, ap, ◌∙◌, arith}
use Rattle.std.specs.Map.{lookup}
use Rattle.pddl_problem.specs.Inits.{init_view}
use Rattle.pddl_state.specs.Atoms.{atom_eq}
use Rattle.pddl_linked_task.specs.LinkedTasks.{task_of_files}
use Rattle.pddl_tables.proofs.PriceTables.{given, one_earlier}
use Rattle.pddl_tables.proofs.prices.add_prices.Goals as goal

pub loop-left-preserved : goal.loop-left-preserved
loop-left-preserved g c =
    let init = c.args.init.now in
    let left = c.loop-left.left in
    let low : left - 1 < length init = omega (arith, c.loop-left-test.true, c.loop-left.invariant.within) in
    record {
      within = omega (arith, low);
      held = one_earlier (task_of_files c.args.lookups.now) init_view init (left - 1) left c.index-init-left.result
          (λ q. lookup (atom_eq q) c.loop-left.prices.entries) (λ q. lookup (atom_eq q) c.add_price.new.prices.entries) low c.index-init-left.is
          (omega (arith, c.loop-left-test.true)) c.loop-left.invariant.held c.in_ok-add_price.ensures;
    }

pub returns : goal.returns
returns g c = λ call.
    let none_left : c.loop-left.left ≡ 0 = omega (arith, c.loop-left-test.false) in
    c.loop-left.invariant.held call ∙ ap (λ k. given (task_of_files c.args.lookups.now) (map init_view (drop k c.args.init.now)) call) none_left
