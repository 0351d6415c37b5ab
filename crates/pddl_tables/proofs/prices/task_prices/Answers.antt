use Rattle.std.proofs.Common.{◌≡◌, map, ap, ◌∙◌}
use Rattle.std.specs.List.{filter_map}
use Rattle.std.specs.Map.{lookup}
use Rattle.pddl_problem.specs.Inits.{init_view}
use Rattle.pddl_problem.specs.Problems.{ProblemValue}
use Rattle.pddl_task.specs.Tasks.{cost_in}
use Rattle.pddl_state.specs.Atoms.{AtomValue, atom_eq}
use Rattle.pddl_linked_task.specs.LinkedTasks.{Files, task_of_files}
use Rattle.pddl_tables.specs.Lookups.{price_in}
use Rattle.pddl_tables.specs.Prices.{numbered_cost, price_at}
use Rattle.pddl_tables.proofs.PriceTables.{behind}
use Rattle.pddl_tables.proofs.prices.task_prices.Goals as goal

pub returns : goal.returns
returns g c =
    let task = task_of_files c.args.task.now in
    let costs = ap (λ items. filter_map cost_in (map init_view items)) c.deref.ensures.value ∙ ap (λ (p : ProblemValue). filter_map cost_in p.init) c.problem-problem.ensures.problem in
    rw c.and.ensures (behind c.add_prices-made.result _ (λ prices. (call : AtomValue) → price_in prices call ≡ price_at task call) _ c.add_prices-made.ensures
    (λ told call. told call ∙ ap (λ (f : Files). lookup (atom_eq call) (map (numbered_cost (task_of_files f)) (filter_map cost_in (map init_view c.deref.result.now)))) c.of.ensures
    ∙ ap (λ cs. lookup (atom_eq call) (map (numbered_cost task) cs)) costs))
