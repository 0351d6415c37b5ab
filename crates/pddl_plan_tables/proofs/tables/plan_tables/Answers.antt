use Rattle.std.proofs.Common.{◌≡◌, ◌∙◌, ap, map, List}
use Rattle.pddl_domain.specs.declared.domain.Action.{Action}
use Rattle.pddl_domain.specs.Actions.{action_view}
use Rattle.pddl_domain.specs.Domains.{DomainValue}
use Rattle.pddl_task.specs.Tasks.{task_count}
use Rattle.pddl_state.specs.Atoms.{AtomValue}
use Rattle.pddl_linked_task.specs.LinkedTasks.{task_of_files}
use Rattle.pddl_tables.specs.Lookups.{price_in}
use Rattle.pddl_tables.specs.Prices.{price_at}
use Rattle.pddl_plan_tables.specs.StepTables.{named_action, named_in}
use Rattle.pddl_plan_tables.proofs.NamedActions.{once_in_files}
use Rattle.pddl_build.proofs.BothMade.{first_made, second_made}
use Rattle.pddl_plan_tables.proofs.tables.plan_tables.Goals as goal

pub actions_by_name-actions-requires : goal.actions_by_name-actions-requires
actions_by_name-actions-requires g c =
    once_in_files c.domain-domain.result.now c.args.task.now c.deref.result.now c.domain-domain.ensures.domain c.domain-domain.ensures.linked c.deref.ensures.value

pub returns-clause-tables : goal.returns-clause-tables
returns-clause-tables g c =
    let task = task_of_files c.args.task.now in
    let sized = named_action (task_count task) in
    let named = first_made c.actions_by_name-actions.result c.task_prices-prices.result _ (λ t. map named_in t.entries ≡ map sized (map action_view c.deref.result.now))
    c.in_ok-actions.ensures c.actions_by_name-actions.ensures in
    record {
      linked = c.domain-domain.ensures.linked;
      actions = named ∙ ap (λ (xs : List (Action _)). map sized (map action_view xs)) c.deref.ensures.value ∙ ap (λ (d : DomainValue). map sized d.actions) c.domain-domain.ensures.domain;
      prices = second_made c.actions_by_name-actions.result c.task_prices-prices.result _ (λ p. (call : AtomValue) → price_in p call ≡ price_at task call) c.in_ok-actions.ensures c.task_prices-prices.ensures;
    }
