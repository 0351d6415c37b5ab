use Rattle.std.proofs.Common.{[], ◌||◌}
use Rattle.std.specs.List.{list_any}
use Rattle.pddl_task.specs.Names.{is_in, item_of}
use Rattle.pddl_task.specs.Faults.{has_other_type, init_name, contradicts, starts_above_zero, revalues}
use Rattle.pddl_task.proofs.LaterWords.{behind, among, apart, joined}
use Rattle.pddl_task.proofs.fault_laws.words_of_later_items.Goals as goal

pub returns-clause-names : goal.returns-clause-names
returns-clause-names c = λ names w. (behind is_in (λ n. n) names w, among is_in (λ n. n) names w)

pub returns-clause-typed : goal.returns-clause-typed
returns-clause-typed c = λ xs w. (behind has_other_type item_of xs w, among has_other_type item_of xs w)

pub returns-clause-contradictions : goal.returns-clause-contradictions
returns-clause-contradictions c = λ is w.
    (behind (λ before i. list_any (contradicts i) before) init_name is w, among (λ before i. list_any (contradicts i) before) init_name is w)

pub returns-clause-values : goal.returns-clause-values
returns-clause-values c = λ is w. (
  behind (λ before i. starts_above_zero i || list_any (revalues i) before) init_name is w,
  among (λ before i. starts_above_zero i || list_any (revalues i) before) init_name is w,
)

pub returns-clause-actions : goal.returns-clause-actions
returns-clause-actions c = λ actions w. (apart [] actions w, joined [] actions w)
