use Rattle.std.proofs.Common.{◌+◌, ◌∙◌, map, refl, sym, ap, subst, arith}
use Rattle.pddl_problem.specs.Inits.{fact_view, init_view}
use Rattle.pddl_linked_task.specs.LinkedTasks.{task_of_files}
use Rattle.pddl_linked_plan.proofs.InitialAtoms.{AreFacts, first_facts, fact_known, one_more_fact, no_fact, initial_are}
use Rattle.pddl_linked_plan.proofs.initial.initial_atoms.Goals as goal
use Rattle.pddl_linked_plan.proofs.initial.initial_atoms.Goals.{in-Holds+in_ok-numbered-in-Holds+in_ok-push-in-Holds, in-Fails, in-Value}

pub loop-item-init : goal.loop-item-init
loop-item-init g c =
    let files = c.args.task.now in
    first_facts files.domain files.problem c.as_slice-init.result.now c.new-atoms.result.items c.problem-problem.ensures.linked
    (ap (map init_view) c.as_slice-init.ensures.value ∙ ap (λ p. p.init) c.problem-problem.ensures.problem) c.new-atoms.ensures.items

pub numbered-requires : goal.numbered-requires
numbered-requires g c =
    fact_known (task_of_files c.args.task.now) c.as_slice-init.result.now c.loop-item.item-index c.item-item.result c.loop-item-test.true c.item-item.is c.loop-item.atoms.items
    (fact_view c.in-Holds.fact) (ap init_view c.in-Holds.is) c.loop-item.invariant

pub loop-item-preserved : goal.loop-item-preserved
loop-item-preserved g c =
    let task = task_of_files c.args.task.now in
    let init = c.as_slice-init.result.now in
    let i = c.loop-item.item-index in
    let item = c.item-item.result in
    let atoms = c.loop-item.atoms.items in
    elim c.match-item.branch [
      | in-Holds+in_ok-numbered-in-Holds+in_ok-push-in-Holds w ↦
          subst (λ v. AreFacts task init (i + 1) v.items) (sym w.atoms-is)
          (subst (AreFacts task init (i + 1)) (sym w.in_ok-push-in-Holds.ensures.items)
          (one_more_fact task init i item c.loop-item-test.true c.item-item.is atoms (fact_view w.in-Holds.fact) _ (ap init_view w.in-Holds.is) w.in_ok-numbered-in-Holds.ensures c.loop-item.invariant))
      | in-Fails w ↦
          subst (λ v. AreFacts task init (i + 1) v.items) (sym w.atoms-is)
          (no_fact task init i item c.loop-item-test.true c.item-item.is atoms _ (ap init_view w.in-Fails.is) refl c.loop-item.invariant)
      | in-Value w ↦
          subst (λ v. AreFacts task init (i + 1) v.items) (sym w.atoms-is)
          (no_fact task init i item c.loop-item-test.true c.item-item.is atoms _ (ap init_view w.in-Value.is) refl c.loop-item.invariant)
    ]

pub returns : goal.returns
returns g c =
    let files = c.args.task.now in
    initial_are files.domain files.problem c.as_slice-init.result.now c.loop-item.item-index c.loop-item.atoms.items
    (ap (map init_view) c.as_slice-init.ensures.value ∙ ap (λ p. p.init) c.problem-problem.ensures.problem) (omega (arith, c.loop-item-test.false)) c.loop-item.invariant
