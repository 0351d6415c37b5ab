use Rattle.std.proofs.Common.{refl}
use Rattle.pddl_domain.specs.Actions.{action_view}
use Rattle.pddl_file_layout.specs.DomainLayout.{is_action}
use Rattle.pddl_file_layout.specs.Inner.Texts.{action_lines}
use Rattle.pddl_file_layout.proofs.Printed.{puts_nothing, element_on, passes_on, whole_on, whole_passes}
use Rattle.pddl_file_layout.proofs.domain.put_actions.Goals as goal

pub loop-action-preserved : goal.loop-action-preserved
loop-action-preserved g c =
    let l = c.loop-action in
    let lt = c.loop-action-test.true in
    record {
      printed = element_on action_view action_lines c.args.actions.now l.action-index c.action-item.result lt c.action-item.is l.invariant.printed c.put_action.ensures.printed;
      good = passes_on action_view is_action c.args.actions.now l.action-index c.action-item.result lt c.action-item.is l.invariant.good c.put_action.ensures.good;
    }

pub returns-clause-printed : goal.returns-clause-printed
returns-clause-printed g c = whole_on action_view action_lines c.args.actions.now c.loop-action.action-index c.loop-action-test.false c.loop-action.invariant.printed

pub returns-clause-good : goal.returns-clause-good
returns-clause-good g c = whole_passes action_view is_action c.args.actions.now c.loop-action.action-index c.loop-action-test.false c.loop-action.invariant.good

pub loop-action-init : goal.loop-action-init
loop-action-init g c = record { printed = puts_nothing _ _ _; good = refl }
