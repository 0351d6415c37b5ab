use Rattle.std.proofs.Common.{◌≡◌, true, map, take}
use Rattle.std.specs.List.{list_all, flat_map}
use Rattle.pddl_domain.specs.Actions.{action_view}
use Rattle.pddl_file_layout.specs.DomainLayout.{is_action}
use Rattle.pddl_file_layout.specs.Inner.Texts.{action_lines}
use Rattle.pddl_file_layout.specs.Inner.Printing.{Puts}
use Rattle.pddl_file_layout.proofs.domain.put_actions.Given as goal

-- those so far are written
abbrev pub invariant-loop-action : goal.invariant-loop-action
invariant-loop-action g l = record {
  printed : Puts (g.W.Sink.contents l.initial.out) (g.W.Sink.contents l.out) (g.W.Sink.failures l.initial.out) (g.W.Sink.failures l.out) l.initial.failed l.failed (flat_map action_lines (map action_view (take l.action-index l.actions)));
  good : list_all is_action (map action_view (take l.action-index l.actions)) ≡ true;
}
