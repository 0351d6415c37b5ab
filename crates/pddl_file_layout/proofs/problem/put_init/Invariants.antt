use Rattle.std.proofs.Common.{◌≡◌, true, map, take}
use Rattle.std.specs.List.{list_all}
use Rattle.pddl_problem.specs.Inits.{init_view}
use Rattle.pddl_file_layout.specs.ProblemLayout.{is_init}
use Rattle.pddl_file_layout.specs.Inner.Texts.{spaced_by, init_text}
use Rattle.pddl_file_layout.specs.Inner.Printing.{Puts}
use Rattle.pddl_file_layout.proofs.problem.put_init.Given as goal

-- those so far are written
abbrev pub invariant-loop-item : goal.invariant-loop-item
invariant-loop-item g l = record {
  printed : Puts (g.W.Sink.contents l.initial.out) (g.W.Sink.contents l.out) (g.W.Sink.failures l.initial.out) (g.W.Sink.failures l.out) l.initial.failed l.failed (spaced_by init_text (map init_view (take l.item-index l.items)));
  good : list_all is_init (map init_view (take l.item-index l.items)) ≡ true;
}
