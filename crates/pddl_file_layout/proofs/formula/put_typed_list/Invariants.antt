use Rattle.std.proofs.Common.{◌≡◌, true, map, take}
use Rattle.std.specs.List.{list_all}
use Rattle.pddl_formula.specs.TypedLists.{typed_view}
use Rattle.pddl_file_layout.specs.FormulaValues.{is_typed}
use Rattle.pddl_file_layout.specs.Inner.Texts.{spaced_by, typed_text}
use Rattle.pddl_file_layout.specs.Inner.Printing.{Puts}
use Rattle.pddl_file_layout.proofs.formula.put_typed_list.Given as goal

-- those so far are written
abbrev pub invariant-loop-item : goal.invariant-loop-item
invariant-loop-item g l = record {
  printed : Puts (g.W.Sink.contents l.initial.out) (g.W.Sink.contents l.out) (g.W.Sink.failures l.initial.out) (g.W.Sink.failures l.out) l.initial.failed l.failed (spaced_by (typed_text l.sign) (map typed_view (take l.item-index l.items)));
  good : list_all is_typed (map typed_view (take l.item-index l.items)) ≡ true;
}
