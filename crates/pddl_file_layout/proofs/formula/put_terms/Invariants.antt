use Rattle.std.proofs.Common.{◌≡◌, true, map, take}
use Rattle.std.specs.List.{list_all}
use Rattle.pddl_formula.specs.Terms.{term_view}
use Rattle.pddl_file_layout.specs.FormulaValues.{is_term}
use Rattle.pddl_file_layout.specs.Inner.Texts.{spaced_by, term_text}
use Rattle.pddl_file_layout.specs.Inner.Printing.{Puts}
use Rattle.pddl_file_layout.proofs.formula.put_terms.Given as goal

-- those so far are written
abbrev pub invariant-loop-term : goal.invariant-loop-term
invariant-loop-term g l = record {
  printed : Puts (g.W.Sink.contents l.initial.out) (g.W.Sink.contents l.out) (g.W.Sink.failures l.initial.out) (g.W.Sink.failures l.out) l.initial.failed l.failed (spaced_by term_text (map term_view (take l.term-index l.terms)));
  good : list_all is_term (map term_view (take l.term-index l.terms)) ≡ true;
}
