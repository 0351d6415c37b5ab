use Rattle.std.proofs.Common.{◌≡◌, true, map, take}
use Rattle.std.specs.List.{list_all}
use Rattle.pddl_formula.specs.Formulas.{formula_view}
use Rattle.pddl_file_layout.specs.FormulaValues.{is_formula}
use Rattle.pddl_file_layout.specs.Inner.Texts.{spaced_by, formula_text}
use Rattle.pddl_file_layout.specs.Inner.Printing.{Puts}
use Rattle.pddl_file_layout.proofs.formula.+formula.Given as goal

-- those so far are written
abbrev pub invariant-put_formulas-loop-formula : goal.invariant-put_formulas-loop-formula
invariant-put_formulas-loop-formula g l = record {
  printed : Puts (g.W.Sink.contents l.initial.out) (g.W.Sink.contents l.out) (g.W.Sink.failures l.initial.out) (g.W.Sink.failures l.out) l.initial.failed l.failed (spaced_by formula_text (map formula_view (take l.formula-index l.formulas)));
  good : list_all is_formula (map formula_view (take l.formula-index l.formulas)) ≡ true;
}
