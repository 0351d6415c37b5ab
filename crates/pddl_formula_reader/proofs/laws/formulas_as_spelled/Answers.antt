use Rattle.pddl_formula_reader.proofs.FormulaLaws.{formula_reads, condition_reads}
use Rattle.pddl_formula_reader.proofs.laws.formulas_as_spelled.Goals as goal

pub returns : goal.returns
returns c = record {
  formulas = λ t f. (formula_reads.sound t f, formula_reads.complete t f);
  conditions = λ t f. (condition_reads.sound t f, condition_reads.complete t f);
}
