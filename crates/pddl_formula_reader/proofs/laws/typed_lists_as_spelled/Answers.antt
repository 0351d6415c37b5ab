use Rattle.pddl_formula_reader.proofs.TypedListLaws.{names_sound, names_complete, variables_sound, variables_complete, variables_reads}
use Rattle.pddl_formula_reader.proofs.laws.typed_lists_as_spelled.Goals as goal

pub returns : goal.returns
returns c = record {
  names = λ ts xs. (names_sound ts xs, names_complete ts xs);
  variables = λ ts xs. (variables_sound ts xs, variables_complete ts xs);
  variable_lists = λ t xs. (variables_reads.sound t xs, variables_reads.complete t xs);
}
