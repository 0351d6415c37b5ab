use Rattle.pddl_formula_reader.proofs.TermLaws.{term_reads, predicate_reads, atom_reads}
use Rattle.pddl_formula_reader.proofs.TypedListLaws.{type_name_reads, type_reads}
use Rattle.pddl_formula_reader.proofs.laws.terms_as_spelled.Goals as goal

pub returns : goal.returns
returns c = record {
  predicates = λ t name. (predicate_reads.sound t name, predicate_reads.complete t name);
  type_names = λ t name. (type_name_reads.sound t name, type_name_reads.complete t name);
  terms = λ t x. (term_reads.sound t x, term_reads.complete t x);
  atoms = λ t a. (atom_reads.sound t a, atom_reads.complete t a);
  types = λ t names. (type_reads.sound t names, type_reads.complete t names);
}
