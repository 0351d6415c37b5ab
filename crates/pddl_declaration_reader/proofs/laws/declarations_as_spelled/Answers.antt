use Rattle.pddl_declaration_reader.proofs.DeclarationLaws.{types_sound, types_complete, predicate_signature_reads, functions_sound, functions_complete}
use Rattle.pddl_declaration_reader.proofs.laws.declarations_as_spelled.Goals as goal

pub returns : goal.returns
returns c = record {
  types = λ ts xs. (types_sound ts xs, types_complete ts xs);
  predicates = λ t s. (predicate_signature_reads.sound t s, predicate_signature_reads.complete t s);
  functions = λ ts xs. (functions_sound ts xs, functions_complete ts xs);
}
