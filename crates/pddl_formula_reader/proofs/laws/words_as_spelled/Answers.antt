use Rattle.pddl_items.proofs.Readers.{name_reads, variable_reads, word_sound, word_complete, keyword_sound, keyword_complete, dash_sound, dash_complete}
use Rattle.pddl_formula_reader.proofs.laws.words_as_spelled.Goals as goal

pub returns : goal.returns
returns c = record {
  names = λ t name. (name_reads.sound t name, name_reads.complete t name);
  variables = λ t name. (variable_reads.sound t name, variable_reads.complete t name);
  words = λ t word. (word_sound word t, word_complete word t);
  keywords = λ t keyword. (keyword_sound keyword t, keyword_complete keyword t);
  dashes = λ t. (dash_sound t, dash_complete t);
}
