use Rattle.pddl_formula_reader.proofs.HeadLaws.{head_of_word, head_of_equal, equal_head}
use Rattle.pddl_formula_reader.proofs.laws.heads_as_spelled.Goals as goal

pub returns : goal.returns
returns c = record {
  words = λ t word. head_of_word word t;
  equal = λ t. (equal_head t, head_of_equal t);
}
