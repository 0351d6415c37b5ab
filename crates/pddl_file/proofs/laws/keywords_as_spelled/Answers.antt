use Rattle.pddl_file.proofs.KeywordLaws.{head_key_sound, head_key_complete, key_reads}
use Rattle.pddl_file.proofs.laws.keywords_as_spelled.Goals as goal

pub returns : goal.returns
returns c = record {
  words = λ t key. (head_key_sound t key, head_key_complete t key);
  heads = λ t key. (key_reads.sound t key, key_reads.complete t key);
}
