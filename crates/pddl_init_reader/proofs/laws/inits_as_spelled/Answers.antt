use Rattle.pddl_items.proofs.Readers.{each_sound, each_complete}
use Rattle.pddl_problem.specs.Inits.{IsInit}
use Rattle.pddl_init_reader.specs.Inner.InitReading.{init_at}
use Rattle.pddl_init_reader.proofs.InitLaws.{init_reads}
use Rattle.pddl_init_reader.proofs.laws.inits_as_spelled.Goals as goal

pub returns : goal.returns
returns c = λ ts xs. (each_sound IsInit init_at init_reads ts xs, each_complete IsInit init_at init_reads ts xs)
