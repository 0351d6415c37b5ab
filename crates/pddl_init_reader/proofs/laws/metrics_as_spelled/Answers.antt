use Rattle.pddl_init_reader.proofs.InitLaws.{metric_sound, metric_complete}
use Rattle.pddl_init_reader.proofs.laws.metrics_as_spelled.Goals as goal

pub returns : goal.returns
returns c = λ ts m. (metric_sound ts m, metric_complete ts m)
