use Rattle.pddl_effect_reader.proofs.EffectLaws as laws
use Rattle.pddl_effect_reader.proofs.effect_reader.one_effect.Goals as goal

pub returns : goal.returns
returns c = laws.one_effect
