use Rattle.std.proofs.Common.{refl}
use Rattle.pddl_task.specs.Types.{itself}
use Rattle.pddl_task.proofs.type_laws.under_is_reflexive.Goals as goal

pub returns : goal.returns
returns c = λ ps t. itself refl
