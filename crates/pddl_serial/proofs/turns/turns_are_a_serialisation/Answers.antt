use Rattle.pddl_serial.proofs.InTurn.{is_serial}
use Rattle.pddl_serial.proofs.turns.turns_are_a_serialisation.Goals as goal

pub returns : goal.returns
returns c = is_serial
