use Rattle.pddl_serial.proofs.CutLists.{cut_is_split}
use Rattle.pddl_serial.proofs.cutting.cut_groups_are_a_split.Goals as goal

pub returns : goal.returns
returns c = cut_is_split
