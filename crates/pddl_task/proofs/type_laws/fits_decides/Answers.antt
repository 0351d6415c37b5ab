use Rattle.pddl_task.proofs.Subtypes.{fits_decides}
use Rattle.pddl_task.proofs.type_laws.fits_decides.Goals as goal

pub returns : goal.returns
returns c = fits_decides
