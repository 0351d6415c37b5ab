use Rattle.pddl_step_reader.proofs.FaultPlaces as places
use Rattle.pddl_plan_reader.proofs.plan_reader.plan_fault_in_text.Goals as goal

pub returns : goal.returns
returns c = places.fault_inside
