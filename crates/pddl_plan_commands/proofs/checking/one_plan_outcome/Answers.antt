use Rattle.pddl_plan_commands.proofs.OneText.{one_verdict_line, one_serial_text, one_split_text}
use Rattle.pddl_plan_commands.proofs.OnePlan.{ends_in_one_way}
use Rattle.pddl_plan_commands.specs.Printings.{IsVerdictLine, IsSerialText, IsSplitText}
use Rattle.pddl_plan_commands.proofs.checking.one_plan_outcome.Goals as goal

pub returns-clause-verdict : goal.returns-clause-verdict
returns-clause-verdict c = ends_in_one_way IsVerdictLine one_verdict_line

pub returns-clause-serial : goal.returns-clause-serial
returns-clause-serial c order = ends_in_one_way (IsSerialText order) (one_serial_text order)

pub returns-clause-groups : goal.returns-clause-groups
returns-clause-groups c order size = ends_in_one_way (IsSplitText order size) (one_split_text order size)
