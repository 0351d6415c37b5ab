-- Each command prints one text of an accepted plan.
use Rattle.std.proofs.Common.{◌≡◌, ℕ, List, sym, ap, ◌∙◌}
use Rattle.pddl_task.specs.Tasks.{TaskValue}
use Rattle.pddl_meaning.specs.Worlds.{Atoms}
use Rattle.pddl_linked_plan.specs.LinkedSteps.{LinkedStepValue}
use Rattle.pddl_layout.specs.PlanLayout.{plan_text}
use Rattle.pddl_serial.specs.declared.turns.Order.{Order}
use Rattle.pddl_plan_commands.specs.Printings.{Printing, IsVerdictLine, IsSerialText, IsSplitText}

-- of one task, plan and cost one text is printed, whatever is said of the end
abbrev pub PrintsOneText : Printing → Type 0
PrintsOneText Prints = (task : TaskValue) (steps : List LinkedStepValue) (happenings : List (List ℕ)) (end last : Atoms) (cost : ℕ) (printed other : List ℕ)
    → Prints task steps happenings end cost printed → Prints task steps happenings last cost other → printed ≡ other

pub one_verdict_line : PrintsOneText IsVerdictLine
one_verdict_line task steps happenings end last cost printed other line same = line ∙ sym same

pub one_serial_text : (order : Order) → PrintsOneText (IsSerialText order)
one_serial_text order task steps happenings end last cost printed other (plan, serial, text) (also, too, same) = text ∙ (ap plan_text (serial.plan_is ∙ sym too.plan_is) ∙ sym same)

pub one_split_text : (order : Order) (size : ℕ) → PrintsOneText (IsSplitText order size)
one_split_text order size task steps happenings end last cost printed other (plan, split, text) (also, too, same) = text ∙ (ap plan_text (split.plan_is ∙ sym too.plan_is) ∙ sym same)
