-- Which plan a text spells, and what is wrong where it spells none.
use Rattle.std.specs.Prelude.{◌≤◌, ℕ, List, length, map}
use Rattle.pddl_token.specs.Trees.{Placed, erased}
use Rattle.pddl_text.specs.Texts.{HasItems, TextStands}
use Rattle.pddl_step_reader.specs.declared.fault.ReadFault.{ReadFault}
use Rattle.pddl_step_reader.specs.declared.fault.ReadFault.TheVariants as faults
use Rattle.pddl_plan.specs.Plans.{PlanValue, AreSteps}
use Rattle.pddl_step_reader.specs.PlanFaults.{IsNoStep, IsMixed, IsDuration}

-- A plan spells a text that keeps the limit of length: the text's items are the plan's steps in file order (VAL).
pub record SpellsPlan (plan : PlanValue) (text : List ℕ) : Type 0 where
  pub items : List Placed
  pub has : HasItems text items
  pub steps : AreSteps plan (map erased items)

-- A fault of the text's items.
pub record HasPlanFault (Fault : List Placed → Type 0) (text : List ℕ) : Type 0 where
  pub items : List Placed
  pub has : HasItems text items
  pub fault : Fault items

-- What each answer of `read_plan` says of the text. A text without items has a fault of its tokens or lists;
-- else the fault is that of the first place where no step follows. `near` is any place of the text at or after the span's start.
abbrev pub PlanStands : ReadFault → List ℕ → Type 0
PlanStands (faults.Text fault) text = TextStands fault text
PlanStands (faults.Step span near) text = HasPlanFault (IsNoStep span) text × (span.start ≤ near) × (near ≤ length text)
PlanStands (faults.Mixed span) text = HasPlanFault (IsMixed span) text
PlanStands (faults.Duration span) text = HasPlanFault (IsDuration span) text

-- the fault with nothing left open: of `near` the least place that it may be
abbrev pub without_near : ReadFault → ReadFault
without_near (faults.Step span near) = faults.Step span span.start
without_near (faults.Text fault) = faults.Text fault
without_near (faults.Mixed span) = faults.Mixed span
without_near (faults.Duration span) = faults.Duration span
