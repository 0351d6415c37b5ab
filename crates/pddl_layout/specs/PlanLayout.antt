-- The canonical text of a plan (own; a plan file's form is VAL's).
use Rattle.std.specs.Prelude.{ℕ, List, ◌++◌, codes}
use Rattle.std.specs.List.{flat_map}
use Rattle.pddl_token.specs.NumberText.{number_text}
use Rattle.pddl_plan.specs.Plans.{StepValue, TimedValue, PlanValue, plain, timed}

-- a name behind a space
abbrev pub spaced_name : List ℕ → List ℕ
spaced_name name = codes " " ++ name

-- names, each behind a space
abbrev pub spaced : List (List ℕ) → List ℕ
spaced names = flat_map spaced_name names

-- a step on a line: the names in parentheses with one space between, and LF
abbrev pub plain_line : StepValue → List ℕ
plain_line step = codes "(" ++ (step.action ++ (spaced step.objects ++ codes ")\n"))

-- a timed step on a line: its number, a colon and a space, and the step
abbrev pub timed_line : TimedValue → List ℕ
timed_line s = number_text s.moment ++ (codes ": " ++ plain_line s.step)

-- the canonical text: one step a line in file order
abbrev pub plan_text : PlanValue → List ℕ
plan_text (plain steps) = flat_map plain_line steps
plan_text (timed steps) = flat_map timed_line steps
