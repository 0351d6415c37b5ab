-- The lines of a plan's canonical text. No public contract names these.
use Rattle.std.specs.Prelude.{ℕ, List, [], ◌++◌, map, get_or, Option, Some, None, codes}
use Rattle.pddl_token.specs.NumberText.{number_text}
use Rattle.pddl_plan.specs.Plans.{PlanValue, plain, timed}
use Rattle.pddl_layout.specs.PlanLayout.{plain_line, timed_line}

-- in front of a step: its number, a colon and a space, where it has a moment
abbrev pub moment_text : Option ℕ → List ℕ
moment_text None = []
moment_text (Some moment) = number_text moment ++ codes ": "

-- one for each step
abbrev pub lines_of : PlanValue → List (List ℕ)
lines_of (plain steps) = map plain_line steps
lines_of (timed steps) = map timed_line steps

-- the line of the step of a number, from 0
abbrev pub line_at : PlanValue → ℕ → List ℕ
line_at plan n = get_or (lines_of plan) n []
