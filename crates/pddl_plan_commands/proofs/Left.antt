-- What a reader of a problem has left to give, where it is known.
use Rattle.std.proofs.Common.{◌≡◌, ℕ, List, subst}
use Rattle.std.specs.Prelude.{Option, Some, None}
use Rattle.pddl_problem.specs.Problems.{ProblemValue}
use Rattle.pddl_problem_reader.specs.ProblemTexts.{SpellsProblem}
use Rattle.pddl_file_lines.specs.Contents.{IsLeft}
use Rattle.pddl_plan_commands.specs.PlanChecks.{IsNoProblem}

left_known : (remaining : Option (List ℕ)) (text known : List ℕ) → remaining ≡ Some known → IsLeft remaining text → text ≡ known
left_known None text known e is = cc
left_known (Some left) text known e is = cc

-- a text that spells a problem is not known to spell none
pub no_problem_left : (remaining : Option (List ℕ)) (text : List ℕ) (p : ProblemValue) → IsLeft remaining text → SpellsProblem p text → IsNoProblem remaining → ⊥
no_problem_left remaining text p left spells (known, is, none) = none p (subst (λ t. SpellsProblem p t) (left_known remaining text known is left) spells)
