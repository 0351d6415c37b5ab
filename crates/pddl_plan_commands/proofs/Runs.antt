-- What was read and made is what a command says of its run.
use Rattle.std.proofs.Common.{◌≡◌, ℕ, true, List}
use Rattle.std.specs.Prelude.{◌≢◌, ◌⊎◌}
use Rattle.pddl_kind.specs.declared.Kind.TheVariants.{Domain, Problem, Plan}
use Rattle.pddl_file_lines.specs.declared.outcome.Outcome.{Outcome}
use Rattle.pddl_file_lines.specs.declared.outcome.Outcome.TheVariants.{Refused}
use Rattle.pddl_file_lines.specs.Contents.{IsLeft, IsRead}
use Rattle.pddl_plan_commands.specs.Printings.{Printing}
use Rattle.pddl_plan_commands.specs.PlanChecks.{IsPlanChecked}
use Rattle.pddl_plan_commands.specs.Runs.{Readers, IsText}

-- the parts of what is printed for three texts
pub is_text : (Prints : Printing) (r : Readers) (printed : List ℕ) (outcome : Outcome)
    → ((text given steps : List ℕ) × IsLeft r.domain.left text × IsLeft r.problem.left given × IsLeft r.plan.left steps × IsPlanChecked Prints text given steps printed outcome)
    → (IsRead Domain r.domain.at_end printed × (r.problem.Unread ⊎ IsRead Problem r.problem.at_end printed) × (r.plan.Unread ⊎ IsRead Plan r.plan.at_end printed))
    → (outcome ≢ Refused → (r.domain.at_end ≡ true) × (r.problem.at_end ≡ true) × (r.plan.at_end ≡ true)) → IsText Prints r printed outcome
is_text Prints r printed outcome checked read judged_at_end = record {
  domain = checked.0;
  problem = checked.1;
  plan = checked.2;
  domain_left = checked.3;
  problem_left = checked.4;
  plan_left = checked.5;
  domain_read = read.0;
  problem_read = read.1;
  plan_read = read.2;
  checked = checked.6;
  judged_at_end = judged_at_end;
}
