-- What a command on a domain, a problem and a plan promises of its readers and its writer. Own.
use Rattle.std.specs.Prelude.{◌≡◌, ◌≢◌, ◌⊎◌, ℕ, List, Bool, true, Option, Result, IfOk, OnOk, IsErrOf}
use Rattle.std.specs.Io.KnownBytes.{Appends, Consumes, Keeps}
use Rattle.pddl_device.specs.Device.{AppendsBeginning, HasFailed}
use Rattle.pddl_kind.specs.declared.Kind.TheVariants.{Domain, Problem, Plan}
use Rattle.pddl_file_lines.specs.declared.outcome.Outcome.{Outcome}
use Rattle.pddl_file_lines.specs.declared.outcome.Outcome.TheVariants.{Refused}
use Rattle.pddl_file_lines.specs.declared.outcome.RunFault.{RunFault}
use Rattle.pddl_file_lines.specs.declared.outcome.RunFault.TheVariants.{Memory, ReadFailed, WriteFailed}
use Rattle.pddl_file_lines.specs.Contents.{IsLeft, IsNoDomain, IsRead}
use Rattle.pddl_plan_commands.specs.Printings.{Printing}
use Rattle.pddl_plan_commands.specs.PlanChecks.{IsPlanChecked, IsNoProblem}

-- A reader before and after a call: what it has left to give, where that is known; how many of its reads failed; whether it is at its end
-- after it; and that it is as it was.
pub record Reader : Type 1 where
  pub left : Option (List ℕ)
  pub left_after : Option (List ℕ)
  pub failures : ℕ
  pub failures_after : ℕ
  pub at_end : Bool
  pub Unread : Type 0

-- by what it is told of one, before and after
abbrev pub reader : {S : Type 0} → (S → Option (List ℕ)) → (S → ℕ) → (S → Bool) → S → S → Reader
reader remaining failed ended old new = record {
  left = remaining old;
  left_after = remaining new;
  failures = failed old;
  failures_after = failed new;
  at_end = ended new;
  Unread = new ≡ old;
}

-- a writer before and after a call: what it holds, where that is known, and how many of its writes failed
pub record Writer : Type 0 where
  pub contents : Option (List ℕ)
  pub contents_after : Option (List ℕ)
  pub failures : ℕ
  pub failures_after : ℕ

abbrev pub writer : {W : Type 0} → (W → Option (List ℕ)) → (W → ℕ) → W → W → Writer
writer held failed old new = record { contents = held old; contents_after = held new; failures = failed old; failures_after = failed new }

-- the readers of the three files
pub record Readers : Type 1 where
  pub domain : Reader
  pub problem : Reader
  pub plan : Reader

-- no read failed
abbrev pub NoReadFailed : Readers → Type 0
NoReadFailed r = (r.domain.failures_after ≡ r.domain.failures) × (r.problem.failures_after ≡ r.problem.failures) × (r.plan.failures_after ≡ r.plan.failures)

-- nothing was written, and no write failed
abbrev pub IsUnwritten : Writer → Type 0
IsUnwritten out = Keeps out.contents out.contents_after × (out.failures_after ≡ out.failures)

-- The text is the outcome's for all that the readers had left to give. Each reader of which anything was read came to its end, or past the
-- limit of length, as the text says then.
pub record IsText (Prints : Printing) (r : Readers) (printed : List ℕ) (outcome : Outcome) : Type 0 where
  pub domain : List ℕ
  pub problem : List ℕ
  pub plan : List ℕ
  pub domain_left : IsLeft r.domain.left domain
  pub problem_left : IsLeft r.problem.left problem
  pub plan_left : IsLeft r.plan.left plan
  pub domain_read : IsRead Domain r.domain.at_end printed
  pub problem_read : r.problem.Unread ⊎ IsRead Problem r.problem.at_end printed
  pub plan_read : r.plan.Unread ⊎ IsRead Plan r.plan.at_end printed
  pub checked : IsPlanChecked Prints domain problem plan printed outcome
  -- a plan is judged, valid or invalid, only where the readers came to their ends
  pub judged_at_end : outcome ≢ Refused → (r.domain.at_end ≡ true) × (r.problem.at_end ≡ true) × (r.plan.at_end ≡ true)

-- What a command does that has this printing of accepted plans, and what it answers.
pub record IsRun (Prints : Printing) (r : Readers) (out : Writer) (result : Result Outcome RunFault) : Type 0 where
  -- the outcome's text is written, and no call of the four failed
  pub outcome : IfOk result (λ outcome. (printed : List ℕ) × IsText Prints r printed outcome × Appends out.contents out.contents_after printed)
  pub none_failed : OnOk result (NoReadFailed r × (out.failures_after ≡ out.failures))
  -- for want of memory, or after a read of this call that failed, nothing is written
  pub memory : IsErrOf result Memory → NoReadFailed r × IsUnwritten out
  pub read_failed : IsErrOf result ReadFailed
      → (HasFailed r.domain.failures r.domain.failures_after ⊎ (HasFailed r.problem.failures r.problem.failures_after ⊎ HasFailed r.plan.failures r.plan.failures_after)) × IsUnwritten out
  -- after a write of this call that failed, a beginning of the outcome's text is written
  pub write_failed : IsErrOf result WriteFailed → HasFailed out.failures out.failures_after × NoReadFailed r
      × ((printed : List ℕ) × (outcome : Outcome) × IsText Prints r printed outcome × AppendsBeginning out.contents out.contents_after printed)
  -- the readers stand after the bytes that they gave
  pub domain_stands : (given : List ℕ) × Consumes r.domain.left r.domain.left_after given
  pub problem_stands : (given : List ℕ) × Consumes r.problem.left r.problem.left_after given
  pub plan_stands : (given : List ℕ) × Consumes r.plan.left r.plan.left_after given
  -- no file is read behind one whose text, so far as it is known, is refused, or of which a read failed
  pub domain_first : IsNoDomain r.domain.left → r.problem.Unread × r.plan.Unread
  pub problem_first : IsNoProblem r.problem.left → r.plan.Unread
  pub no_read_after_domain : r.domain.failures_after ≢ r.domain.failures → r.problem.Unread × r.plan.Unread
  pub no_read_after_problem : r.problem.failures_after ≢ r.problem.failures → r.plan.Unread
