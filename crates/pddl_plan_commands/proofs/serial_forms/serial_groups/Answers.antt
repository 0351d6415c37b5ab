use Rattle.std.proofs.Common.{◌≡◌, ℕ, subst}
use Rattle.std.specs.Prelude.{Result, MatchOption}
use Rattle.std.specs.Int.NonZero.{non_zero_u32_get}
use Rattle.pddl_file_lines.specs.declared.outcome.Outcome.{Outcome}
use Rattle.pddl_file_lines.specs.declared.outcome.RunFault.{RunFault}
use Rattle.pddl_serial.specs.declared.turns.Order.{Order}
use Rattle.pddl_plan_commands.specs.Printings.{IsSplitText}
use Rattle.pddl_plan_commands.specs.Runs.{Readers, Writer, IsRun}
use Rattle.pddl_plan_commands.proofs.serial_forms.serial_groups.Goals as goal

same_size : (order : Order) (n m : ℕ) (r : Readers) (out : Writer) (result : Result Outcome RunFault) → n ≡ m → IsRun (IsSplitText order n) r out result
    → IsRun (IsSplitText order m) r out result
same_size order n m r out result same run = subst (λ k. IsRun (IsSplitText order k) r out result) same run

pub returns : goal.returns
returns g c =
    let size = subst (λ found. MatchOption found (c.args.size ≡ 0) (λ n. non_zero_u32_get n ≡ c.args.size)) c.unwrap-size.ensures c.new.ensures in
    same_size c.args.order _ _ _ _ _ size c.run.ensures
