use Rattle.std.proofs.Common.{rules, ◌≡◌, ap, sym, subst}
use Rattle.std.specs.Prelude.{Result, Ok, Err, MatchResult}
use Rattle.pddl_serial.specs.declared.replaying.End.{End}
use Rattle.pddl_serial.specs.declared.replaying.Replayed.{Replayed}
use Rattle.pddl_valid.specs.declared.fault.ReplayFault.{ReplayFault}
use Rattle.pddl_valid.specs.declared.fault.ReplayFault.TheVariants.{Memory}
use Rattle.pddl_valid.specs.SerialEnds.{end_of}
use Rattle.pddl_valid.proofs.replaying.end_of.Goals as goal

of_run : {A E : Type 0} (run : Result (Replayed A) E) (replayed : Replayed A) (end : Result (End A) ReplayFault) → run ≡ Ok replayed → end_of replayed ≡ end
    → MatchResult run (λ r. end ≡ end_of r) (λ e. end ≡ Err Memory)
of_run run replayed end is ends = subst (λ r. MatchResult r (λ x. end ≡ end_of x) (λ e. end ≡ Err Memory)) (sym is) (sym ends)

pub returns-in-NotASerialisation : goal.returns-in-NotASerialisation
returns-in-NotASerialisation g c = let is : c.args.run ≡ Ok c.in_ok-run.field-0 = search rules in of_run c.args.run c.in_ok-run.field-0 _ is (ap end_of c.in-NotASerialisation.is)

pub returns-in-StepFails : goal.returns-in-StepFails
returns-in-StepFails g c = let is : c.args.run ≡ Ok c.in_ok-run.field-0 = search rules in of_run c.args.run c.in_ok-run.field-0 _ is (ap end_of c.in-StepFails.is)

pub returns-in-Ended : goal.returns-in-Ended
returns-in-Ended g c = let is : c.args.run ≡ Ok c.in_ok-run.field-0 = search rules in of_run c.args.run c.in_ok-run.field-0 _ is (ap end_of c.in-Ended.is)
