use Rattle.std.proofs.Common.{sym, ◌∙◌}
use Rattle.std.specs.Prelude.{Result, Ok, Err, IfOk}
use Rattle.std.proofs.lemmas.Bool.{true≢false}
use Rattle.pddl_happenings.specs.Serialisations.{IsSerialOrder}
use Rattle.pddl_judge.specs.HappeningValues.{groups_of}
use Rattle.pddl_serial.specs.Replays.{OnNotASerialisation, OnSerialisation}
use Rattle.pddl_serial.specs.declared.replaying.Replayed.{Replayed}
use Rattle.pddl_serial.specs.declared.replaying.Replayed.TheVariants.{NotASerialisation, StepFails, Ended}
use Rattle.pddl_serial.proofs.Counted.{all_below, counted, few_listed, few_steps}
use Rattle.pddl_serial.proofs.replaying.replay.Goals as goal

pub step_count-steps-requires : goal.step_count-steps-requires
step_count-steps-requires g c = few_listed (g.P.Course.count_of c.args.course.now) (groups_of c.args.happenings.now) c.requires.each c.requires.count

pub is_serialisation-requires : goal.is_serialisation-requires
is_serialisation-requires g c = counted (g.P.Course.count_of c.args.course.now) (groups_of c.args.happenings.now) c.requires.each c.step_count-steps.result c.step_count-steps.ensures

pub run_from-requires-clause-steps : goal.run_from-requires-clause-steps
run_from-requires-clause-steps g c = all_below (g.P.Course.count_of c.args.course.now) (groups_of c.args.happenings.now) c.requires.each c.args.order.now (c.in_ok-serial.ensures.0 c.if-not-serial.false)

pub run_from-requires-clause-few : goal.run_from-requires-clause-few
run_from-requires-clause-few g c = few_steps (g.P.Course.count_of c.args.course.now) (groups_of c.args.happenings.now) c.requires.each c.args.order.now (c.in_ok-serial.ensures.0 c.if-not-serial.false) c.requires.count

never_none : {A E : Type 0} (P : Type 0) (r : Result (Replayed A) E) → IfOk r (λ e. OnNotASerialisation e ⊥) → IfOk r (λ e. OnNotASerialisation e P)
never_none P (Ok NotASerialisation) none = absurd none
never_none P (Ok (StepFails place)) none = tt
never_none P (Ok (Ended e)) none = tt
never_none P (Err e) none = tt

is_one : {A E : Type 0} (P : Type 0) (r : Result (Replayed A) E) → P → IfOk r (λ e. OnSerialisation e P)
is_one P (Ok NotASerialisation) one = tt
is_one P (Ok (StepFails place)) one = one
is_one P (Ok (Ended e)) one = one
is_one P (Err e) one = tt

pub returns-then-not-serial : goal.returns-then-not-serial
returns-then-not-serial g c = record {
  not_serial = λ is. true≢false (sym (c.in_ok-serial.ensures.1 is) ∙ c.if-not-serial.true);
  serial = tt;
  fails = tt;
  runs = tt;
  rising = tt;
  atoms = tt;
  cost = tt;
}

pub returns : goal.returns
returns g c =
    let order = IsSerialOrder (groups_of c.args.happenings.now) c.args.order.now in
    record {
      not_serial = never_none (order → ⊥) c.run_from.result c.run_from.ensures.serial;
      serial = is_one order c.run_from.result (c.in_ok-serial.ensures.0 c.if-not-serial.false);
      fails = c.run_from.ensures.fails;
      runs = c.run_from.ensures.runs;
      rising = c.run_from.ensures.rising;
      atoms = c.run_from.ensures.atoms;
      cost = c.run_from.ensures.cost;
    }
