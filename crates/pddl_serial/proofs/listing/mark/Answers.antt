use Rattle.pddl_serial.proofs.Placed.{step_below, within_more, marked_more}
use Rattle.pddl_serial.proofs.listing.mark.Goals as goal

pub bounds-places-step : goal.bounds-places-step
bounds-places-step c = step_below c.args.steps.now c.loop-step.places c.args.places.now c.loop-step.step-index c.args.place c.loop-step-test.true c.loop-step.invariant.within c.loop-step.invariant.marked

pub loop-step-preserved : goal.loop-step-preserved
loop-step-preserved c = record {
  within = within_more c.args.steps.now c.loop-step.places c.args.places.now c.loop-step.step-index c.args.place c.loop-step-test.true c.loop-step.invariant.within c.loop-step.invariant.marked;
  marked = marked_more c.args.steps.now c.loop-step.places c.args.places.now c.loop-step.step-index c.args.place c.loop-step-test.true c.loop-step.invariant.within c.loop-step.invariant.marked;
}
