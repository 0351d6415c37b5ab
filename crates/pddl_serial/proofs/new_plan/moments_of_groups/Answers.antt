use Rattle.std.proofs.Common.{map}
use Rattle.pddl_happenings.specs.Splits.{split_moments}
use Rattle.pddl_serial.proofs.GroupMoments.{moments_more}
use Rattle.pddl_serial.proofs.new_plan.moments_of_groups.Goals as goal

pub loop-i-preserved : goal.loop-i-preserved
loop-i-preserved g c =
    moments_more (λ g. g.items) c.args.groups.now c.loop-i.i c.index-groups-i.result c.loop-i.moments.items c.add_moments.new.moments.items c.deref.result.now (split_moments 1 (map (λ g. g.items) c.args.groups.now)) c.index-groups-i.is c.loop-i-test.true c.deref.ensures.value c.in_ok-add_moments.ensures c.loop-i.invariant
