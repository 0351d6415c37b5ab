use Rattle.std.proofs.Common.{rules, ◌≡◌, ◌++◌, [], ◌∷◌, map}
use Rattle.pddl_serial.proofs.GroupMoments.{moment_more}
use Rattle.pddl_serial.proofs.new_plan.add_moments.Goals as goal

pub loop-preserved : goal.loop-preserved
loop-preserved g c =
    let is : c.push.new.self.items ≡ c.loop.moments.items ++ c.args.moment ∷ [] = search rules in
    moment_more c.args.moment c.args.group.now c.loop.index c.loop.moments.items c.push.new.self.items (c.args.moments.now.items ++ map (λ k. c.args.moment) c.args.group.now) c.loop-test.true is c.loop.invariant
