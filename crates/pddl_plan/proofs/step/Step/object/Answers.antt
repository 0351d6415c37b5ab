use Rattle.std.proofs.Common.{arith}
use Rattle.pddl_plan.proofs.LentSteps.{count_is, object_is}
use Rattle.pddl_plan.proofs.step.Step.object.Goals as goal

pub overflow_add-self-inside : goal.overflow_add-self-inside
overflow_add-self-inside g c = omega (arith, c.self.invariant.some, c.self.invariant.within, c.len-short.ensures.value, c.len-short.ensures.short)

pub overflow_add-self-inside-2 : goal.overflow_add-self-inside-2
overflow_add-self-inside-2 g c =
    omega (
      arith,
      c.requires,
      c.self.invariant.some,
      c.self.invariant.within,
      c.len-short.ensures.value,
      c.len-short.ensures.short,
      count_is c.self.inside.names.now c.self.inside.start c.self.inside.end c.self.invariant.some c.self.invariant.within c.args.self.now c.self.view_is,
    )

pub get-requires : goal.get-requires
get-requires g c =
    omega (
      arith,
      c.requires,
      c.self.invariant.some,
      c.self.invariant.within,
      count_is c.self.inside.names.now c.self.inside.start c.self.inside.end c.self.invariant.some c.self.invariant.within c.args.self.now c.self.view_is,
    )

pub returns : goal.returns
returns g c =
    object_is c.self.inside.names.now c.self.inside.start c.self.inside.end c.self.invariant.some c.self.invariant.within c.args.self.now c.self.view_is c.args.number c.get.result.now c.requires c.get.ensures
