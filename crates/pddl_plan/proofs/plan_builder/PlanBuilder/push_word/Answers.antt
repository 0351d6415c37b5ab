use Rattle.pddl_plan.proofs.BuiltPlans.{word_longer, longer_held, word_added, word_kept}
use Rattle.pddl_plan.proofs.plan_builder.PlanBuilder.push_word.Goals as goal

pub invariant_of-self : goal.invariant_of-self
invariant_of-self g c =
    longer_held c.self.inside.names c.self.inside.ends.items c.self.inside.moments.items c.self.invariant c.push_word.new.self
    (word_longer c.self.inside.names c.push_word.new.self c.args.word.now c.push_word.result c.push_word.ensures.added c.push_word.ensures.kept)

pub returns-clause-added : goal.returns-clause-added
returns-clause-added g c =
    rw (← c.self.view_is) (word_added c.self.inside.names c.self.inside.ends.items c.self.inside.moments.items c.self.invariant c.push_word.new.self c.args.word.now c.push_word.result
    (word_longer c.self.inside.names c.push_word.new.self c.args.word.now c.push_word.result c.push_word.ensures.added c.push_word.ensures.kept) c.push_word.ensures.added)

pub returns-clause-kept : goal.returns-clause-kept
returns-clause-kept g c =
    rw (← c.self.view_is) (word_kept c.self.inside.names c.self.inside.ends.items c.self.inside.moments.items c.self.invariant c.push_word.new.self c.push_word.result c.push_word.ensures.kept)
