use Rattle.pddl_forest.proofs.Numbers.{AreNumbered}
use Rattle.pddl_forest.proofs.numbering.number_from_top.Given as goal

abbrev pub invariant-loop-turn : goal.invariant-loop-turn
invariant-loop-turn l = AreNumbered l.parents l.order l.fn.spans l.spans l.turn
