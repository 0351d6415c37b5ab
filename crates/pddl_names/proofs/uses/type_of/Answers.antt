use Rattle.pddl_names.proofs.ToldUses.{variable_told}
use Rattle.pddl_names.proofs.uses.type_of.Goals as goal

pub returns-then-term : goal.returns-then-term
returns-then-term g c = λ told are. rw (c.if-term.true, c.number_of.ensures) (variable_told told c.args.term.name.now c.args.scope.now are.variables)
