use Rattle.std.proofs.Common.{arith}
use Rattle.pddl_names.proofs.Scopes.{innermost_found}
use Rattle.pddl_names.proofs.scope.Scope.number_of.Goals as goal

pub returns-then-depth-eq0 : goal.returns-then-depth-eq0
returns-then-depth-eq0 g c = grind (arith, innermost_found c.args.name.now c.args.self.now, c.innermost-number.ensures, c.if-depth-eq0.true)

pub returns-else-depth-eq0 : goal.returns-else-depth-eq0
returns-else-depth-eq0 g c = grind (arith, innermost_found c.args.name.now c.args.self.now, c.innermost-number.ensures, c.if-depth-eq0.false)
