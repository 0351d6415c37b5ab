use Rattle.pddl_problem.specs.Inits.{init_view}
use Rattle.pddl_names.proofs.InitClaims.{Checked}
use Rattle.pddl_names.proofs.init.agree_in.Given as goal

abbrev pub invariant-loop-item : goal.invariant-loop-item
invariant-loop-item g l = Checked init_view l.of_values l.init l.item-index l.claims.entries
