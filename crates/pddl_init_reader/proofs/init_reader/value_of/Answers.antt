use Rattle.std.proofs.Common.{Ok, ap, refl, arith}
use Rattle.std.specs.Prelude.{option_map}
use Rattle.pddl_build.proofs.Parts.{both_reads}
use Rattle.pddl_problem.specs.Inits.{function_view, value}
use Rattle.pddl_init_reader.proofs.InitTurns.{own_view, value_is}
use Rattle.pddl_init_reader.proofs.init_reader.value_of.Goals as goal

pub returns-in-Some : goal.returns-in-Some
returns-in-Some g c =
    rw (value_is c.args.items.now c.function-item.result c.number-item.result (omega arith) (omega arith) c.function-item.is c.number-item.is)
    (ap (option_map (λ q. value q.0 q.1)) (rw (← c.in_ok-function.ensures, c.in-Some.is) at (both_reads function_view (λ n. n) c.ground_function_of.result (Ok c.number_of.result) _ _ _ c.ground_function_of.ensures (own_view c.number_of.result _ c.number_of.ensures.read) refl)))

pub returns-in-None : goal.returns-in-None
returns-in-None g c =
    rw (value_is c.args.items.now c.function-item.result c.number-item.result (omega arith) (omega arith) c.function-item.is c.number-item.is)
    (ap (option_map (λ q. value q.0 q.1)) (rw (← c.in_ok-function.ensures, c.in-None.is) at (both_reads function_view (λ n. n) c.ground_function_of.result (Ok c.number_of.result) _ _ _ c.ground_function_of.ensures (own_view c.number_of.result _ c.number_of.ensures.read) refl)))
