use Rattle.std.proofs.Common.{Ok, ap, refl, arith}
use Rattle.std.specs.Prelude.{option_map}
use Rattle.pddl_build.proofs.Parts.{both_reads}
use Rattle.pddl_problem.specs.Inits.{function_view}
use Rattle.pddl_init_reader.proofs.InitTurns.{own_view, metric_by, metric_is}
use Rattle.pddl_init_reader.proofs.init_reader.metric_of.Goals as goal

pub returns-in-Some : goal.returns-in-Some
returns-in-Some g c =
    rw (metric_is c.args.items.now c.direction-item.result c.function-item.result (omega arith) (omega arith) c.direction-item.is c.function-item.is)
    (ap (option_map (λ q. metric_by q.0 q.1)) (rw (← c.in_ok-direction.ensures, c.in-Some.is) at (both_reads (λ d. d) function_view (Ok c.direction_of.result) c.ground_function_of.result _ _ _ (own_view c.direction_of.result _ c.direction_of.ensures) c.ground_function_of.ensures refl)))

pub returns-in-None : goal.returns-in-None
returns-in-None g c =
    rw (metric_is c.args.items.now c.direction-item.result c.function-item.result (omega arith) (omega arith) c.direction-item.is c.function-item.is)
    (ap (option_map (λ q. metric_by q.0 q.1)) (rw (← c.in_ok-direction.ensures, c.in-None.is) at (both_reads (λ d. d) function_view (Ok c.direction_of.result) c.ground_function_of.result _ _ _ (own_view c.direction_of.result _ c.direction_of.ensures) c.ground_function_of.ensures refl)))
