use Rattle.std.proofs.Common.{sym, ap}
use Rattle.std.specs.Prelude.{Option, option_map}
use Rattle.pddl_problem.specs.declared.problem.Metric.{Metric}
use Rattle.pddl_problem.specs.Inits.{metric_view}
use Rattle.pddl_file_layout.specs.Inner.Texts.{metric_text}
use Rattle.pddl_file_layout.proofs.Printed.{puts_on, puts_as}
use Rattle.pddl_file_layout.proofs.problem.put_metric.Goals as goal

pub returns-in-Some-clause-printed : goal.returns-in-Some-clause-printed
returns-in-Some-clause-printed g c =
    puts_as (ap (λ (m : Option (Metric _)). metric_text (option_map metric_view m)) (sym c.in-Some.is))
    (puts_on c.put.ensures (puts_on c.put_direction.ensures (puts_on c.put-in-Some.ensures (puts_on c.put_ground_function.ensures.printed c.put-in-Some-2.ensures))))
