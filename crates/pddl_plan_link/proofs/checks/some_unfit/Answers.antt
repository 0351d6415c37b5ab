use Rattle.std.proofs.Common.{length, min, ap, sym, ◌∙◌}
use Rattle.pddl_linked_task.specs.LinkedTasks.{task_of_files}
use Rattle.pddl_plan_link.proofs.FittingParameters.{parameter_unfit, parameter_fits, parameters_fit}
use Rattle.pddl_plan_link.proofs.checks.some_unfit.Goals as goal

pub returns-then-not-fits_parameter : goal.returns-then-not-fits_parameter
returns-then-not-fits_parameter g c = λ a here.
    parameter_unfit (task_of_files c.args.task.now) c.args.numbers.now a.parameters c.loop-parameter.parameter c.min-parameter-end.result
    (c.min-parameter-end.ensures ∙ ap (min (length c.args.numbers.now)) (sym (c.requires.parameters a here))) (c.loop-parameter.invariant a here)
    c.fits_parameter.result c.loop-parameter-test.true (λ x. c.fits_parameter.ensures a x here) c.if-not-fits_parameter.true

pub loop-parameter-preserved : goal.loop-parameter-preserved
loop-parameter-preserved g c = λ a here.
    parameter_fits (task_of_files c.args.task.now) c.args.numbers.now a.parameters c.loop-parameter.parameter c.min-parameter-end.result
    (c.min-parameter-end.ensures ∙ ap (min (length c.args.numbers.now)) (sym (c.requires.parameters a here))) (c.loop-parameter.invariant a here)
    c.fits_parameter.result c.loop-parameter-test.true (λ x. c.fits_parameter.ensures a x here) c.if-not-fits_parameter.false

pub returns : goal.returns
returns g c = λ a here.
    parameters_fit (task_of_files c.args.task.now) c.args.numbers.now a.parameters c.loop-parameter.parameter c.min-parameter-end.result
    (c.min-parameter-end.ensures ∙ ap (min (length c.args.numbers.now)) (sym (c.requires.parameters a here))) (c.loop-parameter.invariant a here)
    c.loop-parameter-test.false
