use Rattle.std.proofs.Common.{codes}
use Rattle.std.proofs.lemmas.Result.{err_from_is_err_and}
use Rattle.pddl_items.specs.Items.{items_view}
use Rattle.pddl_sections.specs.Files.{IsOpened}
use Rattle.pddl_file.proofs.SectionTurns.{head_refused}
use Rattle.pddl_problem.specs.Problems.{problem_view}
use Rattle.pddl_problem_reader.specs.ProblemTexts.{required}
use Rattle.pddl_problem_reader.specs.Inner.ProblemReading.{problem_readers}
use Rattle.pddl_problem_reader.specs.Inner.Slots.{slots_view}
use Rattle.pddl_problem_reader.proofs.ProblemTexts.{made_problem, sections_fail}
use Rattle.pddl_problem_reader.proofs.problem_reader.problem_of.Goals as goal

pub returns-in-Err-clause-refused : goal.returns-in-Err-clause-refused
returns-in-Err-clause-refused g c =
    head_refused problem_readers (codes "problem") required (items_view c.args.items.now) c.in-Err.span (rw c.in-Err.is at c.in_ok-opening.ensures)

pub returns-in_err-slots-clause-refused : goal.returns-in_err-slots-clause-refused
returns-in_err-slots-clause-refused g c =
    let items = items_view c.args.items.now in
    let name = c.in-Ok.opening.name in
    let sections = items_view c.in-Ok.opening.sections.now in
    let opened : IsOpened (codes "problem") name sections items = rw c.in-Ok.is at c.in_ok-opening.ensures in
    let p = err_from_is_err_and c.from_residual-in_err-slots.result c.from_residual-in_err-slots.ensures.1 in
    rw (p.1, p.2) (sections_fail items name sections opened c.in_err-slots.field-0.0 c.in_err-slots.ensures.refused)

pub returns-clause-problem : goal.returns-clause-problem
returns-clause-problem g c =
    let items = items_view c.args.items.now in
    let name = c.in-Ok.opening.name in
    let sections = items_view c.in-Ok.opening.sections.now in
    let opened : IsOpened (codes "problem") name sections items = rw c.in-Ok.is at c.in_ok-opening.ensures in
    made_problem items name sections opened (slots_view c.in_ok-slots.slots) c.in_ok-slots.ensures.hold (problem_view c.problem_by.result) c.problem_by.ensures
