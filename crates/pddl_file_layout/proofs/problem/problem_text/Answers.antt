use Rattle.std.proofs.Common.{◌≡◌, List, ℕ, length, sym, ap, subst, arith}
use Rattle.pddl_problem.specs.Problems.{problem_view}
use Rattle.pddl_problem_reader.specs.ProblemTexts.{SpellsProblem}
use Rattle.pddl_file_layout.specs.ProblemLayout.{problem_text}
use Rattle.pddl_file_layout.proofs.Printed.{all_printed}
use Rattle.pddl_file_layout.proofs.ProblemTextLaws.{problem_reads_back}
use Rattle.pddl_file_layout.proofs.problem.problem_text.Goals as goal

pub returns-else-failed-clause-text : goal.returns-else-failed-clause-text
returns-else-failed-clause-text g c =
    all_printed c.new.result.items c.new-out.result.inner.items c.put_problem.new.out.inner.items c.into_inner.result.items
    c.new.ensures.items c.new-out.ensures.contents c.put_problem.ensures.printed c.if-failed.false c.into_inner.ensures.contents

pub returns-else-failed-clause-reads_back : goal.returns-else-failed-clause-reads_back
returns-else-failed-clause-reads_back g c = λ deep short.
    let problem = problem_view c.args.problem.now in
    let text : c.into_inner.result.items ≡ problem_text problem =
    all_printed c.new.result.items c.new-out.result.inner.items c.put_problem.new.out.inner.items c.into_inner.result.items
    c.new.ensures.items c.new-out.ensures.contents c.put_problem.ensures.printed c.if-failed.false c.into_inner.ensures.contents in
    subst (SpellsProblem problem) (sym text) (problem_reads_back problem c.put_problem.ensures.good deep (omega (arith, short, c.into_inner.result.ok, ap (λ (t : List ℕ). length t) text)))
