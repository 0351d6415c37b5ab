use Rattle.std.proofs.Common.{map, sym, ap, codes, ◌++◌, ℕ, List}
use Rattle.pddl_formula.specs.TypedLists.{typed_view}
use Rattle.pddl_problem.specs.Inits.{init_view}
use Rattle.pddl_problem.specs.Problems.{problem_view}
use Rattle.pddl_file_layout.specs.Inner.Texts.{spaced_by, section_text, flag_text, object_text, init_text}
use Rattle.pddl_file_layout.proofs.Printed.{puts_on, puts_as}
use Rattle.pddl_file_layout.proofs.LineTexts.{problem_is}
use Rattle.pddl_file_layout.proofs.problem.put_problem.Goals as goal

pub returns-clause-printed : goal.returns-clause-printed
returns-clause-printed g c = puts_as (sym (problem_is (problem_view c.args.problem.now))) (puts_on (puts_as (ap (λ (n : List ℕ). codes "(define (problem " ++ n) c.as_bytes.ensures.value) c.put_both.ensures) (puts_on (puts_as (ap (λ (n : List ℕ). codes ")\n  (:domain " ++ n) c.as_bytes-2.ensures.value) c.put_both-2.ensures) (puts_on c.put.ensures (puts_on (puts_as (ap (λ xs. section_text (codes "  (:requirements") flag_text xs) c.deref.ensures.value) c.put_requirements.ensures.printed) (puts_on (puts_as (ap (λ xs. section_text (codes "  (:objects") object_text (map typed_view xs)) c.deref-2.ensures.value) c.put_objects.ensures.printed) (puts_on c.put-2.ensures (puts_on (puts_as (ap (λ xs. spaced_by init_text (map init_view xs)) c.deref-3.ensures.value) c.put_init.ensures.printed) (puts_on c.put-3.ensures (puts_on c.put_formula.ensures.printed (puts_on c.put-4.ensures (puts_on c.put_metric.ensures.printed c.put-5.ensures)))))))))))
