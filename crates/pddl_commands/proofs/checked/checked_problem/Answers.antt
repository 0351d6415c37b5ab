use Rattle.std.proofs.Common.{◌∙◌, sym, subst, inl, inr}
use Rattle.std.proofs.lemmas.Result.{IfOk-weaker}
use Rattle.pddl_problem.specs.Problems.{problem_view}
use Rattle.pddl_problem_reader.specs.ProblemTexts.{SpellsProblem, ProblemStands}
use Rattle.pddl_kind.specs.declared.Kind.TheVariants.{Problem}
use Rattle.pddl_file_lines.specs.Refusals.{IsRefused}
use Rattle.pddl_commands.proofs.checked.checked_problem.Goals as goal

pub refused_problem-requires : goal.refused_problem-requires
refused_problem-requires g c = subst (λ text. ProblemStands c.in-Err.fault text) (c.deref.ensures.value ∙ sym c.deref-in-Err.ensures.value) c.in-Err.ensures.fault

pub returns-in-Ok : goal.returns-in-Ok
returns-in-Ok g c =
    let spells = subst (λ text. SpellsProblem (problem_view c.in-Ok.problem) text) c.deref.ensures.value c.in-Ok.ensures.problem in
    IfOk-weaker c.judged_problem-answer.result _ _ (λ answer judged. inr (problem_view c.in-Ok.problem, spells, judged)) c.judged_problem-answer.ensures

pub returns : goal.returns
returns g c =
    IfOk-weaker c.refused_problem.result _ _ (λ answer is. inl (is.0, subst (λ text. IsRefused Problem text answer.0.items) c.deref-in-Err.ensures.value is.1)) c.refused_problem.ensures
