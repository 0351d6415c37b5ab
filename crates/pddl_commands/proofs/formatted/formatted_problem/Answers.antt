use Rattle.std.proofs.Common.{◌≡◌, ◌∙◌, sym, subst}
use Rattle.std.proofs.lemmas.Result.{IfOk-at_ok, IfOk-weaker}
use Rattle.pddl_problem.specs.Problems.{problem_view}
use Rattle.pddl_problem_reader.specs.ProblemTexts.{SpellsProblem, ProblemStands}
use Rattle.pddl_file_layout.specs.ProblemLayout.{problem_text}
use Rattle.pddl_kind.specs.declared.Kind.TheVariants.{Problem}
use Rattle.pddl_commands.proofs.Good.{problem_printed, printed_refused}
use Rattle.pddl_commands.proofs.formatted.formatted_problem.Goals as goal

pub refused_problem-requires : goal.refused_problem-requires
refused_problem-requires g c = subst (λ text. ProblemStands c.in-Err.fault text) (c.deref.ensures.value ∙ sym c.deref-in-Err.ensures.value) c.in-Err.ensures.fault

pub returns-in-Ok : goal.returns-in-Ok
returns-in-Ok g c =
    let p = problem_view c.in-Ok.problem in
    let spells = subst (SpellsProblem p) c.deref.ensures.value c.in-Ok.ensures.problem in
    IfOk-weaker c.good.result _ _ (λ answer is. problem_printed p c.args.text.items answer.0.items answer.1 is.0 spells (IfOk-at_ok (λ text. text.items ≡ problem_text p) is.1 c.problem_text-printed.ensures.text)) c.good.ensures

pub returns : goal.returns
returns g c = IfOk-weaker c.refused_problem.result _ _ (λ answer is. printed_refused Problem answer.0.items c.deref-in-Err.ensures.value is.0 is.1) c.refused_problem.ensures
