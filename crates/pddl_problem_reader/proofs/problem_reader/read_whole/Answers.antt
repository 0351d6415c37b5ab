use Rattle.std.proofs.Common.{◌≡◌, sym, ap, subst}
use Rattle.std.proofs.lemmas.Result.{err_from_is_err_and}
use Rattle.pddl_items.specs.Items.{items_view}
use Rattle.pddl_text.specs.Texts.{HasItems}
use Rattle.pddl_scan.specs.declared.fault.TextFault.TheVariants.{Memory}
use Rattle.pddl_file.specs.declared.fault.FileFault.TheVariants.{Text}
use Rattle.pddl_file.specs.Inner.FileReading.{RefusesFile}
use Rattle.pddl_problem.specs.Problems.{problem_view}
use Rattle.pddl_problem_reader.specs.ProblemTexts.{AreProblem, ProblemStands}
use Rattle.pddl_problem_reader.proofs.Results.{if_ok, if_err, match_both}
use Rattle.pddl_problem_reader.proofs.ProblemTexts.{Answered, spells_text, one_problem, refused_stands, refused_only}
use Rattle.pddl_problem_reader.proofs.problem_reader.read_whole.Goals as goal

pub returns-in_err-items-clause-only : goal.returns-in_err-items-clause-only
returns-in_err-items-clause-only g c = λ problem spells.
    let p = err_from_is_err_and c.from_residual.result c.from_residual.ensures.1 in
    rw (p.1, p.2) (ap (λ t. Text t) (c.in_err-items.ensures.only spells.items spells.has))

pub returns-clause-only : goal.returns-clause-only
returns-clause-only g c = λ problem spells.
    let text = c.args.text.now in
    let items = items_view c.deref.result.now in
    let has : HasItems text items = subst (λ xs. HasItems text (items_view xs)) (sym c.deref.ensures.value) c.in_ok-items.ensures.items in
    match_both (λ found. problem_view found ≡ problem) (λ fault. fault ≡ Text Memory) c.problem_of.result
    (if_ok (λ found. AreProblem (problem_view found) items) (λ found. problem_view found ≡ problem) c.problem_of.result
    (λ found are. one_problem text (problem_view found) problem (spells_text text items (problem_view found) has are) spells) c.problem_of.ensures.problem)
    (if_err (λ fault. RefusesFile fault (Answered items)) (λ fault. fault ≡ Text Memory) c.problem_of.result (λ fault refused. refused_only fault text items problem has spells refused) c.problem_of.ensures.refused)

pub returns-clause-fault : goal.returns-clause-fault
returns-clause-fault g c =
    let text = c.args.text.now in
    let items = items_view c.deref.result.now in
    let has : HasItems text items = subst (λ xs. HasItems text (items_view xs)) (sym c.deref.ensures.value) c.in_ok-items.ensures.items in
    if_err (λ fault. RefusesFile fault (Answered items)) (λ fault. ProblemStands fault text) c.problem_of.result (λ fault refused. refused_stands fault text items has refused) c.problem_of.ensures.refused
