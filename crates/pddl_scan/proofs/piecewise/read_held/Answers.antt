use Rattle.std.proofs.Common.{◌∙◌, ◌++◌, List, ℕ, ap, subst, rules, sym}
use Rattle.std.specs.Prelude.{IfOk}
use Rattle.pddl_scan.specs.declared.parts.Progress.TheVariants as progress
use Rattle.pddl_scan.specs.InPieces.{HasRead}
use Rattle.pddl_scan.proofs.PiecesRead.{held_on, held_then}
use Rattle.pddl_scan.proofs.piecewise.read_held.Goals as goal

pub returns-in_default-clause-read : goal.returns-in_default-clause-read
returns-in_default-clause-read g c = λ before given start_is had.
    subst (λ t. HasRead progress.Words t (before ++ c.args.piece.now) (given ++ c.args.words.now)) (sym c.in_ok-extend_from_slice.ensures.items) (held_on before c.args.piece.now c.args.held.now.items _ c.in_default.ensures had)

pub returns-clause-read : goal.returns-clause-read
returns-clause-read g c = λ before given start_is had.
    let Then : List ℕ → Type 0 = λ t. IfOk c.read_on.result (λ next. HasRead next c.read_on.new.held.items t (given ++ c.read_on.new.words)) in
    let whole_is = c.as_slice.ensures.value ∙ (c.in_ok-extend_from_slice-2.ensures.items ∙ ap (λ (t : List ℕ). c.args.held.now.items ++ t) c.split_at.ensures.front) in
    let rest_is = c.split_at.ensures.back in
    held_then c.args.start c.len.result c.in-Some.len before c.args.piece.now c.args.held.now.items _ given _ _ c.in_ok-stop.stop.progress c.in_ok-stop.stop.at Then start_is had c.in-Some.ensures.0 c.in-Some.ensures.1 (search rules) whole_is c.in_ok-stop.ensures.read
    (λ front len at_stop. subst (λ t. Then (front ++ t)) rest_is (c.read_on.ensures.read front given len at_stop))
