use Rattle.std.proofs.Common.{◌++◌, List, ℕ, arith}
use Rattle.std.specs.Prelude.{IfOk}
use Rattle.pddl_scan.specs.InPieces.{HasRead}
use Rattle.pddl_scan.proofs.PiecesRead.{line_on, comment_on, fault_on}
use Rattle.pddl_scan.proofs.piecewise.read_on.Goals as goal

pub returns-then-len-piece-clause-read : goal.returns-then-len-piece-clause-read
returns-then-len-piece-clause-read g c = λ before given start_is had.
    let Then : List ℕ → Type 0 = λ t. IfOk c.read_words-then-len-piece.result (λ next. HasRead next c.read_words-then-len-piece.new.held.items t (given ++ c.read_words-then-len-piece.new.words)) in
    line_on c.args.start c.line_len-len.result before c.args.piece.now _ _ c.args.progress Then c.line_len-len.ensures.value c.if-len-piece.true c.split_at.ensures.back start_is c.in-Comment.is had (λ front len. c.read_words-then-len-piece.ensures.read front given len)

pub returns-else-len-piece-clause-read : goal.returns-else-len-piece-clause-read
returns-else-len-piece-clause-read g c = λ before given start_is had. comment_on c.line_len-len.result before c.args.piece.now _ _ c.args.progress c.line_len-len.ensures.value c.if-len-piece.false c.in-Comment.is c.requires.empty had

pub returns-in_default-clause-read : goal.returns-in_default-clause-read
returns-in_default-clause-read g c = λ before given start_is had. fault_on before c.args.piece.now _ _ c.args.progress c.in_default.not-Words c.in_default.not-Comment c.requires.empty had

pub returns-in_default-clause-held_short : goal.returns-in_default-clause-held_short
returns-in_default-clause-held_short g c = rw c.requires.empty (omega arith)
