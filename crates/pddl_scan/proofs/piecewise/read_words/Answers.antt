use Rattle.std.proofs.Common.{◌∙◌, ◌++◌, List, ℕ, ap, arith}
use Rattle.pddl_scan.proofs.PiecesRead.{words_read}
use Rattle.pddl_scan.proofs.piecewise.read_words.Goals as goal

pub returns-in_ok-extend_from_slice-clause-read : goal.returns-in_ok-extend_from_slice-clause-read
returns-in_ok-extend_from_slice-clause-read g c = words_read c.args.start c.last_end-len.result c.args.piece.now _ _ _ _ _ c.in_ok-stop.stop.progress c.in_ok-stop.stop.at c.split_at.ensures.front c.split_at.ensures.back c.last_end-len.ensures.ended c.last_end-len.ensures.held c.in_ok-stop.ensures.read
    (λ e. c.in_ok-extend_from_slice.ensures.items ∙ ap (λ (t : List ℕ). t ++ c.split_at.result.1.now) c.requires.empty) (λ no. absurd (no c.in-Words.is))

pub returns-in_default-clause-read : goal.returns-in_default-clause-read
returns-in_default-clause-read g c = words_read c.args.start c.last_end-len.result c.args.piece.now _ _ _ _ _ c.in_ok-stop.stop.progress c.in_ok-stop.stop.at c.split_at.ensures.front c.split_at.ensures.back c.last_end-len.ensures.ended c.last_end-len.ensures.held c.in_ok-stop.ensures.read
    (λ e. absurd (c.in_default.not-Words e)) (λ no. c.requires.empty)

pub returns-in_default-clause-held_short : goal.returns-in_default-clause-held_short
returns-in_default-clause-held_short g c = rw c.requires.empty (omega arith)
