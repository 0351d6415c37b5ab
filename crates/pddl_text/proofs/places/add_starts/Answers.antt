use Rattle.std.proofs.Common.{ℕ, ◌∙◌, ◌+◌, ◌++◌, ◌∷◌, [], ap, arith}
use Rattle.pddl_text.proofs.LinesBegun.{lf_step, other_step}
use Rattle.pddl_text.proofs.places.add_starts.Goals as goal
use Rattle.pddl_text.proofs.places.add_starts.Goals.{then-byte-eq10+in_ok-push, else-byte-eq10}

pub loop-byte-preserved : goal.loop-byte-preserved
loop-byte-preserved g c =
    let l = c.loop-byte in
    record {
      at_is = omega (arith, l.invariant.at_is);
      items_are = elim c.if-byte-eq10.branch [
        | then-byte-eq10+in_ok-push w ↦
            let more = lf_step c.args.start l.byte-index 0 c.args.piece.now c.args.starts.now.items l.starts.items c.loop-byte-test.true w.if-byte-eq10.true l.invariant.items_are in
            ap (λ v. v.items) w.starts-is ∙ (w.in_ok-push.ensures.items ∙ (ap (λ (n : ℕ). l.starts.items ++ (n + 1) ∷ []) l.invariant.at_is ∙ more))
        | else-byte-eq10 w ↦
            ap (λ v. v.items) w.starts-is ∙ other_step c.args.start l.byte-index 0 c.args.piece.now c.args.starts.now.items l.starts.items c.loop-byte-test.true w.if-byte-eq10.false l.invariant.items_are
      ];
    }
