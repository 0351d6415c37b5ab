use Rattle.std.proofs.Common.{subst, arith}
use Rattle.pddl_scan.specs.Inner.Reading.{IsGapAt}
use Rattle.pddl_scan.proofs.Lexed.{gap_lexed}
use Rattle.pddl_text.proofs.next_words.word_begin.Goals as goal

pub loop-at-preserved : goal.loop-at-preserved
loop-at-preserved c = record {
  lexed = λ words lexed. gap_lexed _ words c.loop-at.at c.gap_len-len.result (c.loop-at.invariant.lexed words lexed) (subst (IsGapAt c.gap_len-len.result) c.split_at.ensures.back (c.gap_len-len.ensures (omega (arith, c.if-len-eq0.false))));
  further = omega (arith, c.loop-at.invariant.further);
}
