use Rattle.std.proofs.Common.{take, subst, ap, ◌∙◌, arith}
use Rattle.pddl_token.specs.Spelling.{IsOpenComment}
use Rattle.pddl_scan.specs.Faults.{IsStray, IsGlued, IsOutOfRange}
use Rattle.pddl_scan.specs.Inner.Reading.{IsGapAt, IsWordAt}
use Rattle.pddl_scan.proofs.Lexed.{gap_lexed, word_lexed, lexed_to_end, lexed_to_comment, leftmost_fault}
use Rattle.pddl_text.proofs.lexer.next_token.Goals as goal

pub loop-at-preserved : goal.loop-at-preserved
loop-at-preserved c = record {
  lexed = λ words lexed. gap_lexed _ words c.loop-at.at c.in-Gap.len (c.loop-at.invariant.lexed words lexed) (subst (IsGapAt c.in-Gap.len) c.split_at.ensures.back c.in-Gap.ensures.reads);
  further = omega arith;
}

pub loop-at-preserved-then-begins_with_blank : goal.loop-at-preserved-then-begins_with_blank
loop-at-preserved-then-begins_with_blank c = record {
  lexed = λ words lexed. gap_lexed _ words c.loop-at.at 1 (c.loop-at.invariant.lexed words lexed) (subst (IsGapAt 1) c.split_at.ensures.back (c.begins_with_blank.ensures.gap c.if-begins_with_blank.true));
  further = omega (arith, c.loop-at.invariant.further);
}

pub loop-at-smaller : goal.loop-at-smaller
loop-at-smaller c = omega (arith, c.in-Gap.ensures.reads.nonempty)

pub returns-in-Word-clause-next : goal.returns-in-Word-clause-next
returns-in-Word-clause-next c = λ words lexed.
    let here = subst (IsWordAt c.in-Word.kind c.in-Word.len) c.split_at.ensures.back c.in-Word.ensures.reads in
    let text_is = c.split_at-in-Word.ensures.front ∙ ap (take c.in-Word.len) c.split_at.ensures.back in
    word_lexed c.args.text.now words c.loop-at.at c.in-Word.len c.in-Word.kind _ (c.loop-at.invariant.lexed words lexed) here text_is

pub returns-in-Word-clause-further : goal.returns-in-Word-clause-further
returns-in-Word-clause-further c = omega (arith, c.in-Word.ensures.reads.nonempty, c.loop-at.invariant.further)

pub returns-in-OpenComment-clause-next : goal.returns-in-OpenComment-clause-next
returns-in-OpenComment-clause-next c = λ words lexed.
    lexed_to_comment c.args.text.now words c.loop-at.at (c.loop-at.invariant.lexed words lexed) (subst IsOpenComment c.split_at.ensures.back c.in-OpenComment.ensures.reads)

pub returns-in-Stray-clause-next : goal.returns-in-Stray-clause-next
returns-in-Stray-clause-next c = λ words lexed.
    record { within = c.requires.short; leftmost = leftmost_fault IsStray _ words c.loop-at.at (c.loop-at.invariant.lexed words lexed) (subst IsStray c.split_at.ensures.back c.in-Stray.ensures.reads) }

pub returns-in-Glued-clause-next : goal.returns-in-Glued-clause-next
returns-in-Glued-clause-next c = λ words lexed.
    record { within = c.requires.short; leftmost = leftmost_fault IsGlued _ words c.loop-at.at (c.loop-at.invariant.lexed words lexed) (subst IsGlued c.split_at.ensures.back c.in-Glued.ensures.reads) }

pub returns-in-OutOfRange-clause-next : goal.returns-in-OutOfRange-clause-next
returns-in-OutOfRange-clause-next c = λ words lexed.
    record { within = c.requires.short; leftmost = leftmost_fault IsOutOfRange _ words c.loop-at.at (c.loop-at.invariant.lexed words lexed) (subst IsOutOfRange c.split_at.ensures.back c.in-OutOfRange.ensures.reads) }

pub returns-clause-next : goal.returns-clause-next
returns-clause-next c = λ words lexed. lexed_to_end c.args.text.now words c.loop-at.at (c.loop-at.invariant.lexed words lexed) (omega arith)
