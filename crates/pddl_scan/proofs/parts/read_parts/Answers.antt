use Rattle.std.proofs.Common.{◌≡◌, ◌∙◌, ap, subst, drop, take, arith, length-drop, List, ℕ}
use Rattle.pddl_scan.specs.declared.next.Next.{Next}
use Rattle.pddl_scan.specs.declared.next.Next.TheVariants as next
use Rattle.pddl_scan.specs.Inner.Parts.{Settles, ReadsOn}
use Rattle.pddl_scan.specs.Inner.Reading.{Reads}
use Rattle.pddl_scan.proofs.PartsRead.{IsAhead, since_gap, since_word_as, since_start, stops_at_end, stops_at_comment, stops_at_stray, stops_at_glued, stops_at_range}
use Rattle.pddl_scan.proofs.parts.read_parts.Goals as goal

ahead_of : (found : Next) (rest text : List ℕ) → rest ≡ text → Reads found rest → ((more : List ℕ) → Settles rest more → ReadsOn found rest more) → IsAhead found text
ahead_of found rest text same reads ahead = subst (IsAhead found) same (record { reads = reads; ahead = ahead })

pub loop-at-init : goal.loop-at-init
loop-at-init g c = record { in_range = omega arith; since = since_start _ _ _ }

pub loop-at-preserved-in-Gap : goal.loop-at-preserved-in-Gap
loop-at-preserved-in-Gap g c =
    let found : IsAhead (next.Gap c.in-Gap.len) (drop c.loop-at.at c.args.text.now) = ahead_of (next.Gap c.in-Gap.len) _ _ c.split_at.ensures.back c.in-Gap.ensures.reads c.in-Gap.ensures.ahead in
    record {
      in_range = omega (arith, found.reads.in_range, length-drop c.loop-at.at c.args.text.now, c.loop-at-test.true);
      since = since_gap _ c.loop-at.at c.in-Gap.len _ _ _ c.loop-at.invariant.since c.loop-at-test.true found;
    }

pub loop-at-preserved : goal.loop-at-preserved
loop-at-preserved g c =
    let found : IsAhead (next.Word c.in-Word.kind c.in-Word.len) (drop c.loop-at.at c.args.text.now) = ahead_of (next.Word c.in-Word.kind c.in-Word.len) _ _ c.split_at.ensures.back c.in-Word.ensures.reads c.in-Word.ensures.ahead in
    let text_is = c.split_at-in-Word.ensures.front ∙ ap (take c.in-Word.len) c.split_at.ensures.back in
    record {
      in_range = omega (arith, found.reads.in_range, length-drop c.loop-at.at c.args.text.now, c.loop-at-test.true);
      since = since_word_as c.args.start c.loop-at.at c.in-Word.len c.in-Word.kind c.args.text.now _ _ _ _ c.loop-at.invariant.since c.loop-at-test.true found text_is c.in_ok-add_word-in-Word.ensures.pushed;
    }

pub returns-in-OpenComment-clause-read : goal.returns-in-OpenComment-clause-read
returns-in-OpenComment-clause-read g c = (stops_at_comment _ c.loop-at.at _ _ _ c.loop-at.invariant.since c.loop-at-test.true (ahead_of next.OpenComment _ _ c.split_at.ensures.back c.in-OpenComment.ensures.reads c.in-OpenComment.ensures.ahead)).on

pub returns-in-Stray-clause-read : goal.returns-in-Stray-clause-read
returns-in-Stray-clause-read g c = (stops_at_stray _ c.loop-at.at _ _ _ c.loop-at.invariant.since c.loop-at-test.true (ahead_of next.Stray _ _ c.split_at.ensures.back c.in-Stray.ensures.reads c.in-Stray.ensures.ahead)).on

pub returns-in-Glued-clause-read : goal.returns-in-Glued-clause-read
returns-in-Glued-clause-read g c = (stops_at_glued _ c.loop-at.at _ _ _ c.loop-at.invariant.since c.loop-at-test.true (ahead_of next.Glued _ _ c.split_at.ensures.back c.in-Glued.ensures.reads c.in-Glued.ensures.ahead)).on

pub returns-in-OutOfRange-clause-read : goal.returns-in-OutOfRange-clause-read
returns-in-OutOfRange-clause-read g c = (stops_at_range _ c.loop-at.at _ _ _ c.loop-at.invariant.since c.loop-at-test.true (ahead_of next.OutOfRange _ _ c.split_at.ensures.back c.in-OutOfRange.ensures.reads c.in-OutOfRange.ensures.ahead)).on

pub returns-clause-read : goal.returns-clause-read
returns-clause-read g c = (stops_at_end c.args.start c.loop-at.at c.args.text.now _ _ c.loop-at.invariant.since c.loop-at.invariant.in_range c.loop-at-test.false).on
