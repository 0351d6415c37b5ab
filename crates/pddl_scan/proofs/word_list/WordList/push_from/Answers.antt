use Rattle.std.proofs.Common.{arith}
use Rattle.pddl_scan.proofs.WordsHeld.{words_on, words_passed}
use Rattle.pddl_scan.proofs.word_list.WordList.push_from.Goals as goal

pub loop-number-preserved : goal.loop-number-preserved
loop-number-preserved g c =
    let l = c.loop-number in
    record {
      in_range = omega (arith, c.loop-number-test.true, c.len.ensures);
      so_far = words_on c.args.words.now l.self c.push.new.self _ l.number _ (omega (arith, c.loop-number-test.true, c.len.ensures)) c.get.ensures.word c.in_ok-push.ensures l.invariant.so_far;
    }

pub returns : goal.returns
returns g c = words_passed c.args.words.now c.loop-number.self _ c.loop-number.number (omega (arith, c.loop-number-test.false, c.len.ensures)) c.loop-number.invariant.so_far
