use Rattle.std.proofs.Common.{◌<◌, length, take, subst, arith}
use Rattle.std.proofs.lemmas.List.{length-take-le}
use Rattle.pddl_token.specs.Spelling.{view}
use Rattle.pddl_step_reader.specs.Inner.StepWords.{ReadsWords}
use Rattle.pddl_step_reader.proofs.StepsRead.{ended_less, next_word}
use Rattle.pddl_step_reader.proofs.plan_words.read_words.Goals as goal

pub read_next-requires : goal.read_next-requires
read_next-requires g c = ended_less c.loop-number.reach.ended c.loop-number.number c.loop-number.invariant.ended

pub loop-number-preserved : goal.loop-number-preserved
loop-number-preserved g c =
    let l = c.loop-number in
    let words = c.args.words.now in
    let lt : l.number < length words = omega (arith, c.loop-number-test.true, c.len.ensures) in
    record {
      in_range = omega (arith, lt);
      ended = c.in_ok-read_next.ensures.in_range;
      reads = λ done kept reads. subst (ReadsWords c.read_next.new.reach.ended c.read_next.new.reach.place c.read_next.new.plan done kept) (next_word words l.number (view c.get.result) lt c.get.ensures.word)
          (c.in_ok-read_next.ensures.reads done kept (take l.number words) (omega (arith, lt, length-take-le l.number words (omega (arith, lt)))) (l.invariant.reads done kept reads));
    }
