use Rattle.std.proofs.Common.{arith, map, ap, ◌∙◌}
use Rattle.std.proofs.lemmas.List.{map_push}
use Rattle.pddl_token.specs.Spelling.{view}
use Rattle.pddl_scan.proofs.WordsHeld.{words_on}
use Rattle.pddl_scan.proofs.word_list.WordList.tokens.Goals as goal

pub loop-number-preserved : goal.loop-number-preserved
loop-number-preserved g c =
    let l = c.loop-number in
    record {
      in_range = omega (arith, c.loop-number-test.true, c.len.ensures);
      so_far = words_on c.args.self.now (map view l.tokens.items) (map view c.push.new.self.items) _ l.number (view c.get.result) (omega (arith, c.loop-number-test.true, c.len.ensures)) c.get.ensures.word
          (ap (map view) c.in_ok-push.ensures.items ∙ map_push view l.tokens.items c.get.result) l.invariant.so_far;
    }
