use Rattle.std.proofs.Common.{arith, map, ap, ◌∙◌, ◌≡◌, ◌++◌, ◌∷◌, []}
use Rattle.std.proofs.lemmas.List.{map_push}
use Rattle.pddl_token.specs.Spelling.{view}
use Rattle.pddl_scan.specs.InPieces.{word_view}
use Rattle.pddl_scan.proofs.WordsHeld.{words_on}
use Rattle.pddl_scan.proofs.word_list.WordList.to_words.Goals as goal

pub loop-number-preserved : goal.loop-number-preserved
loop-number-preserved g c =
    let l = c.loop-number in
    let new : map word_view c.push.new.self.items ≡ map word_view l.words.items ++ view c.get.result ∷ [] =
    ap (map word_view) c.in_ok-push.ensures.items ∙ map_push word_view l.words.items c.in_ok-owned.field-0 ∙ ap (λ w. map word_view l.words.items ++ w ∷ []) c.in_ok-owned.ensures in
    record {
      in_range = omega (arith, c.loop-number-test.true, c.len.ensures);
      so_far = words_on c.args.self.now (map word_view l.words.items) (map word_view c.push.new.self.items) _ l.number (view c.get.result) (omega (arith, c.loop-number-test.true, c.len.ensures)) c.get.ensures.word new l.invariant.so_far;
    }
