use Rattle.std.proofs.Common.{ap, arith, ◌∙◌, ◌++◌, ◌∷◌, []}
use Rattle.pddl_token.specs.Spelling.{view}
use Rattle.pddl_scan.proofs.WordsHeld.{word_pushed}
use Rattle.pddl_scan.proofs.word_list.WordList.push.Goals as goal

pub returns : goal.returns
returns g c =
    let word = c.args.word.now in
    word_pushed c.self.inside.text.items c.extend_from_slice.new.self.items word.text.now c.self.inside.marks.items c.push.new.self.items word.kind c.len-begins.result word.span c.self.invariant (omega (arith, c.len-begins.ensures, c.self.inside.text.ok)) c.in_ok-extend_from_slice.ensures.items
    c.requires c.in_ok-push.ensures.items
    ∙ ap (λ ws. ws ++ view word ∷ []) c.self.view_is
