use Rattle.std.proofs.Common.{[], ◌∷◌, ◌++◌, ap, ◌∙◌, sym}
use Rattle.std.specs.Cmp.Lexicographic.{bytes_decides}
use Rattle.std.proofs.lemmas.List.{append_assoc}
use Rattle.pddl_token.specs.Names.{folded}
use Rattle.pddl_problem_reader.proofs.OnePass.{of_ok}
use Rattle.pddl_problem_reader.proofs.one_pass.section_behind.Goals as goal

pub returns-then-is_word-clause-section : goal.returns-then-is_word-clause-section
returns-then-is_word-clause-section c = λ words lexed.
    let (opening, is_open, _, first) = of_ok _ c.word_behind.result c.in_ok-ok.field-0 c.in_ok-ok.ensures.value (c.word_behind.ensures.word words lexed) in
    let (keyword, is_keyword, text_is, second) = of_ok _ c.word_behind-2.result c.in_ok-found.found c.in_ok-found.ensures.value (c.word_behind-2.ensures.word (words ++ opening ∷ []) first) in
    record {
      opening = opening;
      keyword = keyword;
      is_open = is_open;
      is_keyword = is_keyword;
      is_name = ap folded text_is ∙ (bytes_decides (folded c.in_ok-found.found.now) c.args.keyword.now).0 (sym c.is_word.ensures ∙ c.if-is_word.true);
      lexed = rw (← append_assoc words (opening ∷ []) (keyword ∷ [])) second;
    }
