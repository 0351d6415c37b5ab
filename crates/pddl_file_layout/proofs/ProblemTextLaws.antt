-- The canonical text of a problem reads back as the problem.
use Rattle.std.proofs.Common.{◌≡◌, ℕ, ◌≤◌, true, List, [], ◌∷◌, ◌++◌, length, map, refl, sym, ap, ◌∙◌, subst, codes, append-nil}
use Rattle.std.specs.Prelude.{nat_le, Option, Some, None}
use Rattle.std.specs.List.{list_all}
use Rattle.pddl_token.specs.Number.{largest}
use Rattle.pddl_token.specs.Spelling.{Word}
use Rattle.pddl_token.specs.Trees.{Tree, Placed, no_trees, tree, trees_of}
use Rattle.pddl_text.specs.Pieces.{pieces_text, tokens_of, AreWritten, opening_word, closing_word, tree_words, trees_words, IsWritable, IsWithin}
use Rattle.pddl_text.specs.Texts.{HasItems, ReadsAs}
use Rattle.pddl_text.proofs.Listed.{reads_back}
use Rattle.pddl_text.proofs.Levels.{levels_as_read}
use Rattle.pddl_token.specs.Names.{is_name}
use Rattle.pddl_formula.specs.Reserved.{is_predicate}
use Rattle.pddl_problem.specs.declared.problem.Direction.{Direction}
use Rattle.pddl_problem.specs.declared.problem.Direction.TheVariants as directions
use Rattle.pddl_problem.specs.Inits.{GroundValue, InitValue, holds, fails, value, MetricValue, direction_word}
use Rattle.pddl_problem.specs.Problems.{ProblemValue}
use Rattle.pddl_problem_reader.specs.ProblemTexts.{SpellsProblem}
use Rattle.pddl_sections.specs.Sections.{AllOf}
use Rattle.pddl_file_layout.specs.FormulaTrees.{name_tree, typed_trees}
use Rattle.pddl_file_layout.specs.DomainLayout.{keyword_tree, flag_tree, section_trees, section_line}
use Rattle.pddl_file_layout.specs.ProblemLayout.{is_fact, is_ground_function, is_init, is_metric, is_problem, ground_tree, init_tree, metric_trees, problem_sections, problem_tree, problem_text}
use Rattle.pddl_file_layout.specs.Inner.DomainPieces.{name_word, section_pieces, end_pieces, problem_pieces}
use Rattle.pddl_file_layout.proofs.FormulaTreeLaws.{and_parts}
use Rattle.pddl_file_layout.proofs.WritableTrees.{all_blank, all_writable, all_append, all_of_each, name_writable, flag_writable, equal_writable, number_writable, predicate_writable, typed_writable, formula_writable, keyword_writable, section_writable, name_formed}
use Rattle.pddl_file_layout.proofs.PiecesOfLines.{map_same, group_text, group_tokens, group_written, section_text, section_tokens, section_written, end_written}
use Rattle.pddl_problem_reader.proofs.ProblemTexts.{one_problem}
use Rattle.pddl_file_layout.proofs.GoodProblems.{problem_good}
use Rattle.pddl_file_layout.proofs.ProblemTreeLaws.{IsGood, good_parts, problem_spelled}

-- ---- bytes and words

problem_bytes : (p : ProblemValue) → pieces_text (problem_pieces p) ≡ problem_text p
problem_bytes p =
    ap (λ (x : List ℕ). codes "(define (problem " ++ (p.name ++ (codes ")\n" ++ x))) (group_text section_pieces section_line section_text (problem_sections p) end_pieces)

problem_words : (p : ProblemValue) → tokens_of (problem_pieces p) ≡ trees_words (tree (problem_tree p) no_trees)
problem_words p =
    let front : List Word → List Word = λ ws. opening_word ∷ name_word (codes "define") ∷ opening_word ∷ name_word (codes "problem") ∷ name_word p.name ∷ closing_word ∷ ws in
    ap front
    (group_tokens section_pieces (λ (t : Tree). t) section_tokens (problem_sections p) end_pieces
    ∙ ap (λ (x : List Word). x ++ closing_word ∷ []) (ap (λ (ts : List Tree). trees_words (trees_of ts)) (map_same (problem_sections p))))
    ∙ sym (append-nil (tree_words (problem_tree p)))

-- ---- they can be written

fact_writable : (f : GroundValue) → is_fact f ≡ true → IsWritable (ground_tree f)
fact_writable f h =
    let p = and_parts (is_predicate f.name) (list_all is_name f.objects) h in
    all_writable (name_tree f.name ∷ map name_tree f.objects) (predicate_writable f.name p.0, all_of_each is_name name_tree name_writable f.objects p.1)

ground_writable : (f : GroundValue) → is_ground_function f ≡ true → IsWritable (ground_tree f)
ground_writable f h =
    let p = and_parts (is_name f.name) (list_all is_name f.objects) h in
    all_writable (name_tree f.name ∷ map name_tree f.objects) (name_writable f.name p.0, all_of_each is_name name_tree name_writable f.objects p.1)

init_writable : (x : InitValue) → is_init x ≡ true → IsWritable (init_tree x)
init_writable (holds f) h = fact_writable f h
init_writable (fails f) h = (name_writable (codes "not") refl, (fact_writable f h, tt))
init_writable (value f n) h =
    let p = and_parts (is_ground_function f) (nat_le n largest) h in (equal_writable, (ground_writable f p.0, (number_writable n p.1, tt)))

direction_writable : (d : Direction) → IsWritable (name_tree (direction_word d))
direction_writable directions.Minimize = name_writable (codes "minimize") refl
direction_writable directions.Maximize = name_writable (codes "maximize") refl

metric_writable : (m : Option MetricValue) → is_metric m ≡ true → AllOf IsWritable (metric_trees m)
metric_writable None h = tt
metric_writable (Some m) h = ((keyword_writable (codes "metric") refl, (direction_writable m.direction, (ground_writable m.function h, tt))), tt)

sections_writable : (p : ProblemValue) → IsGood p → AllOf IsWritable (problem_sections p)
sections_writable p good = (
  (keyword_writable (codes "domain") refl, (name_writable p.domain good.of_domain, tt)),
  all_append (section_trees (codes ":requirements") (map flag_tree p.requirements)) _
      (section_writable (codes "requirements") (map flag_tree p.requirements) refl (all_of_each is_name flag_tree flag_writable p.requirements good.flags))
      (all_append (section_trees (codes ":objects") (typed_trees name_tree p.objects)) _
      (section_writable (codes "objects") (typed_trees name_tree p.objects) refl (typed_writable name_tree name_writable p.objects good.objects)) (
        all_writable (keyword_tree (codes ":init") ∷ map init_tree p.init) (keyword_writable (codes "init") refl, all_of_each is_init init_tree init_writable p.init good.inits),
        (
          (keyword_writable (codes "goal") refl, (formula_writable p.goal good.goal, tt)),
          metric_writable p.metric good.metric,
        ),
      )),
)

problem_written : (p : ProblemValue) → IsGood p → AreWritten (problem_pieces p) []
problem_written p good = (
  (refl, λ bad. absurd (cc (bad))),
  tt,
  (
    name_formed (codes "define") refl,
    refl,
    (
      all_blank (codes " ") refl,
      (
        (refl, λ bad. absurd (cc (bad))),
        tt,
        (
          name_formed (codes "problem") refl,
          refl,
          (
            all_blank (codes " ") refl,
            (
              name_formed p.name good.named,
              refl,
              (
                (refl, λ bad. absurd (cc (bad))),
                tt,
                (
                  all_blank (codes "\n") refl,
                  group_written section_pieces IsWritable section_written (problem_sections p) end_pieces [] (sections_writable p good) (end_written []),
                ),
              ),
            ),
          ),
        ),
      ),
    ),
  ),
)

problem_tree_writable : (p : ProblemValue) → IsGood p → IsWritable (problem_tree p)
problem_tree_writable p good = (
  name_writable (codes "define") refl,
  (
    (name_writable (codes "problem") refl, (name_writable p.name good.named, tt)),
    all_writable (problem_sections p) (sections_writable p good),
  ),
)

-- ---- the law

pub problem_reads_back : (p : ProblemValue) → is_problem p ≡ true → IsWithin 128 (problem_tree p) → length (problem_text p) ≤ 16777216 → SpellsProblem p (problem_text p)
problem_reads_back p h within short =
    let good = good_parts p h in
    let text_is = problem_bytes p in
    let reads : ReadsAs (pieces_text (problem_pieces p)) (problem_tree p ∷ []) =
    reads_back (problem_pieces p) (tree (problem_tree p) no_trees) (problem_written p good) (problem_words p) (problem_tree_writable p good, tt) (within, tt)
    (subst (λ t. length t ≤ 16777216) (sym text_is) short) in
    record {
      items = reads.items;
      has = subst (λ t. HasItems t reads.items) text_is reads.has;
      problem_is = problem_spelled p reads.items good reads.trees_are;
    }

-- a tree whose text has items is within the limit of levels
pub problem_levels : (p : ProblemValue) (items : List Placed) → is_problem p ≡ true → HasItems (problem_text p) items → IsWithin 128 (problem_tree p)
problem_levels p items h has =
    let good = good_parts p h in
    (levels_as_read (problem_pieces p) (tree (problem_tree p) no_trees) items (problem_written p good) (problem_words p) (problem_tree_writable p good, tt) (subst (λ t. HasItems t items) (sym (problem_bytes p)) has)).0

pub one_canonical_problem : (p q : ProblemValue) (text more : List ℕ) → SpellsProblem p text → SpellsProblem q more → IsWithin 128 (problem_tree p) → IsWithin 128 (problem_tree q)
    → length (problem_text p) ≤ 16777216 → length (problem_text q) ≤ 16777216 → problem_text p ≡ problem_text q → p ≡ q
one_canonical_problem p q text more a b within inside short brief same =
    one_problem (problem_text q) p q
    (subst (SpellsProblem p) same (problem_reads_back p (problem_good p a.items a.problem_is) within short))
    (problem_reads_back q (problem_good q b.items b.problem_is) inside brief)
