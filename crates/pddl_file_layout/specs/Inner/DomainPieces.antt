-- The canonical texts of domains and problems as words and blanks. No public contract names these.
use Rattle.std.specs.Prelude.{ℕ, List, [], ◌∷◌, ◌++◌, codes}
use Rattle.std.specs.List.{flat_map}
use Rattle.pddl_token.specs.declared.token.TokenKind.TheVariants.{Name, Keyword}
use Rattle.pddl_text.specs.Pieces.{Piece, token, blanks, opening_word, closing_word, tree_pieces}
use Rattle.pddl_token.specs.Spelling.{Word}
use Rattle.pddl_token.specs.Trees.{Tree}
use Rattle.pddl_domain.specs.Actions.{ActionValue}
use Rattle.pddl_domain.specs.Domains.{DomainValue}
use Rattle.pddl_file_layout.specs.FormulaTrees.{variables_tree, formula_tree, effect_tree}
use Rattle.pddl_problem.specs.Problems.{ProblemValue}
use Rattle.pddl_file_layout.specs.DomainLayout.{declaration_trees}
use Rattle.pddl_file_layout.specs.ProblemLayout.{problem_sections}

abbrev pub name_word : List ℕ → Word
name_word n = record { kind = Name; text = n }

abbrev pub keyword_word : List ℕ → Word
keyword_word keyword = record { kind = Keyword; text = keyword }

-- a section on a line of its own
abbrev pub section_pieces : Tree → List Piece
section_pieces t = blanks (codes "  ") ∷ (tree_pieces t ++ blanks (codes "\n") ∷ [])

-- an action on four lines
abbrev pub action_pieces : ActionValue → List Piece
action_pieces a =
    blanks (codes "  ") ∷ token opening_word ∷ token (keyword_word (codes ":action")) ∷ blanks (codes " ") ∷ token (name_word a.name)
    ∷ blanks (codes "\n    ") ∷ token (keyword_word (codes ":parameters")) ∷ blanks (codes " ") ∷ (tree_pieces (variables_tree a.parameters)
    ++ blanks (codes "\n    ") ∷ token (keyword_word (codes ":precondition")) ∷ blanks (codes " ") ∷ (tree_pieces (formula_tree a.precondition)
    ++ blanks (codes "\n    ") ∷ token (keyword_word (codes ":effect")) ∷ blanks (codes " ") ∷ (tree_pieces (effect_tree a.effect)
    ++ token closing_word ∷ blanks (codes "\n") ∷ [])))

-- what opens a file of this kind and name
abbrev pub head_pieces : List ℕ → List ℕ → List Piece → List Piece
head_pieces kind name rest =
    token opening_word ∷ token (name_word (codes "define")) ∷ blanks (codes " ") ∷ token opening_word ∷ token (name_word kind) ∷ blanks (codes " ")
    ∷ token (name_word name) ∷ token closing_word ∷ blanks (codes "\n") ∷ rest

-- what closes a file
abbrev pub end_pieces : List Piece
end_pieces = token closing_word ∷ blanks (codes "\n") ∷ []

abbrev pub domain_pieces : DomainValue → List Piece
domain_pieces d = head_pieces (codes "domain") d.name (flat_map section_pieces (declaration_trees d) ++ (flat_map action_pieces d.actions ++ end_pieces))

abbrev pub problem_pieces : ProblemValue → List Piece
problem_pieces p = head_pieces (codes "problem") p.name (flat_map section_pieces (problem_sections p) ++ end_pieces)
