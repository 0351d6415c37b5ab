-- Flags of `:requirements`.
use Rattle.std.specs.Prelude.{◌≡◌, ℕ, List, ◌++◌, IsTrue, codes}
use Rattle.pddl_token.specs.declared.token.TokenKind.TheVariants.{Keyword}
use Rattle.pddl_token.specs.Trees.{Tree, leaf, node}
use Rattle.pddl_token.specs.Names.{folded, is_name}

-- a keyword, by its name without the colon (Kovacs, `<require-key>`; that any keyword is a flag is own)
abbrev pub IsFlag : List ℕ → Tree → Type 0
IsFlag name (leaf w) = IsTrue (is_name name) × (w.kind ≡ Keyword) × ((text : List ℕ) × (w.text ≡ codes ":" ++ text) × (folded text ≡ name))
IsFlag name (node ts) = ⊥
