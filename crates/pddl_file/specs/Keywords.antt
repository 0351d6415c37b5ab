-- Keywords of sections (Kovacs, BNF definition of PDDL 3.1).
use Rattle.std.specs.Prelude.{◌≡◌, ℕ, List, ◌∷◌, codes}
use Rattle.pddl_token.specs.Trees.{Tree}
use Rattle.pddl_token.specs.TreeWords.{list, IsKeyword}
use Rattle.pddl_file.specs.declared.keyword.SectionKeyword.{SectionKeyword}
use Rattle.pddl_file.specs.declared.keyword.SectionKeyword.TheVariants as keys

-- the keyword's text, in lower case
abbrev pub key_text : SectionKeyword → List ℕ
key_text keys.Requirements = codes ":requirements"
key_text keys.Types = codes ":types"
key_text keys.Constants = codes ":constants"
key_text keys.Predicates = codes ":predicates"
key_text keys.Functions = codes ":functions"
key_text keys.Action = codes ":action"
key_text keys.Domain = codes ":domain"
key_text keys.Objects = codes ":objects"
key_text keys.Init = codes ":init"
key_text keys.Goal = codes ":goal"
key_text keys.Metric = codes ":metric"

-- a list of the keyword and these
abbrev pub IsSection : SectionKeyword → List Tree → Tree → Type 0
IsSection key ts t = (head : Tree) × (t ≡ list (head ∷ ts)) × IsKeyword (key_text key) head

-- a list that begins with the keyword
abbrev pub IsHeaded : SectionKeyword → Tree → Type 0
IsHeaded key t = (ts : List Tree) × IsSection key ts t

-- a keyword of sections of which each stands at most once: each but `:action` (own)
abbrev pub IsSingle : SectionKeyword → Type 0
IsSingle keys.Action = ⊥
IsSingle key = Unit {0}
