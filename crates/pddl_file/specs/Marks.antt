-- Lists that are refused by name, where their section spells nothing: features of PDDL that are left out. Own.
use Rattle.std.specs.Prelude.{◌≡◌, ℕ, List, ◌∷◌, codes}
use Rattle.pddl_token.specs.declared.token.TokenKind.TheVariants.{Number}
use Rattle.pddl_token.specs.Trees.{Tree, leaf, node}
use Rattle.pddl_token.specs.Names.{folded}
use Rattle.pddl_token.specs.TreeWords.{list, IsWord}
use Rattle.pddl_effect.specs.Effects.{AmountValue, IsIncrease}
use Rattle.pddl_file.specs.Keywords.{IsHeaded}
use Rattle.pddl_file.specs.declared.keyword.SectionKeyword.TheVariants as keys
use Rattle.pddl_file.specs.declared.mark.Mark.{Mark}
use Rattle.pddl_file.specs.declared.mark.Mark.TheVariants as marks

-- the word of a mark, in lower case, as it is printed
abbrev pub mark_word : Mark → List ℕ
mark_word marks.DurativeAction = codes ":durative-action"
mark_word marks.Derived = codes ":derived"
mark_word marks.Constraints = codes ":constraints"
mark_word marks.Length = codes ":length"
mark_word marks.Preference = codes "preference"
mark_word marks.Less = codes "<"
mark_word marks.Greater = codes ">"
mark_word marks.LessEqual = codes "<="
mark_word marks.GreaterEqual = codes ">="
mark_word marks.Plus = codes "+"
mark_word marks.Times = codes "*"
mark_word marks.Divide = codes "/"
mark_word marks.Minus = codes "-"
mark_word marks.Assign = codes "assign"
mark_word marks.Decrease = codes "decrease"
mark_word marks.ScaleUp = codes "scale-up"
mark_word marks.ScaleDown = codes "scale-down"
mark_word marks.Increase = codes "increase"
mark_word marks.Either = codes "either"
mark_word marks.At = codes "at"

-- a word of whatever kind that in lower case is this text
abbrev pub IsText : List ℕ → Tree → Type 0
IsText text (leaf w) = folded w.text ≡ text
IsText text (node ts) = ⊥

-- a number
abbrev pub IsNumberWord : Tree → Type 0
IsNumberWord (leaf w) = w.kind ≡ Number
IsNumberWord (node ts) = ⊥

-- a list whose first item is this
abbrev pub BeginsWith : (Tree → Type 0) → Tree → Type 0
BeginsWith IsHead t = (head : Tree) × (ts : List Tree) × (t ≡ list (head ∷ ts)) × IsHead head

-- In a section, the list is refused by the word: where it begins with it; by `increase` only where it is no increase of the
-- total cost, by `either` only in `:types`, by `at` only directly before a number.
abbrev pub IsMarked : Tree → Mark → Tree → Type 0
IsMarked section marks.Increase t = BeginsWith (IsWord (codes "increase")) t × ((a : AmountValue) → IsIncrease a t → ⊥)
IsMarked section marks.Either t = BeginsWith (IsWord (codes "either")) t × IsHeaded keys.Types section
IsMarked section marks.At t = (head time : Tree) × (ts : List Tree) × (t ≡ list (head ∷ time ∷ ts)) × IsWord (codes "at") head × IsNumberWord time
IsMarked section mark t = BeginsWith (IsText (mark_word mark)) t
