-- The readers of words read what is spelled, and nothing else; readers of values that stand in turn.
use Rattle.std.proofs.Common.{◌≡◌, ◌≢◌, ℕ, Bool, true, false, List, [], ◌∷◌, map, IsTrue, refl, ap, ◌∙◌, subst}
use Rattle.std.specs.Prelude.{Option, Some, ◌==◌}
use Rattle.std.proofs.lemmas.Slice.Eq.{bytes_eq-Decides}
use Rattle.std.proofs.lemmas.Bool.{eqb-true, and_from}
use Rattle.std.specs.List.{list_all}
use Rattle.std.specs.Str.{bytes_eq}
use Rattle.pddl_token.specs.declared.token.TokenKind.{TokenKind}
use Rattle.pddl_token.specs.declared.token.TokenKind.TheVariants.{Open, Close, Name, Variable, Keyword, Number, Dash, Equal, Colon, Bracket, Compare, Arithmetic}
use Rattle.pddl_token.specs.Trees.{Tree, leaf, node}
use Rattle.pddl_token.specs.Names.{folded, is_name, name_of}
use Rattle.pddl_token.specs.TreeWords.{IsWord, IsKeyword, IsDash, SpellsName, SpellsVariable, Each}
use Rattle.pddl_items.specs.Inner.TreeReading.{name_by, name_at, variable_name, variable_by, variable_at, word_by, is_word_at, keyword_by, is_keyword_at, dash_by, is_dash, all_of}
use Rattle.pddl_token.proofs.Options.{if_some}
use Rattle.pddl_items.proofs.Fronts.{both_some}

-- A reader answers a value exactly where the relation has one, and then that one.
pub record Reads {A : Type 0} (Spells : A → Tree → Type 0) (read : Tree → Option A) : Type 0 where
  pub sound : (t : Tree) (x : A) → read t ≡ Some x → Spells x t
  pub complete : (t : Tree) (x : A) → Spells x t → read t ≡ Some x

-- ---- bytes

pub same_bytes : (xs ys : List ℕ) → bytes_eq xs ys ≡ true → xs ≡ ys
same_bytes xs ys e = (bytes_eq-Decides xs ys).0 e

pub equal_bytes : (xs ys : List ℕ) → xs ≡ ys → bytes_eq xs ys ≡ true
equal_bytes xs ys e = (bytes_eq-Decides xs ys).1 e

pub other_bytes : (xs ys : List ℕ) → xs ≢ ys → bytes_eq xs ys ≡ false
other_bytes xs ys ne =
    let go : (b : Bool) → bytes_eq xs ys ≡ b → b ≡ false = λ b e. elim b as (λ v. bytes_eq xs ys ≡ v → v ≡ false) [ true ↦ λ h. absurd (ne (same_bytes xs ys h)) | false ↦ λ h. refl ] e in
    go (bytes_eq xs ys) refl

-- ---- names and variables

pub name_of_some : (text name : List ℕ) → name_of text ≡ Some name → IsTrue (is_name name) × (folded text ≡ name)
name_of_some text name e =
    let h = if_some (is_name (folded text)) (Some (folded text)) name e in
    let is : folded text ≡ name = cc (h.1) in
    (subst (λ n. is_name n ≡ true) is h.0, is)

pub name_of_is : (text name : List ℕ) → IsTrue (is_name name) → folded text ≡ name → name_of text ≡ Some name
name_of_is text name good is = rw (is, good) refl

by_name : (kind : TokenKind) (text name : List ℕ) → name_by kind text ≡ Some name → IsTrue (is_name name) × (kind ≡ Name) × (folded text ≡ name)
by_name Name text name e = let h = name_of_some text name e in (h.0, refl, h.1)
by_name Open text name e = absurd (cc)
by_name Close text name e = absurd (cc)
by_name Variable text name e = absurd (cc)
by_name Keyword text name e = absurd (cc)
by_name Number text name e = absurd (cc)
by_name Dash text name e = absurd (cc)
by_name Equal text name e = absurd (cc)
by_name Colon text name e = absurd (cc)
by_name Bracket text name e = absurd (cc)
by_name Compare text name e = absurd (cc)
by_name Arithmetic text name e = absurd (cc)

name_sound : (t : Tree) (name : List ℕ) → name_at t ≡ Some name → SpellsName name t
name_sound (leaf w) name e = let h = by_name w.kind w.text name e in (h.0, (h.1, h.2))
name_sound (node ts) name e = absurd (cc)

name_complete : (t : Tree) (name : List ℕ) → SpellsName name t → name_at t ≡ Some name
name_complete (leaf w) name (good, (kind, is)) = ap (λ k. name_by k w.text) kind ∙ name_of_is w.text name good is
name_complete (node ts) name (good, none) = absurd none

pub name_reads : Reads SpellsName name_at
name_reads = record { sound = name_sound; complete = name_complete }

variable_name_some : (text name : List ℕ) → variable_name text ≡ Some name → (rest : List ℕ) × (text ≡ 63 ∷ rest) × IsTrue (is_name name) × (folded rest ≡ name)
variable_name_some [] name e = absurd (cc)
variable_name_some (b ∷ rest) name e =
    let h = if_some (b == 63) (name_of rest) name e in
    let g = name_of_some rest name h.1 in
    (rest, ap (λ (c : ℕ). c ∷ rest) (eqb-true b 63 h.0), g.0, g.1)

by_variable : (kind : TokenKind) (text name : List ℕ) → variable_by kind text ≡ Some name → (kind ≡ Variable) × (variable_name text ≡ Some name)
by_variable Variable text name e = (refl, e)
by_variable Name text name e = absurd (cc)
by_variable Open text name e = absurd (cc)
by_variable Close text name e = absurd (cc)
by_variable Keyword text name e = absurd (cc)
by_variable Number text name e = absurd (cc)
by_variable Dash text name e = absurd (cc)
by_variable Equal text name e = absurd (cc)
by_variable Colon text name e = absurd (cc)
by_variable Bracket text name e = absurd (cc)
by_variable Compare text name e = absurd (cc)
by_variable Arithmetic text name e = absurd (cc)

variable_sound : (t : Tree) (name : List ℕ) → variable_at t ≡ Some name → SpellsVariable name t
variable_sound (leaf w) name e =
    let h = by_variable w.kind w.text name e in
    let (rest, is, good, spelled) = variable_name_some w.text name h.1 in
    (good, h.0, (rest, is, spelled))
variable_sound (node ts) name e = absurd (cc)

variable_complete : (t : Tree) (name : List ℕ) → SpellsVariable name t → variable_at t ≡ Some name
variable_complete (leaf w) name (good, kind, (rest, is, spelled)) =
    ap (λ k. variable_by k w.text) kind ∙ (ap variable_name is ∙ name_of_is rest name good spelled)
variable_complete (node ts) name none = absurd none

pub variable_reads : Reads SpellsVariable variable_at
variable_reads = record { sound = variable_sound; complete = variable_complete }

-- ---- words of the grammar

by_word : (kind : TokenKind) (text word : List ℕ) → word_by kind text word ≡ true → (kind ≡ Name) × (folded text ≡ word)
by_word Name text word e = (refl, same_bytes (folded text) word e)
by_word Variable text word e = absurd (cc)
by_word Open text word e = absurd (cc)
by_word Close text word e = absurd (cc)
by_word Keyword text word e = absurd (cc)
by_word Number text word e = absurd (cc)
by_word Dash text word e = absurd (cc)
by_word Equal text word e = absurd (cc)
by_word Colon text word e = absurd (cc)
by_word Bracket text word e = absurd (cc)
by_word Compare text word e = absurd (cc)
by_word Arithmetic text word e = absurd (cc)

pub word_sound : (word : List ℕ) (t : Tree) → is_word_at word t ≡ true → IsWord word t
word_sound word (leaf w) e = by_word w.kind w.text word e
word_sound word (node ts) e = absurd (cc)

pub word_complete : (word : List ℕ) (t : Tree) → IsWord word t → is_word_at word t ≡ true
word_complete word (leaf w) (kind, is) = ap (λ k. word_by k w.text word) kind ∙ equal_bytes (folded w.text) word is
word_complete word (node ts) none = absurd none

by_keyword : (kind : TokenKind) (text keyword : List ℕ) → keyword_by kind text keyword ≡ true → (kind ≡ Keyword) × (folded text ≡ keyword)
by_keyword Keyword text keyword e = (refl, same_bytes (folded text) keyword e)
by_keyword Name text keyword e = absurd (cc)
by_keyword Variable text keyword e = absurd (cc)
by_keyword Open text keyword e = absurd (cc)
by_keyword Close text keyword e = absurd (cc)
by_keyword Number text keyword e = absurd (cc)
by_keyword Dash text keyword e = absurd (cc)
by_keyword Equal text keyword e = absurd (cc)
by_keyword Colon text keyword e = absurd (cc)
by_keyword Bracket text keyword e = absurd (cc)
by_keyword Compare text keyword e = absurd (cc)
by_keyword Arithmetic text keyword e = absurd (cc)

pub keyword_sound : (keyword : List ℕ) (t : Tree) → is_keyword_at keyword t ≡ true → IsKeyword keyword t
keyword_sound keyword (leaf w) e = by_keyword w.kind w.text keyword e
keyword_sound keyword (node ts) e = absurd (cc)

pub keyword_complete : (keyword : List ℕ) (t : Tree) → IsKeyword keyword t → is_keyword_at keyword t ≡ true
keyword_complete keyword (leaf w) (kind, is) = ap (λ k. keyword_by k w.text keyword) kind ∙ equal_bytes (folded w.text) keyword is
keyword_complete keyword (node ts) none = absurd none

by_dash : (kind : TokenKind) → dash_by kind ≡ true → kind ≡ Dash
by_dash Dash e = refl
by_dash Name e = absurd (cc)
by_dash Variable e = absurd (cc)
by_dash Open e = absurd (cc)
by_dash Close e = absurd (cc)
by_dash Keyword e = absurd (cc)
by_dash Number e = absurd (cc)
by_dash Equal e = absurd (cc)
by_dash Colon e = absurd (cc)
by_dash Bracket e = absurd (cc)
by_dash Compare e = absurd (cc)
by_dash Arithmetic e = absurd (cc)

pub dash_sound : (t : Tree) → is_dash t ≡ true → IsDash t
dash_sound (leaf w) e = by_dash w.kind e
dash_sound (node ts) e = absurd (cc)

pub dash_complete : (t : Tree) → IsDash t → is_dash t ≡ true
dash_complete (leaf w) kind = ap dash_by kind
dash_complete (node ts) none = absurd none

-- ---- values in turn

-- each value passes a test that all pass that some tree spells
pub each_good : {A : Type 0} (test : A → Bool) (Spells : A → Tree → Type 0) → ((x : A) (t : Tree) → Spells x t → test x ≡ true) → (xs : List A) (ts : List Tree) → Each Spells xs ts → list_all test xs ≡ true
each_good test Spells good [] ts each = refl
each_good test Spells good (x ∷ xs) [] each = absurd each
each_good test Spells good (x ∷ xs) (t ∷ ts) (here, rest) = and_from (test x) (list_all test xs) (good x t here) (each_good test Spells good xs ts rest)

module _ {A : Type 0} (Spells : A → Tree → Type 0) (read : Tree → Option A) (reads : Reads Spells read) where
  pub each_sound : (ts : List Tree) (xs : List A) → all_of (map read ts) ≡ Some xs → Each Spells xs ts
  each_sound [] [] e = tt
  each_sound [] (x ∷ xs) e = absurd (cc)
  each_sound (t ∷ ts) [] e = let h = both_some (read t) (all_of (map read ts)) [] e in let bad = h.4 in absurd (cc)
  each_sound (t ∷ ts) (x ∷ xs) e =
      let h = both_some (read t) (all_of (map read ts)) (x ∷ xs) e in
      let same = h.4 in
      let first : h.0 ≡ x = cc in
      let rest : h.1 ≡ xs = cc in
      (reads.sound t x (h.2 ∙ ap Some first), each_sound ts xs (h.3 ∙ ap Some rest))

  pub each_complete : (ts : List Tree) (xs : List A) → Each Spells xs ts → all_of (map read ts) ≡ Some xs
  each_complete [] [] e = refl
  each_complete [] (x ∷ xs) e = absurd e
  each_complete (t ∷ ts) [] e = absurd e
  each_complete (t ∷ ts) (x ∷ xs) (first, rest) = rw (reads.complete t x first, each_complete ts xs rest) refl
