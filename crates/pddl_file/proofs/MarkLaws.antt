-- A list is found to be refused by name exactly where it is.
use Rattle.std.proofs.Common.{◌≡◌, ℕ, Bool, true, List, [], ◌∷◌, refl, sym, ap, ◌∙◌, subst, codes, inl, inr}
use Rattle.std.specs.Prelude.{Option, Some, None, ◌⊎◌, if◌then◌else◌}
use Rattle.std.specs.Str.{bytes_eq}
use Rattle.pddl_token.specs.declared.token.TokenKind.{TokenKind}
use Rattle.pddl_token.specs.declared.token.TokenKind.TheVariants.{Open, Close, Name, Variable, Keyword, Number, Dash, Equal, Colon, Bracket, Compare, Arithmetic}
use Rattle.pddl_token.specs.Spelling.{Word}
use Rattle.pddl_token.specs.Trees.{Tree, leaf, node, list_of}
use Rattle.pddl_token.specs.Names.{folded}
use Rattle.pddl_token.specs.TreeWords.{list, IsWord}
use Rattle.pddl_token.proofs.Options.{if_some, test_cases}
use Rattle.pddl_items.proofs.TreeLists.{list_of_trees_of, trees_of_list_of}
use Rattle.pddl_items.proofs.Readers.{Reads, same_bytes}
use Rattle.pddl_effect.specs.Effects.{AmountValue, IsIncrease}
use Rattle.pddl_effect_reader.specs.Inner.EffectReading.{increase_of}
use Rattle.pddl_effect_reader.proofs.AmountLaws.{increase_sound, increase_complete}
use Rattle.pddl_file.specs.Keywords.{IsHeaded}
use Rattle.pddl_file.specs.Marks.{IsText, IsNumberWord, BeginsWith, IsMarked}
use Rattle.pddl_file.specs.Inner.WordReading.{key_at, types_key, plain_mark, number_by, is_number_first, unless_increase, name_mark, name_mark_by, or_else, head_mark, list_mark, mark_in, mark_at}
use Rattle.pddl_file.specs.declared.keyword.SectionKeyword.{SectionKeyword}
use Rattle.pddl_file.specs.declared.keyword.SectionKeyword.TheVariants as keys
use Rattle.pddl_file.specs.declared.mark.Mark.{Mark}
use Rattle.pddl_file.specs.declared.mark.Mark.TheVariants as marks
use Rattle.pddl_file.proofs.KeywordLaws.{list_inj, key_reads}

-- ---- in `:types`

types_key_is : (o : Option SectionKeyword) → types_key o ≡ true → o ≡ Some keys.Types
types_key_is None e = absurd (cc)
types_key_is (Some keys.Types) e = refl
types_key_is (Some keys.Requirements) e = absurd (cc)
types_key_is (Some keys.Constants) e = absurd (cc)
types_key_is (Some keys.Predicates) e = absurd (cc)
types_key_is (Some keys.Functions) e = absurd (cc)
types_key_is (Some keys.Action) e = absurd (cc)
types_key_is (Some keys.Domain) e = absurd (cc)
types_key_is (Some keys.Objects) e = absurd (cc)
types_key_is (Some keys.Init) e = absurd (cc)
types_key_is (Some keys.Goal) e = absurd (cc)
types_key_is (Some keys.Metric) e = absurd (cc)

in_types_sound : (section : Tree) → types_key (key_at section) ≡ true → IsHeaded keys.Types section
in_types_sound section e = key_reads.sound section keys.Types (types_key_is (key_at section) e)

in_types_complete : (section : Tree) → IsHeaded keys.Types section → types_key (key_at section) ≡ true
in_types_complete section headed = ap types_key (key_reads.complete section keys.Types headed)

-- ---- numbers

number_by_is : (kind : TokenKind) → number_by kind ≡ true → kind ≡ Number
number_by_is Number e = refl
number_by_is Open e = absurd (cc)
number_by_is Close e = absurd (cc)
number_by_is Name e = absurd (cc)
number_by_is Variable e = absurd (cc)
number_by_is Keyword e = absurd (cc)
number_by_is Dash e = absurd (cc)
number_by_is Equal e = absurd (cc)
number_by_is Colon e = absurd (cc)
number_by_is Bracket e = absurd (cc)
number_by_is Compare e = absurd (cc)
number_by_is Arithmetic e = absurd (cc)

number_first_sound : (ts : List Tree) → is_number_first ts ≡ true → (time : Tree) × (rest : List Tree) × (ts ≡ time ∷ rest) × IsNumberWord time
number_first_sound [] e = absurd (cc)
number_first_sound (leaf w ∷ ts) e = (leaf w, ts, refl, number_by_is w.kind e)
number_first_sound (node us ∷ ts) e = absurd (cc)

number_first_complete : (time : Tree) (ts : List Tree) → IsNumberWord time → is_number_first (time ∷ ts) ≡ true
number_first_complete (leaf w) ts kind = ap number_by kind
number_first_complete (node us) ts none = absurd none

-- ---- increases

unless_some : (o : Option AmountValue) (m : Mark) → unless_increase o ≡ Some m → (o ≡ None) × (marks.Increase ≡ m)
unless_some None m e = (refl, cc)
unless_some (Some a) m e = absurd (cc)

none_unless : (o : Option AmountValue) → ((a : AmountValue) → o ≡ Some a → ⊥) → unless_increase o ≡ Some marks.Increase
none_unless None h = refl
none_unless (Some a) h = absurd (h a refl)

pub increase_is : (head : Tree) (ts : List Tree) (a : AmountValue) → IsIncrease a (list (head ∷ ts)) → increase_of ts ≡ Some a
increase_is head ts a (first, cost, x, is, word, total, amount) =
    let same : head ∷ ts ≡ first ∷ cost ∷ x ∷ [] = list_inj (head ∷ ts) (first ∷ cost ∷ x ∷ []) is in
    let rest : ts ≡ cost ∷ x ∷ [] = cc in
    ap increase_of rest ∙ increase_complete cost x a total amount

-- ---- soundness

plain_sound : (section : Tree) (w : Word) (ts : List Tree) (m : Mark) → plain_mark (folded w.text) ≡ Some m → IsMarked section m (list (leaf w ∷ ts))
plain_sound section w ts m e =
    let P : Mark → Type 0 = λ k. IsMarked section k (list (leaf w ∷ ts)) in
    elim (test_cases (bytes_eq (folded w.text) (codes ":durative-action")) _ _ _ e) [
      | inl h ↦ let is : marks.DurativeAction ≡ m = cc (h.1) in subst P is (leaf w, ts, refl, same_bytes (folded w.text) (codes ":durative-action") h.0)
      | inr h0 ↦
          elim (test_cases (bytes_eq (folded w.text) (codes ":derived")) _ _ _ h0.1) [
            | inl h ↦ let is : marks.Derived ≡ m = cc (h.1) in subst P is (leaf w, ts, refl, same_bytes (folded w.text) (codes ":derived") h.0)
            | inr h1 ↦
                elim (test_cases (bytes_eq (folded w.text) (codes ":constraints")) _ _ _ h1.1) [
                  | inl h ↦ let is : marks.Constraints ≡ m = cc (h.1) in subst P is (leaf w, ts, refl, same_bytes (folded w.text) (codes ":constraints") h.0)
                  | inr h2 ↦
                      elim (test_cases (bytes_eq (folded w.text) (codes ":length")) _ _ _ h2.1) [
                        | inl h ↦ let is : marks.Length ≡ m = cc (h.1) in subst P is (leaf w, ts, refl, same_bytes (folded w.text) (codes ":length") h.0)
                        | inr h3 ↦
                            elim (test_cases (bytes_eq (folded w.text) (codes "preference")) _ _ _ h3.1) [
                              | inl h ↦ let is : marks.Preference ≡ m = cc (h.1) in subst P is (leaf w, ts, refl, same_bytes (folded w.text) (codes "preference") h.0)
                              | inr h4 ↦
                                  elim (test_cases (bytes_eq (folded w.text) (codes "<")) _ _ _ h4.1) [
                                    | inl h ↦ let is : marks.Less ≡ m = cc (h.1) in subst P is (leaf w, ts, refl, same_bytes (folded w.text) (codes "<") h.0)
                                    | inr h5 ↦
                                        elim (test_cases (bytes_eq (folded w.text) (codes ">")) _ _ _ h5.1) [
                                          | inl h ↦ let is : marks.Greater ≡ m = cc (h.1) in subst P is (leaf w, ts, refl, same_bytes (folded w.text) (codes ">") h.0)
                                          | inr h6 ↦
                                              elim (test_cases (bytes_eq (folded w.text) (codes "<=")) _ _ _ h6.1) [
                                                | inl h ↦ let is : marks.LessEqual ≡ m = cc (h.1) in subst P is (leaf w, ts, refl, same_bytes (folded w.text) (codes "<=") h.0)
                                                | inr h7 ↦
                                                    elim (test_cases (bytes_eq (folded w.text) (codes ">=")) _ _ _ h7.1) [
                                                      | inl h ↦ let is : marks.GreaterEqual ≡ m = cc (h.1) in subst P is (leaf w, ts, refl, same_bytes (folded w.text) (codes ">=") h.0)
                                                      | inr h8 ↦
                                                          elim (test_cases (bytes_eq (folded w.text) (codes "+")) _ _ _ h8.1) [
                                                            | inl h ↦ let is : marks.Plus ≡ m = cc (h.1) in subst P is (leaf w, ts, refl, same_bytes (folded w.text) (codes "+") h.0)
                                                            | inr h9 ↦
                                                                elim (test_cases (bytes_eq (folded w.text) (codes "*")) _ _ _ h9.1) [
                                                                  | inl h ↦ let is : marks.Times ≡ m = cc (h.1) in subst P is (leaf w, ts, refl, same_bytes (folded w.text) (codes "*") h.0)
                                                                  | inr h10 ↦
                                                                      elim (test_cases (bytes_eq (folded w.text) (codes "/")) _ _ _ h10.1) [
                                                                        | inl h ↦ let is : marks.Divide ≡ m = cc (h.1) in subst P is (leaf w, ts, refl, same_bytes (folded w.text) (codes "/") h.0)
                                                                        | inr h11 ↦
                                                                            elim (test_cases (bytes_eq (folded w.text) (codes "-")) _ _ _ h11.1) [
                                                                              | inl h ↦ let is : marks.Minus ≡ m = cc (h.1) in subst P is (leaf w, ts, refl, same_bytes (folded w.text) (codes "-") h.0)
                                                                              | inr h12 ↦
                                                                                  elim (test_cases (bytes_eq (folded w.text) (codes "assign")) _ _ _ h12.1) [
                                                                                    | inl h ↦ let is : marks.Assign ≡ m = cc (h.1) in subst P is (leaf w, ts, refl, same_bytes (folded w.text) (codes "assign") h.0)
                                                                                    | inr h13 ↦
                                                                                        elim (test_cases (bytes_eq (folded w.text) (codes "decrease")) _ _ _ h13.1) [
                                                                                          | inl h ↦ let is : marks.Decrease ≡ m = cc (h.1) in subst P is (leaf w, ts, refl, same_bytes (folded w.text) (codes "decrease") h.0)
                                                                                          | inr h14 ↦
                                                                                              elim (test_cases (bytes_eq (folded w.text) (codes "scale-up")) _ _ _ h14.1) [
                                                                                                | inl h ↦ let is : marks.ScaleUp ≡ m = cc (h.1) in subst P is (leaf w, ts, refl, same_bytes (folded w.text) (codes "scale-up") h.0)
                                                                                                | inr h15 ↦
                                                                                                    elim (test_cases (bytes_eq (folded w.text) (codes "scale-down")) _ _ _ h15.1) [
                                                                                                      | inl h ↦ let is : marks.ScaleDown ≡ m = cc (h.1) in subst P is (leaf w, ts, refl, same_bytes (folded w.text) (codes "scale-down") h.0)
                                                                                                      | inr h16 ↦
                                                                                                          absurd (cc (h16.1))
                                                                                                    ]
                                                                                              ]
                                                                                        ]
                                                                                  ]
                                                                            ]
                                                                      ]
                                                                ]
                                                          ]
                                                    ]
                                              ]
                                        ]
                                  ]
                            ]
                      ]
                ]
          ]
    ]

name_sound : (section : Tree) (w : Word) (ts : List Tree) (m : Mark) → w.kind ≡ Name → name_mark (types_key (key_at section)) (folded w.text) ts ≡ Some m → IsMarked section m (list (leaf w ∷ ts))
name_sound section w ts m kind e =
    let P : Mark → Type 0 = λ k. IsMarked section k (list (leaf w ∷ ts)) in
    elim (test_cases (bytes_eq (folded w.text) (codes "increase")) _ _ _ e) [
      | inl h ↦
          let n = unless_some (increase_of ts) m h.1 in
          let word : IsWord (codes "increase") (leaf w) = (kind, same_bytes (folded w.text) (codes "increase") h.0) in
          subst P n.1 ((leaf w, ts, refl, word), λ a is. let some = increase_is (leaf w) ts a is in let none = n.0 in cc)
      | inr g ↦
          elim (test_cases (bytes_eq (folded w.text) (codes "either")) _ _ _ g.1) [
            | inl h ↦
                let s = if_some (types_key (key_at section)) (Some marks.Either) m h.1 in
                let is : marks.Either ≡ m = cc (s.1) in
                subst P is ((leaf w, ts, refl, (kind, same_bytes (folded w.text) (codes "either") h.0)), in_types_sound section s.0)
            | inr f ↦
                let s = if_some (bytes_eq (folded w.text) (codes "at")) (if is_number_first ts then Some marks.At else None) m f.1 in
                let n = if_some (is_number_first ts) (Some marks.At) m s.1 in
                let is : marks.At ≡ m = cc (n.1) in
                let (time, rest, begins, number) = number_first_sound ts n.0 in
                subst P is (leaf w, time, rest, ap (λ us. list (leaf w ∷ us)) begins, (kind, same_bytes (folded w.text) (codes "at") s.0), number)
          ]
    ]

by_kind : (section : Tree) (w : Word) (kind : TokenKind) (ts : List Tree) (m : Mark) → w.kind ≡ kind
    → name_mark_by kind (types_key (key_at section)) (folded w.text) ts ≡ Some m → IsMarked section m (list (leaf w ∷ ts))
by_kind section w Name ts m is e = name_sound section w ts m is e
by_kind section w Open ts m is e = absurd (cc)
by_kind section w Close ts m is e = absurd (cc)
by_kind section w Variable ts m is e = absurd (cc)
by_kind section w Keyword ts m is e = absurd (cc)
by_kind section w Number ts m is e = absurd (cc)
by_kind section w Dash ts m is e = absurd (cc)
by_kind section w Equal ts m is e = absurd (cc)
by_kind section w Colon ts m is e = absurd (cc)
by_kind section w Bracket ts m is e = absurd (cc)
by_kind section w Compare ts m is e = absurd (cc)
by_kind section w Arithmetic ts m is e = absurd (cc)

or_some : {A : Type 0} (o p : Option A) (x : A) → or_else o p ≡ Some x → (o ≡ Some x) ⊎ (p ≡ Some x)
or_some None p x e = inr e
or_some (Some y) p x e = inl e

head_sound : (section head : Tree) (ts : List Tree) (m : Mark) → head_mark (types_key (key_at section)) head ts ≡ Some m → IsMarked section m (list (head ∷ ts))
head_sound section (leaf w) ts m e =
    elim (or_some (plain_mark (folded w.text)) (name_mark_by w.kind (types_key (key_at section)) (folded w.text) ts) m e) [
      | inl h ↦ plain_sound section w ts m h
      | inr h ↦ by_kind section w w.kind ts m refl h
    ]
head_sound section (node us) ts m e = absurd (cc)

list_sound : (section : Tree) (ts : List Tree) (m : Mark) → list_mark (types_key (key_at section)) ts ≡ Some m → IsMarked section m (list ts)
list_sound section [] m e = absurd (cc)
list_sound section (head ∷ ts) m e = head_sound section head ts m e

mark_sound : (section t : Tree) (m : Mark) → mark_at section t ≡ Some m → IsMarked section m t
mark_sound section (leaf w) m e = absurd (cc)
mark_sound section (node ts) m e = subst (λ us. IsMarked section m (node us)) (trees_of_list_of ts) (list_sound section (list_of ts) m e)

-- ---- completeness

mark_list : (in_types : Bool) (t head : Tree) (ts : List Tree) → t ≡ list (head ∷ ts) → mark_in in_types t ≡ head_mark in_types head ts
mark_list in_types t head ts is = ap (mark_in in_types) is ∙ ap (list_mark in_types) (list_of_trees_of (head ∷ ts))

-- a head that is a plain mark's text
plain_complete : (in_types : Bool) (text : List ℕ) (m : Mark) (t : Tree) → plain_mark text ≡ Some m → BeginsWith (IsText text) t → mark_in in_types t ≡ Some m
plain_complete in_types text m t e (leaf w, ts, is, spelled) =
    mark_list in_types t (leaf w) ts is
    ∙ (ap (λ n. or_else (plain_mark n) (name_mark_by w.kind in_types n ts)) spelled ∙ ap (λ o. or_else o (name_mark_by w.kind in_types text ts)) e)
plain_complete in_types text m t e (node us, ts, is, none) = absurd none

-- a head that is a name, and no plain mark
name_head : (in_types : Bool) (word : List ℕ) (head : Tree) (ts : List Tree) → plain_mark word ≡ None → IsWord word head → head_mark in_types head ts ≡ name_mark in_types word ts
name_head in_types word (leaf w) ts e (kind, is) =
    ap (λ n. or_else (plain_mark n) (name_mark_by w.kind in_types n ts)) is
    ∙ (ap (λ o. or_else o (name_mark_by w.kind in_types word ts)) e ∙ ap (λ k. name_mark_by k in_types word ts) kind)
name_head in_types word (node us) ts e none = absurd none

mark_complete : (section t : Tree) (m : Mark) → IsMarked section m t → mark_at section t ≡ Some m
mark_complete section t marks.Increase ((head, ts, is, word), none) =
    let in_types = types_key (key_at section) in
    mark_list in_types t head ts is ∙ (name_head in_types (codes "increase") head ts refl word
    ∙ none_unless (increase_of ts) (λ a e. none a (subst (IsIncrease a) (sym is) (increase_sound head ts a word e))))
mark_complete section t marks.Either ((head, ts, is, word), headed) =
    let in_types = types_key (key_at section) in
    mark_list in_types t head ts is ∙ (name_head in_types (codes "either") head ts refl word
    ∙ ap (λ b. if b then Some marks.Either else None) (in_types_complete section headed))
mark_complete section t marks.At (head, time, ts, is, word, number) =
    let in_types = types_key (key_at section) in
    mark_list in_types t head (time ∷ ts) is ∙ (name_head in_types (codes "at") head (time ∷ ts) refl word
    ∙ ap (λ b. if b then Some marks.At else None) (number_first_complete time ts number))
mark_complete section t marks.DurativeAction begins = plain_complete (types_key (key_at section)) (codes ":durative-action") marks.DurativeAction t refl begins
mark_complete section t marks.Derived begins = plain_complete (types_key (key_at section)) (codes ":derived") marks.Derived t refl begins
mark_complete section t marks.Constraints begins = plain_complete (types_key (key_at section)) (codes ":constraints") marks.Constraints t refl begins
mark_complete section t marks.Length begins = plain_complete (types_key (key_at section)) (codes ":length") marks.Length t refl begins
mark_complete section t marks.Preference begins = plain_complete (types_key (key_at section)) (codes "preference") marks.Preference t refl begins
mark_complete section t marks.Less begins = plain_complete (types_key (key_at section)) (codes "<") marks.Less t refl begins
mark_complete section t marks.Greater begins = plain_complete (types_key (key_at section)) (codes ">") marks.Greater t refl begins
mark_complete section t marks.LessEqual begins = plain_complete (types_key (key_at section)) (codes "<=") marks.LessEqual t refl begins
mark_complete section t marks.GreaterEqual begins = plain_complete (types_key (key_at section)) (codes ">=") marks.GreaterEqual t refl begins
mark_complete section t marks.Plus begins = plain_complete (types_key (key_at section)) (codes "+") marks.Plus t refl begins
mark_complete section t marks.Times begins = plain_complete (types_key (key_at section)) (codes "*") marks.Times t refl begins
mark_complete section t marks.Divide begins = plain_complete (types_key (key_at section)) (codes "/") marks.Divide t refl begins
mark_complete section t marks.Minus begins = plain_complete (types_key (key_at section)) (codes "-") marks.Minus t refl begins
mark_complete section t marks.Assign begins = plain_complete (types_key (key_at section)) (codes "assign") marks.Assign t refl begins
mark_complete section t marks.Decrease begins = plain_complete (types_key (key_at section)) (codes "decrease") marks.Decrease t refl begins
mark_complete section t marks.ScaleUp begins = plain_complete (types_key (key_at section)) (codes "scale-up") marks.ScaleUp t refl begins
mark_complete section t marks.ScaleDown begins = plain_complete (types_key (key_at section)) (codes "scale-down") marks.ScaleDown t refl begins

pub mark_reads : (section : Tree) → Reads (IsMarked section) (mark_at section)
mark_reads section = record { sound = mark_sound section; complete = mark_complete section }
