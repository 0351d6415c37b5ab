-- The tests of increases tell what is spelled.
use Rattle.std.proofs.Common.{◌≡◌, ◌≢◌, inl, inr, ℕ, Bool, true, List, [], ◌∷◌, IsTrue, refl, sym, ap, ◌∙◌, subst, codes}
use Rattle.std.specs.Prelude.{Option, Some, None, ◌&&◌, ◌==◌, ◌↔◌, not, is_some}
use Rattle.std.specs.List.{list_all}
use Rattle.std.specs.Char.{to_ascii_lowercase}
use Rattle.std.specs.Str.{bytes_eq}
use Rattle.std.proofs.lemmas.Bool.{eqb-true, not-true}
use Rattle.pddl_token.specs.declared.token.TokenKind.{TokenKind}
use Rattle.pddl_token.specs.declared.token.TokenKind.TheVariants.{Open, Close, Name, Variable, Keyword, Number, Dash, Equal, Colon, Bracket, Compare, Arithmetic}
use Rattle.pddl_token.specs.Number.{value_of}
use Rattle.pddl_token.specs.Spelling.{Word}
use Rattle.pddl_token.specs.Trees.{Tree, leaf, node, list_of}
use Rattle.pddl_token.proofs.Tests.{both_true}
use Rattle.pddl_token.specs.Names.{folded, is_name, is_first_byte, is_later_byte}
use Rattle.pddl_token.specs.TreeWords.{list, SpellsName, Each}
use Rattle.pddl_items.specs.Inner.TreeReading.{is_word_at}
use Rattle.pddl_items.proofs.Readers.{equal_bytes, other_bytes, word_sound, word_complete}
use Rattle.pddl_items.proofs.TreeLists.{list_of_trees_of, trees_of_list_of}
use Rattle.pddl_formula.specs.Terms.{TermValue, name, variable, IsTerm}
use Rattle.pddl_effect.specs.Effects.{AmountValue, number, function, IsAmount, IsTotalCost, IsIncrease}
use Rattle.pddl_effect_reader.specs.Inner.EffectReading.{is_cost_list, is_total_cost_at}
use Rattle.pddl_effect_reader.specs.Inner.IncreaseTests.{is_name_text, is_variable_text, is_static_text, is_term_by, is_term_at, is_static_by, is_static_at, is_call_list, is_amount_by, is_amount_at, is_cost_and_amount, is_increase_at}
use Rattle.pddl_effect_reader.proofs.AmountLaws.{cost_sound, cost_complete}

-- ---- tests

some_of : {A : Type 0} (o : Option A) → is_some o ≡ true → (x : A) × (o ≡ Some x)
some_of None e = absurd (cc)
some_of (Some x) e = (x, refl)

-- ---- names

later_folded : (text : List ℕ) → list_all is_later_byte (folded text) ≡ list_all (λ b. is_later_byte (to_ascii_lowercase b)) text
later_folded [] = refl
later_folded (b ∷ text) = ap (λ (rest : Bool). is_later_byte (to_ascii_lowercase b) && rest) (later_folded text)

name_folded : (text : List ℕ) → is_name (folded text) ≡ is_name_text text
name_folded [] = refl
name_folded (b ∷ text) = ap (λ (rest : Bool). is_first_byte (to_ascii_lowercase b) && rest) (later_folded text)

name_told : (text : List ℕ) → is_name_text text ≡ true → IsTrue (is_name (folded text))
name_told text e = name_folded text ∙ e

name_tested : (text n : List ℕ) → IsTrue (is_name n) → folded text ≡ n → is_name_text text ≡ true
name_tested text n good is = sym (name_folded text) ∙ (ap is_name is ∙ good)

-- ---- terms

variable_told : (text : List ℕ) → is_variable_text text ≡ true → (rest : List ℕ) × (text ≡ 63 ∷ rest) × IsTrue (is_name (folded rest))
variable_told [] e = absurd (cc)
variable_told (b ∷ rest) e =
    let h = both_true (b == 63) (is_name_text rest) e in
    (rest, ap (λ (c : ℕ). c ∷ rest) (eqb-true b 63 h.0), name_told rest h.1)

term_by_told : (w : Word) (kind : TokenKind) → w.kind ≡ kind → is_term_by kind w.text ≡ true → (x : TermValue) × IsTerm x (leaf w)
term_by_told w Name is e = (name (folded w.text), (name_told w.text e, (is, refl)))
term_by_told w Variable is e =
    let (rest, spelled, good) = variable_told w.text e in
    (variable (folded rest), (good, is, (rest, spelled, refl)))
term_by_told w Open is e = absurd (cc)
term_by_told w Close is e = absurd (cc)
term_by_told w Keyword is e = absurd (cc)
term_by_told w Number is e = absurd (cc)
term_by_told w Dash is e = absurd (cc)
term_by_told w Equal is e = absurd (cc)
term_by_told w Colon is e = absurd (cc)
term_by_told w Bracket is e = absurd (cc)
term_by_told w Compare is e = absurd (cc)
term_by_told w Arithmetic is e = absurd (cc)

term_told : (t : Tree) → is_term_at t ≡ true → (x : TermValue) × IsTerm x t
term_told (leaf w) e = term_by_told w w.kind refl e
term_told (node ts) e = absurd (cc)

term_tested : (t : Tree) (x : TermValue) → IsTerm x t → is_term_at t ≡ true
term_tested (leaf w) (name n) (good, (kind, is)) = ap (λ k. is_term_by k w.text) kind ∙ name_tested w.text n good is
term_tested (leaf w) (variable n) (good, kind, (rest, spelled, is)) =
    ap (λ k. is_term_by k w.text) kind ∙ (ap is_variable_text spelled ∙ name_tested rest n good is)
term_tested (node ts) (name n) (good, none) = absurd none
term_tested (node ts) (variable n) none = absurd none

terms_told : (ts : List Tree) → list_all is_term_at ts ≡ true → (xs : List TermValue) × Each IsTerm xs ts
terms_told [] e = ([], tt)
terms_told (t ∷ ts) e =
    let h = both_true (is_term_at t) (list_all is_term_at ts) e in
    let first = term_told t h.0 in
    let rest = terms_told ts h.1 in
    (first.0 ∷ rest.0, (first.1, rest.1))

terms_tested : (ts : List Tree) (xs : List TermValue) → Each IsTerm xs ts → list_all is_term_at ts ≡ true
terms_tested [] [] each = refl
terms_tested [] (x ∷ xs) each = absurd each
terms_tested (t ∷ ts) [] each = absurd each
terms_tested (t ∷ ts) (x ∷ xs) (first, rest) = rw (term_tested t x first, terms_tested ts xs rest) refl

-- ---- functions

static_told : (text : List ℕ) → is_static_text text ≡ true → IsTrue (is_name (folded text)) × (folded text ≢ codes "total-cost")
static_told text e =
    let h = both_true (is_name_text text) (not (bytes_eq (folded text) (codes "total-cost"))) e in (
      name_told text h.0,
      λ is. let free = not-true (bytes_eq (folded text) (codes "total-cost")) h.1 in let clash = equal_bytes (folded text) (codes "total-cost") is in cc,
    )

static_tested : (text n : List ℕ) → IsTrue (is_name n) → n ≢ codes "total-cost" → folded text ≡ n → is_static_text text ≡ true
static_tested text n good free is = rw (name_tested text n good is, is, other_bytes n (codes "total-cost") free) refl

static_by_told : (w : Word) (kind : TokenKind) → w.kind ≡ kind → is_static_by kind w.text ≡ true → (n : List ℕ) × SpellsName n (leaf w) × (n ≢ codes "total-cost")
static_by_told w Name is e = let h = static_told w.text e in (folded w.text, (h.0, (is, refl)), h.1)
static_by_told w Variable is e = absurd (cc)
static_by_told w Open is e = absurd (cc)
static_by_told w Close is e = absurd (cc)
static_by_told w Keyword is e = absurd (cc)
static_by_told w Number is e = absurd (cc)
static_by_told w Dash is e = absurd (cc)
static_by_told w Equal is e = absurd (cc)
static_by_told w Colon is e = absurd (cc)
static_by_told w Bracket is e = absurd (cc)
static_by_told w Compare is e = absurd (cc)
static_by_told w Arithmetic is e = absurd (cc)

static_name_told : (t : Tree) → is_static_at t ≡ true → (n : List ℕ) × SpellsName n t × (n ≢ codes "total-cost")
static_name_told (leaf w) e = static_by_told w w.kind refl e
static_name_told (node ts) e = absurd (cc)

static_name_tested : (t : Tree) (n : List ℕ) → SpellsName n t → n ≢ codes "total-cost" → is_static_at t ≡ true
static_name_tested (leaf w) n (good, (kind, is)) free = ap (λ k. is_static_by k w.text) kind ∙ static_tested w.text n good free is
static_name_tested (node ts) n (good, none) free = absurd none

-- ---- amounts

call_told : (ts : List Tree) → is_call_list ts ≡ true → (a : AmountValue) × IsAmount a (list ts)
call_told [] e = absurd (cc)
call_told (head ∷ ts) e =
    let h = both_true (is_static_at head) (list_all is_term_at ts) e in
    let (n, spelled, free) = static_name_told head h.0 in
    let (xs, each) = terms_told ts h.1 in
    (function (record { function = n; terms = xs }), (free, inr (head, ts, refl, spelled, each)))

amount_by_told : (w : Word) (kind : TokenKind) → w.kind ≡ kind → is_amount_by kind w.text ≡ true → (a : AmountValue) × IsAmount a (leaf w)
amount_by_told w Number is e = let h = some_of (value_of w.text) e in (number h.0, (is, h.1))
amount_by_told w Name is e =
    let h = static_told w.text e in
    (function (record { function = folded w.text; terms = [] }), (h.1, inl (refl, (h.0, (is, refl)))))
amount_by_told w Variable is e = absurd (cc)
amount_by_told w Open is e = absurd (cc)
amount_by_told w Close is e = absurd (cc)
amount_by_told w Keyword is e = absurd (cc)
amount_by_told w Dash is e = absurd (cc)
amount_by_told w Equal is e = absurd (cc)
amount_by_told w Colon is e = absurd (cc)
amount_by_told w Bracket is e = absurd (cc)
amount_by_told w Compare is e = absurd (cc)
amount_by_told w Arithmetic is e = absurd (cc)

amount_told : (t : Tree) → is_amount_at t ≡ true → (a : AmountValue) × IsAmount a t
amount_told (leaf w) e = amount_by_told w w.kind refl e
amount_told (node ts) e =
    let (a, spelled) = call_told (list_of ts) e in
    (a, subst (λ us. IsAmount a (node us)) (trees_of_list_of ts) spelled)

amount_tested : (t : Tree) (a : AmountValue) → IsAmount a t → is_amount_at t ≡ true
amount_tested (leaf w) (number n) (kind, value) = ap (λ k. is_amount_by k w.text) kind ∙ ap is_some value
amount_tested (node ts) (number n) none = absurd none
amount_tested (leaf w) (function f) (free, inl (none, (good, (kind, is)))) =
    ap (λ k. is_amount_by k w.text) kind ∙ static_tested w.text f.function good free is
amount_tested (node ts) (function f) (free, inl (none, (good, bad))) = absurd bad
amount_tested t (function f) (free, inr (head, ts, is, spelled, each)) =
    ap is_amount_at is ∙ ap is_call_list (list_of_trees_of (head ∷ ts))
    ∙ rw (static_name_tested head f.function spelled free, terms_tested ts f.terms each) refl

pub amount_of_list : (ts : List Tree) → is_amount_at (list ts) ≡ is_call_list ts
amount_of_list ts = ap is_call_list (list_of_trees_of ts)

-- ---- increases

pub cost_of_list : (ts : List Tree) → is_total_cost_at (list ts) ≡ is_cost_list ts
cost_of_list ts = ap is_cost_list (list_of_trees_of ts)

pub cost_tells : (t : Tree) → IsTrue (is_total_cost_at t) ↔ IsTotalCost t
cost_tells t = (cost_sound t, cost_complete t)

behind_told : (head : Tree) (ts : List Tree) → is_word_at (codes "increase") head ≡ true → is_cost_and_amount ts ≡ true → (a : AmountValue) × IsIncrease a (list (head ∷ ts))
behind_told head [] word e = absurd (cc)
behind_told head (cost ∷ []) word e = absurd (cc)
behind_told head (cost ∷ x ∷ []) word e =
    let h = both_true (is_total_cost_at cost) (is_amount_at x) e in
    let (a, amount) = amount_told x h.1 in
    (a, (head, cost, x, refl, word_sound (codes "increase") head word, cost_sound cost h.0, amount))
behind_told head (cost ∷ x ∷ y ∷ ts) word e = absurd (cc)

increase_told : (ts : List Tree) → is_increase_at ts ≡ true → (a : AmountValue) × IsIncrease a (list ts)
increase_told [] e = absurd (cc)
increase_told (head ∷ ts) e =
    let h = both_true (is_word_at (codes "increase") head) (is_cost_and_amount ts) e in
    behind_told head ts h.0 h.1

abbrev items_of : Tree → List Tree
items_of (leaf w) = []
items_of (node ts) = list_of ts

increase_tested : (ts : List Tree) (a : AmountValue) → IsIncrease a (list ts) → is_increase_at ts ≡ true
increase_tested ts a (head, cost, x, is, word, total, amount) =
    let same : ts ≡ head ∷ cost ∷ x ∷ [] = sym (list_of_trees_of ts) ∙ ap items_of is in
    ap is_increase_at same ∙ rw (word_complete (codes "increase") head word, cost_complete cost total, amount_tested x a amount) refl

-- whether a list of trees spells an increase
pub increase_tells : (ts : List Tree) → IsTrue (is_increase_at ts) ↔ ((a : AmountValue) × IsIncrease a (list ts))
increase_tells ts = (increase_told ts, λ spelled. increase_tested ts spelled.0 spelled.1)
