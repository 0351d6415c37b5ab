-- The readers of functions' terms, amounts and increases read what is spelled, and nothing else.
use Rattle.std.proofs.Common.{◌≡◌, ◌≢◌, inl, inr, ℕ, true, List, [], ◌∷◌, map, refl, sym, ap, ◌∙◌, subst, codes}
use Rattle.std.specs.Prelude.{Option, Some, None, option_map, option_and_then}
use Rattle.std.specs.Str.{bytes_eq}
use Rattle.pddl_token.specs.declared.token.TokenKind.{TokenKind}
use Rattle.pddl_token.specs.declared.token.TokenKind.TheVariants.{Open, Close, Name, Variable, Keyword, Number, Dash, Equal, Colon, Bracket, Compare, Arithmetic}
use Rattle.pddl_token.specs.Number.{value_of}
use Rattle.pddl_token.specs.Trees.{Tree, leaf, node, list_of}
use Rattle.pddl_items.specs.Inner.TreeReading.{moment_by, name_at, all_of}
use Rattle.pddl_token.specs.TreeWords.{list, IsWord, SpellsNumber}
use Rattle.pddl_token.proofs.Options.{map_some, bind_some, if_some, unless_some}
use Rattle.pddl_items.proofs.TreeLists.{list_of_trees_of, trees_of_list_of}
use Rattle.pddl_items.proofs.Readers.{Reads, name_reads, equal_bytes, other_bytes, word_sound, word_complete, each_sound, each_complete}
use Rattle.pddl_formula.specs.Terms.{TermValue, IsTerm}
use Rattle.pddl_formula_reader.specs.Inner.Reading.{term_at}
use Rattle.pddl_formula_reader.proofs.TermLaws.{term_reads}
use Rattle.pddl_effect.specs.StaticNames.{static_function_of}
use Rattle.pddl_effect.specs.Effects.{FunctionTermValue, AmountValue, number, function, IsCall, IsFunctionTerm, IsAmount, IsTotalCost, IsIncrease}
use Rattle.pddl_effect_reader.specs.Inner.EffectReading.{call_of_list, call_at, static_term, function_term_at, number_at, amount_of, amount_at, is_cost_list, is_total_cost_at, increase_of}

-- ---- calls

module _ {X : Type 0} (Spells : X → Tree → Type 0) (read : Tree → Option X) (reads : Reads Spells read) where
  call_of_list_sound : (ts : List Tree) (f : List ℕ) (xs : List X) → call_of_list read ts ≡ Some (f, xs) → IsCall Spells f xs (list ts)
  call_of_list_sound [] f xs e = absurd (cc)
  call_of_list_sound (head ∷ ts) f xs e =
      let make : List ℕ → List X → List ℕ × List X = λ g ys. (g, ys) in
      let b = bind_some (λ g. option_map (make g) (all_of (map read ts))) (name_at head) (f, xs) e in
      let m = map_some (make b.0) (all_of (map read ts)) (f, xs) b.2 in
      let same : b.0 ≡ f = ap (λ (c : List ℕ × List X). c.0) m.2 in
      let arguments : m.0 ≡ xs = ap (λ (c : List ℕ × List X). c.1) m.2 in
      inr (head, ts, refl, name_reads.sound head f (b.1 ∙ ap Some same), each_sound Spells read reads ts xs (m.1 ∙ ap Some arguments))

  pub call_sound : (t : Tree) (f : List ℕ) (xs : List X) → call_at read t ≡ Some (f, xs) → IsCall Spells f xs t
  call_sound (leaf w) f xs e =
      let bare : List ℕ → List ℕ × List X = λ g. (g, []) in
      let m = map_some bare (name_at (leaf w)) (f, xs) e in
      let same : m.0 ≡ f = ap (λ (c : List ℕ × List X). c.0) m.2 in
      let none : [] ≡ xs = ap (λ (c : List ℕ × List X). c.1) m.2 in
      inl (sym none, name_reads.sound (leaf w) f (m.1 ∙ ap Some same))
  call_sound (node ts) f xs e = subst (λ us. IsCall Spells f xs (node us)) (trees_of_list_of ts) (call_of_list_sound (list_of ts) f xs e)

  pub call_complete : (t : Tree) (f : List ℕ) (xs : List X) → IsCall Spells f xs t → call_at read t ≡ Some (f, xs)
  call_complete (leaf w) f xs (inl (none, spelled)) = rw (name_reads.complete (leaf w) f spelled, none) refl
  call_complete (node ts) f xs (inl (none, (good, bad))) = absurd bad
  call_complete t f xs (inr (head, ts, is, spelled, each)) =
      ap (call_at read) is ∙ ap (call_of_list read) (list_of_trees_of (head ∷ ts))
      ∙ rw (name_reads.complete head f spelled, each_complete Spells read reads ts xs each) refl

  -- a tree spells at most one call
  pub one_call : (t : Tree) (f g : List ℕ) (xs ys : List X) → IsCall Spells f xs t → IsCall Spells g ys t → (f ≡ g) × (xs ≡ ys)
  one_call t f g xs ys first second =
      let same : ◌≡◌ {A = Option (List ℕ × List X)} (Some (f, xs)) (Some (g, ys)) = sym (call_complete t f xs first) ∙ call_complete t g ys second in
      let pairs : ◌≡◌ {A = List ℕ × List X} (f, xs) (g, ys) = cc same in
      (ap (λ (c : List ℕ × List X). c.0) pairs, ap (λ (c : List ℕ × List X). c.1) pairs)

-- ---- functions of terms

static_sound : (n f : List ℕ) → static_function_of n ≡ Some f → (n ≡ f) × (f ≢ codes "total-cost")
static_sound n f e =
    let u = unless_some (bytes_eq n (codes "total-cost")) (Some n) f e in
    let same : n ≡ f = let some = u.1 in cc in
    (same, λ is. let clash = equal_bytes n (codes "total-cost") (same ∙ is) in let free = u.0 in cc)

pub static_complete : (f : List ℕ) → f ≢ codes "total-cost" → static_function_of f ≡ Some f
static_complete f free = rw (other_bytes f (codes "total-cost") free) refl

function_term_sound : (t : Tree) (f : FunctionTermValue) → function_term_at t ≡ Some f → IsFunctionTerm f t
function_term_sound t f e =
    let b = bind_some static_term (call_at term_at t) f e in
    let make : List ℕ → FunctionTermValue = λ g. record { function = g; terms = b.0.1 } in
    let m = map_some make (static_function_of b.0.0) f b.2 in
    let s = static_sound b.0.0 m.0 m.1 in
    subst (λ v. IsFunctionTerm v t) m.2
    (s.1, call_sound IsTerm term_at term_reads t m.0 b.0.1 (b.1 ∙ ap (λ g. Some (g, b.0.1)) s.0))

function_term_complete : (t : Tree) (f : FunctionTermValue) → IsFunctionTerm f t → function_term_at t ≡ Some f
function_term_complete t f (free, call) =
    ap (option_and_then static_term) (call_complete IsTerm term_at term_reads t f.function f.terms call)
    ∙ ap (option_map (λ g. record { function = g; terms = f.terms })) (static_complete f.function free)

pub function_term_reads : Reads IsFunctionTerm function_term_at
function_term_reads = record { sound = function_term_sound; complete = function_term_complete }

pub function_term_of_list : (ts : List Tree) → function_term_at (list ts) ≡ option_and_then static_term (call_of_list term_at ts)
function_term_of_list ts = ap (λ (us : List Tree). option_and_then static_term (call_of_list term_at us)) (list_of_trees_of ts)

-- ---- numbers

by_number : (kind : TokenKind) (text : List ℕ) (n : ℕ) → moment_by kind text ≡ Some n → (kind ≡ Number) × (value_of text ≡ Some n)
by_number Number text n e = (refl, e)
by_number Name text n e = absurd (cc)
by_number Open text n e = absurd (cc)
by_number Close text n e = absurd (cc)
by_number Variable text n e = absurd (cc)
by_number Keyword text n e = absurd (cc)
by_number Dash text n e = absurd (cc)
by_number Equal text n e = absurd (cc)
by_number Colon text n e = absurd (cc)
by_number Bracket text n e = absurd (cc)
by_number Compare text n e = absurd (cc)
by_number Arithmetic text n e = absurd (cc)

number_sound : (t : Tree) (n : ℕ) → number_at t ≡ Some n → SpellsNumber n t
number_sound (leaf w) n e = by_number w.kind w.text n e
number_sound (node ts) n e = absurd (cc)

number_complete : (t : Tree) (n : ℕ) → SpellsNumber n t → number_at t ≡ Some n
number_complete (leaf w) n (kind, value) = ap (λ k. moment_by k w.text) kind ∙ value
number_complete (node ts) n none = absurd none

pub number_reads : Reads SpellsNumber number_at
number_reads = record { sound = number_sound; complete = number_complete }

-- ---- amounts

amount_of_sound : (t : Tree) (n : Option ℕ) (f : Option FunctionTermValue) (a : AmountValue)
    → number_at t ≡ n → function_term_at t ≡ f → amount_of n f ≡ Some a → IsAmount a t
amount_of_sound t (Some n) f a is others e = let same : number n ≡ a = cc e in subst (λ v. IsAmount v t) same (number_sound t n is)
amount_of_sound t None f a is others e =
    let m = map_some function f a e in
    subst (λ v. IsAmount v t) m.2 (function_term_sound t m.0 (others ∙ m.1))

amount_sound : (t : Tree) (a : AmountValue) → amount_at t ≡ Some a → IsAmount a t
amount_sound t a e = amount_of_sound t (number_at t) (function_term_at t) a refl refl e

-- what is a call is no number
call_is_no_number : (t : Tree) (f : List ℕ) (xs : List TermValue) → IsCall IsTerm f xs t → number_at t ≡ None
call_is_no_number (leaf w) f xs (inl (none, (good, (kind, is)))) = ap (λ k. moment_by k w.text) kind
call_is_no_number (node ts) f xs (inl (none, (good, bad))) = absurd bad
call_is_no_number t f xs (inr (head, ts, is, spelled, each)) = ap number_at is

amount_complete : (t : Tree) (a : AmountValue) → IsAmount a t → amount_at t ≡ Some a
amount_complete t (number n) spelled = ap (λ o. amount_of o (function_term_at t)) (number_complete t n spelled)
amount_complete t (function f) (free, call) =
    ap (λ o. amount_of o (function_term_at t)) (call_is_no_number t f.function f.terms call)
    ∙ ap (option_map function) (function_term_complete t f (free, call))

pub amount_reads : Reads IsAmount amount_at
amount_reads = record { sound = amount_sound; complete = amount_complete }

-- ---- the total cost

cost_list_sound : (ts : List Tree) → is_cost_list ts ≡ true → IsTotalCost (list ts)
cost_list_sound [] e = absurd (cc)
cost_list_sound (t ∷ []) e = inr (t, refl, word_sound (codes "total-cost") t e)
cost_list_sound (t ∷ u ∷ ts) e = absurd (cc)

pub cost_sound : (t : Tree) → is_total_cost_at t ≡ true → IsTotalCost t
cost_sound (leaf w) e = inl (word_sound (codes "total-cost") (leaf w) e)
cost_sound (node ts) e = subst (λ us. IsTotalCost (node us)) (trees_of_list_of ts) (cost_list_sound (list_of ts) e)

pub cost_complete : (t : Tree) → IsTotalCost t → is_total_cost_at t ≡ true
cost_complete (leaf w) (inl word) = word_complete (codes "total-cost") (leaf w) word
cost_complete (node ts) (inl bad) = absurd bad
cost_complete t (inr (head, is, word)) =
    ap is_total_cost_at is ∙ ap is_cost_list (list_of_trees_of (head ∷ [])) ∙ word_complete (codes "total-cost") head word

-- ---- increases

pub increase_sound : (head : Tree) (ts : List Tree) (a : AmountValue) → IsWord (codes "increase") head → increase_of ts ≡ Some a → IsIncrease a (list (head ∷ ts))
increase_sound head [] a is e = absurd (cc)
increase_sound head (cost ∷ []) a is e = absurd (cc)
increase_sound head (cost ∷ x ∷ []) a is e =
    let g = if_some (is_total_cost_at cost) (amount_at x) a e in
    (head, cost, x, refl, is, cost_sound cost g.0, amount_sound x a g.1)
increase_sound head (cost ∷ x ∷ y ∷ ts) a is e = absurd (cc)

pub increase_complete : (cost x : Tree) (a : AmountValue) → IsTotalCost cost → IsAmount a x → increase_of (cost ∷ x ∷ []) ≡ Some a
increase_complete cost x a total amount = rw (cost_complete cost total, amount_complete x a amount) refl
