-- Places that are peeled off in turn, each once no child of it is left, and at which turn a place stands in their order. Those of which children are left where no more
-- can be peeled off lie on ways that go round; where there are none, the others are in order.
use Rattle.std.proofs.Common.{◌≡◌, ◌≢◌, sum, ℕ, ◌<◌, ◌≤◌, eqb, ltb, not, List, [], ◌∷◌, ◌++◌, ◌∙◌, map, length, refl, sym, ap, arith, ◌+◌, ◌-◌, ◌&&◌, cond, take, slice_set, slice_index_or, zero, suc, true, false, inl, inr}
use Rattle.std.proofs.lemmas.Bool.{eqb-true, cases_Bool}
use Rattle.std.proofs.lemmas.Bool.Decides.{nat_tests}
use Rattle.std.proofs.lemmas.List.{get_or_default, get_or-set_same, get_or-set_other, length-set, length_push, take_more_set, get_or_push, get_or_append_left}
use Rattle.std.proofs.lemmas.List.Folds.{position_or_len_push, Any-from_list_any, list_any_at}
use Rattle.std.proofs.lemmas.List.FromFn.{get_or-map-range_with_len, length-map-range_with_len, get_or-range_with_len, length-range_with_len}
use Rattle.std.proofs.lemmas.List.Sums.{sum_by-cons, passes_at_first, prefix_len-le-length, get_or-le-sum_by, sum_by-le, sum_by-set}
use Rattle.std.proofs.lemmas.Map.Keys.{IsDistinct-from_apart}
use Rattle.std.proofs.lemmas.Map.Steps.{length-le_from_distinct_below}
use Rattle.std.specs.List.{range_with_len, count_by, sum_by, list_any}
use Rattle.pddl_forest.specs.Spans.{at}
use Rattle.pddl_forest.specs.Forests.{number_at, parent_of, up}
use Rattle.pddl_forest.specs.declared.spans.Span.{Span}
use Rattle.pddl_forest.specs.Inner.{turn_of, AreParents, ArePeeled, left_under, IsOrder, ArePeeling}
use Rattle.pddl_forest.specs.Rounds.{GoesRound, HasRound, AreRounds}

pub turn_few : (order : List ℕ) (i : ℕ) → turn_of order i ≤ length order
turn_few order i = prefix_len-le-length (λ x. not (eqb i x)) order

pub at_turn : (order : List ℕ) (i : ℕ) → turn_of order i < length order → number_at order (turn_of order i) ≡ i
at_turn order i low = sym (eqb-true i _ (passes_at_first (eqb i) order 0 low))

-- a place stands in an order where it is counted there
turn_counts : (order : List ℕ) (i : ℕ) → ltb (turn_of order i) (length order) ≡ ltb 0 (count_by (eqb i) order)
turn_counts [] i = refl
turn_counts (x ∷ xs) i = grind (arith, nat_tests, sum_by-cons (λ y. cond (eqb i y) 1 0) x xs, turn_counts xs i)

pub at_set : {X : Type 0} (xs : List X) (i k : ℕ) (y d : X) → i < length xs → slice_index_or (slice_set xs i y) k d ≡ cond (eqb k i) y (slice_index_or xs k d)
at_set xs i k y d low = grind (arith, nat_tests, get_or-set_same xs i y d, get_or-set_other xs i k y d, low)

abbrev pub nothing : Span
nothing = record { first = 0; last = 0 }

-- ---- one place is peeled off

-- On the way up from a place, those before it of which no child is left are peeled off, and the place itself, but for one that the way has come to.
pub record ArePeeledTo (ps left slots : List ℕ) (turns : ℕ) (spans : List Span) (start place : ℕ) : Type 0 where
  pub low : place < length ps
  pub long : length slots ≡ length ps
  pub rest : turns + sum left ≡ length ps
  pub peeled : ArePeeled ps left (take turns slots) spans
  pub past : (i : ℕ) → i < length ps → number_at left i ≡ 0 → (at spans i).first ≡ 0 → i ≢ place → start < i

pub started : {ps left slots : List ℕ} {turns : ℕ} {spans : List Span} {place : ℕ} → AreParents ps → ArePeeling ps left slots turns spans place → place < length ps → ArePeeledTo ps left slots turns spans place place
started a so low = record {
  low = low;
  long = so.long;
  rest = so.rest;
  peeled = so.peeled;
  past = λ i i_low none new other. omega (arith, so.past i i_low none new, other);
}

module _ {ps left slots : List ℕ} {turns : ℕ} {spans : List Span} {start place : ℕ} (a : AreParents ps) (to : ArePeeledTo ps left slots turns spans start place) where
  abbrev order : List ℕ
  order = take turns slots

  abbrev h : ArePeeled ps left order spans
  h = to.peeled

  pub stopped : (number_at left place ≡ 0 → (at spans place).first ≡ 0 → ⊥) → ArePeeling ps left slots turns spans (start + 1)
  stopped ends = record { long = to.long; rest = to.rest; peeled = h; past = λ i low none new. omega (arith, to.past i low none new (λ is. ends (rw (← is) none) (rw (← is) new))) }

  abbrev parent : ℕ
  parent = number_at ps place

  abbrev fewer : List ℕ
  fewer = slice_set left parent (number_at left parent - 1)

  abbrev next : List ℕ
  next = order ++ place ∷ []

  abbrev over : Span
  over = record { first = (at spans parent).first; last = (at spans parent).last + 1 + (at spans place).last }

  abbrev span : Span
  span = record { first = (at spans parent).last + 1; last = (at spans place).last }

  abbrev next_spans : List Span
  next_spans = slice_set (slice_set spans parent over) place span

  module _ (none : number_at left place ≡ 0) (new : (at spans place).first ≡ 0) where
    low : parent < length ps
    low = a.within place to.low

    parent_new : (at spans parent).first ≡ 0
    parent_new = grind (arith, nat_tests, h.behind place to.low, h.under.put place to.low, h.under.put parent low, new)

    -- the parent has one child less, and no other has
    counts : (i : ℕ) → i < length ps → count_by (eqb i) (slice_set h.kept place (length ps)) + cond (eqb i parent) 1 0 ≡ number_at left i
    counts i i_low =
        grind (arith, nat_tests, sum_by-set (λ q. cond (eqb i q) 1 0) h.kept place (length ps) 0 (omega (arith, to.low, h.long)), h.each place to.low, new, h.counted.each i i_low)

    child_before : (i : ℕ) → i < length ps → number_at ps i ≡ place → turn_of order i < length order
    child_before i i_low is =
        grind (arith, nat_tests, get_or-le-sum_by (λ q. cond (eqb place q) 1 0) h.kept i 0, h.long, h.each i i_low, h.counted.each place to.low, none, is, h.under.put i i_low)

    pub some : 1 ≤ number_at left (number_at ps place)
    some = grind (arith, nat_tests, counts parent low)

    apart : place ≢ parent
    apart is = omega (arith, some, none, ap (number_at left) is)

    turn_next : (i : ℕ) → turn_of next i ≡ cond (ltb (turn_of order i) (length order)) (turn_of order i) (length order + cond (eqb i place) 0 1)
    turn_next i = grind (arith, nat_tests, position_or_len_push (eqb i) order place, turn_few order i)

    -- ---- what is under it is put behind what is under its parent

    in_spans : (parent < length spans) × (place < length (slice_set spans parent over))
    in_spans = (omega (arith, low, h.under.long), omega (arith, to.low, length-set spans parent over, h.under.long))

    at_next : (i : ℕ) → at next_spans i ≡ cond (eqb i place) span (cond (eqb i parent) over (at spans i))
    at_next i = at_set (slice_set spans parent over) place i span nothing in_spans.1 ∙ ap (cond (eqb i place) span) (at_set spans parent i over nothing in_spans.0)

    long_spans : length next_spans ≡ length ps
    long_spans = length-set (slice_set spans parent over) place _ ∙ length-set spans parent over ∙ h.under.long

    total : sum_by left_under next_spans ≡ length ps
    total =
        let first = sum_by-set left_under spans parent over nothing in_spans.0 in
        let then = sum_by-set left_under (slice_set spans parent over) place span nothing in_spans.1 in
        grind (arith, nat_tests, first, then, get_or-set_other spans parent place over nothing apart, parent_new, new, h.under.total)

    pub put_fits : (at spans (number_at ps place)).last + 1 + (at spans place).last < length ps
    put_fits = grind (arith, nat_tests, parent_new, get_or-le-sum_by left_under next_spans parent nothing (omega (arith, low, long_spans)), at_next parent, apart, total)

    more : ArePeeled ps fewer next next_spans
    more = record {
      kept = slice_set h.kept place (length ps);
      long = length-set h.kept place _ ∙ h.long;
      counted = record {
        long = length-set left parent _ ∙ h.counted.long;
        each = λ i i_low. grind (arith, nat_tests, at_set left parent i (number_at left parent - 1) 0, h.counted.long, low, counts i i_low);
      };
      each = λ i i_low. grind (arith, nat_tests, at_next i, parent_new, at_set h.kept place i (length ps) 0, to.low, h.long, h.each i i_low);
      once = λ u u_low.
          let here = h.under.put place to.low in
          let last = get_or_push order place 0 u in
          let before = get_or_append_left order (place ∷ []) 0 u in
          let all = length_push order place in
          (grind (arith, nat_tests, last, before, all, h.once u, to.low, u_low), grind (arith, nat_tests, last, before, all, h.once u, u_low, turn_next (number_at next u), turn_next place, here, new));
      behind = λ i i_low. grind (arith, nat_tests, turn_next i, turn_next (number_at ps i), length_push order place, h.behind i i_low, child_before i i_low);
      under = record {
        long = long_spans;
        total = total;
        put = λ i i_low. grind (arith, nat_tests, turn_next i, length_push order place, at_next i, h.under.put i i_low, parent_new);
        within = λ i i_low. grind (arith, nat_tests, at_next i, at_next (number_at ps i), apart, h.under.within i i_low, parent_new, new);
        apart = λ i j i_low j_low differ same. grind (arith, nat_tests, at_next i, at_next j, h.under.within i i_low, h.under.within j j_low, h.under.apart i j i_low j_low differ same, same, differ, parent_new, new);
      };
    }

    pub one_less : sum fewer + 1 ≡ sum left
    one_less = omega (arith, sum_by-set (λ x. x) left parent (number_at left parent - 1) 0 (omega (arith, low, h.counted.long)), some)

    pub peeled_more : ArePeeledTo ps fewer (slice_set slots turns place) (turns + 1) next_spans start (number_at ps place)
    peeled_more = record {
      low = low;
      long = length-set slots turns place ∙ to.long;
      rest = omega (arith, one_less, to.rest);
      peeled = rw (take_more_set slots turns place (omega (arith, one_less, to.rest, to.long))) more;
      past = λ i i_low ends begins other. grind (arith, nat_tests, to.past i i_low, at_next i, get_or-set_other left parent i (number_at left parent - 1) 0, ends, begins, other);
    }

-- ---- ways from parent to parent

-- so many steps, and so many more
up_more : (ps : List ℕ) (m n i : ℕ) → up ps m (up ps n i) ≡ up ps (n + m) i
up_more ps m zero i = let e : m ≡ zero + m = omega arith in ap (λ k. up ps k i) e
up_more ps m (suc n) i = let e : suc (n + m) ≡ suc n + m = omega arith in up_more ps m n (parent_of ps i) ∙ ap (λ k. up ps k i) e

-- numbers below a bound of which no two are equal are no more than there are below it
few_apart : (n m : ℕ) (f : ℕ → ℕ) → ((k : ℕ) → k < m → f k < n) → ((a b : ℕ) → a < b → b < m → f a ≢ f b) → m ≤ n
few_apart n m f below apart =
    let xs = map f (range_with_len 0 m) in
    let long = length-map-range_with_len f 0 m in
    let at_low = λ (k d : ℕ) (low : k < m). get_or-map-range_with_len f 0 m k k d low (omega arith) in
    let distinct = IsDistinct-from_apart eqb xs (λ a b d less low. grind (arith, nat_tests, at_low a d, at_low b d, apart a b less, less, low, long)) in
    omega (arith, long, length-le_from_distinct_below xs n distinct (λ x there. let (k, y, inside, is, on) = Any-from_list_any (eqb x) xs there in grind (arith, nat_tests, at_low k y, is, on, below k, inside, long)))

-- ---- what is left where all places without children are peeled off; for place 0, where it is its own parent, nothing is

module _ {ps left slots : List ℕ} {turns : ℕ} {spans : List Span} {many : ℕ} (a : AreParents ps) (all : ArePeeling ps left slots turns spans many) (enough : length ps ≤ many) {after : List ℕ}
    (set : after ≡ cond (eqb (number_at ps 0) 0) (slice_set left 0 0) left) where
  abbrev peels : List ℕ
  peels = take turns slots

  abbrev done : ArePeeled ps left peels spans
  done = all.peeled

  same : (i : ℕ) → i < length ps → parent_of ps i ≡ number_at ps i
  same i low = get_or_default ps i i 0 low

  -- a place stands in the order where no child of it is left
  none_left : (i : ℕ) → i < length ps → number_at left i ≡ 0 → turn_of peels i < length peels
  none_left i low none = grind (arith, nat_tests, all.past i, enough, done.under.put i low, low, none)

  -- and one that does not has a child that does not
  child : (i : ℕ) → i < length ps → number_at left i ≢ 0 → (k : ℕ) × (k < length ps) × (number_at left k ≢ 0) × (parent_of ps k ≡ i)
  child i low some =
      let k : ℕ = turn_of done.kept i in
      let inside : k < length done.kept = grind (arith, nat_tests, turn_counts done.kept i, done.counted.each i low, some) in
      let k_low : k < length ps = omega (arith, inside, done.long) in
      let is = at_turn done.kept i inside in
      let here = done.each k k_low in
      (k, k_low, λ none. grind (arith, nat_tests, all.past k, enough, none, here, is, low), grind (arith, nat_tests, same k k_low, here, is, low))

  down : (i : ℕ) → i < length ps → number_at left i ≢ 0 → (n : ℕ) → (k : ℕ) × (k < length ps) × (number_at left k ≢ 0) × (up ps n k ≡ i)
  down i low some zero = (i, low, some, refl)
  down i low some (suc n) =
      let (k, k_low, k_some, is) = down i low some n in
      let (c, c_low, c_some, over) = child k k_low k_some in
      (c, c_low, c_some, ap (up ps n) over ∙ is)

  -- no other places than there are can be on the way
  on_round : (i : ℕ) → i < length ps → number_at left i ≢ 0 → GoesRound ps i
  on_round i low some =
      let way = down i low some in
      let comes = λ (n : ℕ). eqb (up ps (suc n) i) i in
      let steps = range_with_len 0 (length ps) in
      elim (cases_Bool (list_any comes steps)) as (λ _. GoesRound ps i) [
        | inl there ↦ let (_, n, _, _, on) = Any-from_list_any comes steps there in (n, eqb-true (up ps (suc n) i) i on)
        | inr none ↦
            let few = few_apart (length ps) (suc (length ps)) (λ n. (way n).0) (λ n _. (way n).1) (λ a b less inside same.
            let n : ℕ = b - (a + 1) in
            let e : a + suc n ≡ b = omega (arith, less) in
            let round = ap (up ps (suc n)) (sym (way a).3) ∙ up_more ps (suc n) a (way a).0 ∙ ap (λ k. up ps k (way a).0) e ∙ ap (up ps b) same ∙ (way b).3 in
            absurd (grind (arith, nat_tests, list_any_at comes steps n 0, get_or-range_with_len 0 (length ps) n 0, length-range_with_len 0 (length ps), round, e, inside, none))) in
            absurd (omega (arith, few))
      ]

  -- a place above which one is in the order comes before it
  climbs : (n i : ℕ) → i < length ps → turn_of peels (up ps n i) < length peels → turn_of peels i + n ≤ turn_of peels (up ps n i)
  climbs zero i low inside = omega arith
  climbs (suc n) i low inside = let more = climbs n (parent_of ps i) (rw (same i low) (a.within i low)) inside in omega (arith, more, rw (← same i low) at (done.behind i low), inside)

  here : (i : ℕ) → number_at after i ≡ cond (eqb i 0 && eqb (parent_of ps 0) 0) 0 (number_at left i)
  here i = grind (arith, nat_tests, set, same 0 a.some, at_set left 0 i 0 0, a.some, done.counted.long)

  pub are_rounds : AreRounds ps after
  are_rounds = record {
    many = grind (arith, nat_tests, set, length-set left 0 0, done.counted.long);
    each = λ i low. (
      λ some. (on_round i low (λ none. some (grind (arith, nat_tests, here i, none))), λ top own. some (grind (arith, nat_tests, here i, top, own))),
      λ ((n, round), other) none.
          let inside = none_left i low (grind (arith, nat_tests, here i, none, other)) in
          omega (arith, climbs (suc n) i low (omega (arith, ap (turn_of peels) round, inside)), ap (turn_of peels) round),
    );
  }

  pub some_round : ltb 0 (sum after) ≡ true → HasRound ps
  some_round more = elim (cases_Bool (list_any (ltb 0) after)) as (λ _. HasRound ps) [
    | inl there ↦
        let (i, n, low, is, on) = Any-from_list_any (ltb 0) after there in
        let low : i < length ps = omega (arith, low, are_rounds.many) in
        (i, low, (are_rounds.each i low).0 (λ none. grind (arith, nat_tests, get_or_default after i n 0, are_rounds.many, low, is, on, none)))
    | inr none ↦ absurd (grind (arith, nat_tests, sum_by-le (λ x. x) 0 after (λ i d low. grind (arith, nat_tests, list_any_at (ltb 0) after i d low, none)), more))
  ]

  module _ (nowhere : ltb 0 (sum after) ≡ false) where
    none : (i : ℕ) → i < length ps → number_at after i ≡ 0
    none i low = grind (arith, nat_tests, get_or-le-sum_by (λ x. x) after i 0, are_rounds.many, low, nowhere)

    pub no_round : HasRound ps → ⊥
    no_round (i, low, round) = (are_rounds.each i low).1 round (none i low)

    listed : (i : ℕ) → i < length ps → (i ≡ 0 → parent_of ps 0 ≢ 0) → turn_of peels i < length peels
    listed i low other = none_left i low (grind (arith, nat_tests, here i, none i low, other))

    -- otherwise all places are in it, and the parent of the last one is behind it
    top : number_at ps 0 ≡ 0
    top =
        let last : ℕ = number_at peels (length peels - 1) in
        let inside = λ (other : parent_of ps 0 ≢ 0) (i : ℕ) (low : i < length ps). listed i low (λ _. other) in
        grind (arith, same 0 a.some, inside, a.some, done.once (length peels - 1), a.within last, done.behind last)

    pub in_order : IsOrder ps peels
    in_order = record {
      once = done.once;
      top = top;
      above = grind (arith, done.behind 0 a.some, ap (turn_of peels) top, turn_few peels 0);
      ahead = λ i low other. grind (arith, done.behind i low, listed i low (λ is. absurd (other is)), turn_few peels (number_at ps i));
    }
