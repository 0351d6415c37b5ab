-- Places of a forest are numbered from the top: each as far behind the number of its parent as it was put there.
use Rattle.std.proofs.Common.{◌≡◌, ◌≢◌, ℕ, zero, suc, ◌+◌, ◌-◌, ◌<◌, ◌≤◌, leb, cond, eqb, List, length, slice_set, refl, sym, ap, ◌∙◌, arith, inl, inr}
use Rattle.std.proofs.lemmas.Bool.{and_parts, cases_eq, leb-true}
use Rattle.std.proofs.lemmas.Bool.Decides.{nat_tests}
use Rattle.std.proofs.lemmas.List.{get_or_default, length-set}
use Rattle.std.proofs.lemmas.List.Sums.{get_or-le-sum_by}
use Rattle.pddl_forest.specs.Forests.{up, parent_of, IsUnder, number_at}
use Rattle.pddl_forest.specs.Spans.{span_at, AreSpans, at}
use Rattle.pddl_forest.specs.declared.spans.Span.{Span}
use Rattle.pddl_forest.specs.Inner.{AreParents, turn_of, IsOrder, AreUnder, left_under}
use Rattle.pddl_forest.proofs.ApartSpans.{held}
use Rattle.pddl_forest.proofs.Peels.{at_set, nothing, turn_few, at_turn}

-- From a turn on, spans are numbered: each begins as far behind that of the parent as it did behind 0, and is as long as it was. The others are as they were.
pub record AreNumbered (ps order : List ℕ) (old spans : List Span) (turn : ℕ) : Type 0 where
  pub long : length spans ≡ length ps
  pub rest : (i : ℕ) → turn_of order i < turn → at spans i ≡ at old i
  pub first : (i : ℕ) → i < length ps → turn ≤ turn_of order i → (at spans i).first ≡ (at old i).first + (at spans (number_at ps i)).first
  pub last : (i : ℕ) → i < length ps → turn ≤ turn_of order i → (at spans i).last ≡ (at old i).last + (at spans i).first
  pub low : (i : ℕ) → i < length ps → turn ≤ turn_of order i → (at spans i).last < length ps

module _ {ps order : List ℕ} (a : AreParents ps) (o : IsOrder ps order) {old : List Span} (u : AreUnder ps order old) where
  top : (at old 0).first ≡ 0
  top = grind (arith, nat_tests, u.put 0 a.some, o.above)

  begun : (i : ℕ) → i < length ps → i ≢ 0 → 0 < (at old i).first
  begun i low other = grind (arith, nat_tests, u.put i low, o.ahead i low other, turn_few order (number_at ps i))

  is_top : (i : ℕ) → i < length ps → length order ≤ turn_of order i → i ≡ 0
  is_top i low past = grind (arith, o.ahead i low, turn_few order (number_at ps i), past)

  pub top_numbered : AreNumbered ps order old old (length order)
  top_numbered = record {
    long = u.long;
    rest = λ i before. refl;
    first = λ i low past. rw (is_top i low past, o.top) (omega (arith, top));
    last = λ i low past. rw (is_top i low past) (omega (arith, top));
    low = λ i low past. rw (is_top i low past) (grind (arith, nat_tests, top, get_or-le-sum_by left_under old 0 nothing (omega (arith, a.some, u.long)), u.total));
  }

  -- ---- one more is numbered, as it is written from the end of the order
  module _ {spans : List Span} {turns : ℕ} (more : 0 < turns) (few : turns ≤ length order) (h : AreNumbered ps order old spans turns) where
    abbrev p : ℕ
    p = number_at order (turns - 1)

    read : (p < length ps) × (turn_of order p ≡ turns - 1)
    read = o.once (turns - 1) (omega (arith, more, few))

    later : turns ≤ turn_of order (number_at ps p)
    later = grind (arith, o.ahead p read.0, o.above, read.1, more, few)

    abbrev start : ℕ
    start = (at spans p).first + (at spans (number_at ps p)).first

    was : at spans p ≡ at old p
    was = h.rest p (omega (arith, read.1, more))

    pub written_fits : (at spans p).last + start < length ps
    written_fits = grind (arith, was, u.within p read.0, u.put p read.0, read.1, more, few, h.last (number_at ps p) (a.within p read.0) later, h.low (number_at ps p) (a.within p read.0) later)

    abbrev placed : Span
    placed = record { first = start; last = (at spans p).last + start }

    abbrev next : List Span
    next = slice_set spans p placed

    at_next : (i : ℕ) → at next i ≡ cond (eqb i p) placed (at spans i)
    at_next i = at_set spans p i placed nothing (omega (arith, read.0, h.long))

    past : (i : ℕ) → turns - 1 ≤ turn_of order i → i ≢ p → turns ≤ turn_of order i
    past i after differ = grind (arith, at_turn order i, differ, more, few, after)

    pub written : AreNumbered ps order old (slice_set spans p (record { first = start; last = (at spans p).last + start })) (turns - 1)
    written = record {
      long = length-set spans p _ ∙ h.long;
      rest = λ i before. grind (arith, nat_tests, at_next i, read.1, before, h.rest i);
      first = λ i low after. grind (arith, nat_tests, at_next i, at_next (number_at ps i), o.ahead i low, later, read.1, was, past i after, h.first i low, o.top, top);
      last = λ i low after. grind (arith, nat_tests, at_next i, was, past i after, h.last i low);
      low = λ i low after. grind (arith, nat_tests, at_next i, written_fits, past i after, h.low i low);
    }

  -- ---- where all are numbered, spans are nested as places are
  module _ {spans : List Span} {turns : ℕ} (h : AreNumbered ps order old spans turns) (all : turns ≤ 0) where
    same : (i : ℕ) → i < length ps → parent_of ps i ≡ number_at ps i
    same i low = get_or_default ps i i 0 low

    own : (i : ℕ) → i < length ps → (at spans i).first ≤ (at spans i).last
    own i low = omega (arith, h.last i low (omega arith))

    nested : (i : ℕ) → i < length ps → i ≢ 0 → ((at spans (number_at ps i)).first < (at spans i).first) × ((at spans i).last ≤ (at spans (number_at ps i)).last)
    nested i low other =
        let begun = begun i low other in
        let first = h.first i low (omega arith) in
        (omega (arith, begun, first), omega (arith, u.within i low begun, first, h.last i low (omega arith), h.last (number_at ps i) (a.within i low) (omega arith)))

    below : (n i : ℕ) → i < length ps → ((at spans (up ps n i)).first ≤ (at spans i).first) × ((at spans i).last ≤ (at spans (up ps n i)).last)
    below zero i low = (omega arith, omega arith)
    below (suc n) i low =
        let over = below n (number_at ps i) (a.within i low) in
        rw (same i low) (grind (arith, over.0, nested i low, o.top), grind (arith, over.1, nested i low, o.top))

    to_top : (f i : ℕ) → i < length ps → (at spans i).first < f → IsUnder ps i 0
    to_top zero i low few = absurd (omega (arith, few))
    to_top (suc f) i low few = elim (cases_eq i 0) as (λ _. IsUnder ps i 0) [
      | inl is ↦ (0, is)
      | inr other ↦ let (n, is) = to_top f (number_at ps i) (a.within i low) (omega (arith, few, nested i low other)) in (suc n, rw (same i low) is)
    ]

    -- two that have one parent hold no number together
    apart : (i j : ℕ) → i < length ps → j < length ps → i ≢ 0 → j ≢ 0 → number_at ps i ≡ number_at ps j → i ≢ j → (at old i).first ≤ (at old j).first → (at spans i).last < (at spans j).first
    apart i j low also some other is differ less =
        omega (arith, u.apart i j low also differ is (begun i low some) less, h.first i low (omega arith), h.last i low (omega arith), h.first j also (omega arith), ap (λ k. (at spans k).first) is)

    one : (i j k : ℕ) → i < length ps → j < length ps → i ≢ 0 → j ≢ 0 → number_at ps i ≡ number_at ps j → ((at spans i).first ≤ k) × (k ≤ (at spans i).last) → ((at spans j).first ≤ k) × (k ≤ (at spans j).last) → i ≡ j
    one i j k low also some other is here there = grind (arith, apart i j low also some other is, apart j i also low other some (sym {a = number_at ps i} is), here.0, here.1, there.0, there.1)

    -- the way from a place to one above it comes through a child of that
    through : (n i g : ℕ) → i < length ps → up ps n i ≡ g → i ≢ g → (m : ℕ) × (up ps m i < length ps) × (number_at ps (up ps m i) ≡ g) × (up ps m i ≢ g)
    through zero i g low is other = absurd (other is)
    through (suc n) i g low is other = elim (cases_eq (number_at ps i) g) as (λ _. (m : ℕ) × (up ps m i < length ps) × (number_at ps (up ps m i) ≡ g) × (up ps m i ≢ g)) [
      | inl here ↦ (0, low, here, other)
      | inr later ↦ let (m, inside, over, end) = through n (number_at ps i) g (a.within i low) (rw (same i low) at is) later in (suc m, rw (same i low) inside, rw (same i low) over, rw (same i low) end)
    ]

    found : (f g i : ℕ) → i < length ps → g < length ps → (at spans g).first < f → (at spans g).first ≤ (at spans i).first → (at spans i).first ≤ (at spans g).last → IsUnder ps i g
    found zero g i low also few from to = absurd (omega (arith, few))
    found (suc f) g i low also few from to = elim (cases_eq g 0) as (λ _. IsUnder ps i g) [
      | inl is ↦ rw is (to_top ((at spans i).first + 1) i low (omega arith))
      | inr other ↦
          let inside = nested g also other in
          let (n, is) = found f (number_at ps g) i low (a.within g also) (omega (arith, few, inside)) (omega (arith, inside, from)) (omega (arith, inside, to)) in
          let (m, c_low, c_is, c_other) = through n i (number_at ps g) low is (λ e. omega (arith, ap (λ k. (at spans k).first) e, inside, from)) in
          let over = below m i low in
          let some : up ps m i ≢ 0 = λ e. c_other (grind (arith, o.top, e, c_is)) in
          (m, one (up ps m i) g (at spans i).first c_low also some other c_is (over.0, omega (arith, own i low, over)) (from, to))
    ]

    pub are_spans : AreSpans ps spans
    are_spans = record {
      many = h.long;
      some = λ i low. rw (read i low) (own i low);
      low = λ i low. rw (read i low) (h.low i low (omega arith));
      under = λ i g low also. rw (read i low, read g also) (
        λ on. let (from, to) = and_parts (leb (at spans g).first (at spans i).first) (leb (at spans i).first (at spans g).last) on in found ((at spans g).first + 1) g i low also (omega arith) (leb-true _ _ from) (leb-true _ _ to),
        λ (n, is). held (at spans g) (at spans i).first (omega (arith, below n i low, ap (λ k. (at spans k).first) is)) (omega (arith, below n i low, ap (λ k. (at spans k).last) is, own i low)),
      );
    }
      where
        read : (i : ℕ) → i < length ps → span_at spans i ≡ at spans i
        read i low = get_or_default spans i _ _ (omega (arith, low, h.long))
