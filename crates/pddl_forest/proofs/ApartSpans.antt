-- Spans that are apart, what they hold, and tops of spans.
use Rattle.std.proofs.Common.{◌≡◌, ℕ, zero, suc, ◌+◌, ◌-◌, ◌<◌, ◌≤◌, ◌==◌, ◌&&◌, leb, Bool, true, false, List, [], ◌∷◌, length, take, drop, sym, ap, ◌∙◌, subst, arith, ◌⊎◌, inl, inr, Contains}
use Rattle.std.proofs.lemmas.Bool.{leb-true, leb-false, le-leb, eq-eqb, and_parts, and_from, cond_both, or_left}
use Rattle.std.proofs.lemmas.Bool.Decides.{nat_tests}
use Rattle.std.proofs.lemmas.List.{get_or_default, get_or-drop, get_or-take, length-drop, length-take-le}
use Rattle.std.proofs.lemmas.List.Elements.{Contains-get_or}
use Rattle.std.proofs.lemmas.List.Filters.{All-dedup}
use Rattle.std.proofs.lemmas.List.Folds.{list_any_at, Any-from_list_any, list_any_none, list_all_at}
use Rattle.std.proofs.lemmas.List.Kept.{AllPairs-cons, Contains-from_dedup}
use Rattle.std.proofs.lemmas.List.Sorted.{Contains-permutation, IsPermutation-sym, IsNonDecreasingBy-drop, IsNonDecreasingBy-from_default, IsNonDecreasingBy-take, IsPartitionedBy-leb}
use Rattle.std.specs.List.{AllPairs, dedup, dedup_from}
use Rattle.std.specs.List.Sorted.{IsNonDecreasingBy, IsPartitionPoint, IsPartitionedBy, IsPermutation}
use Rattle.pddl_forest.specs.Spans.{holds, some_holds, AreApart, AreTops, hold_all, at}
use Rattle.pddl_forest.specs.declared.spans.Span.{Span}
use Rattle.std.proofs.lemmas.List.Sums.{list_all-from_AllPass}

pub held : (s : Span) (n : ℕ) → s.first ≤ n → n ≤ s.last → holds s n ≡ true
held s n from to = and_from (leb s.first n) (leb n s.last) (le-leb s.first n from) (le-leb n s.last to)

-- ---- spans that are apart

pub rising : {spans : List Span} → AreApart spans → (i j : ℕ) → i ≤ j → j < length spans → (at spans i).first ≤ (at spans j).first
rising h i j le low = grind (arith, h.own i (omega (arith, le, low)), h.behind i j, le, low)

-- of a part of them, those that begin at or before a number stand in front of the others
pub parted : (spans : List Span) (n start many : ℕ) → AreApart spans → IsPartitionedBy (λ s. leb s.first n) (take many (drop start spans))
parted spans n start many h =
    IsPartitionedBy-leb (λ s. s.first) (take many (drop start spans)) n (IsNonDecreasingBy-take (λ s. s.first) many (drop start spans)
    (IsNonDecreasingBy-drop (λ s. s.first) start spans (IsNonDecreasingBy-from_default (λ s. s.first) spans (record { first = 0; last = 0 }) (rising h))))

-- where they end in the part, they end in all, if those in front of the part begin so too, and the one behind it does not
pub parted_at : {spans : List Span} (n start end many : ℕ) → AreApart spans → start + many ≤ end → end ≤ length spans → ((i : ℕ) → i < start → (at spans i).first ≤ n)
    → (end < length spans → n < (at spans end).first) → IsPartitionPoint (λ s. leb s.first n ≡ true) (λ s. leb s.first n ≡ false) (take (end - start) (drop start spans)) many
    → ((i : ℕ) → i < start + many → (at spans i).first ≤ n) × ((i : ℕ) → start + many ≤ i → i < length spans → n < (at spans i).first)
parted_at {spans} n start end many apart few within before after point = (
  λ i low. grind (arith, nat_tests, before i, one i, point.0 (i - start) none, low, few),
  λ i past low. grind (arith, nat_tests, one i, point.1 (i - start) none, after, rising apart end i, length-take-le (end - start) (drop start spans), length-drop start spans, within, past, low),
)
  where
    none : Span
    none = record { first = 0; last = 0 }

    one : (i : ℕ) → start ≤ i → i < end → at (take (end - start) (drop start spans)) (i - start) ≡ at spans i
    one i from inside = get_or-take (end - start) (drop start spans) (i - start) none (omega (arith, from, inside)) ∙ get_or-drop start spans (i - start) none ∙ ap (at spans) (omega (arith, from))

-- a number that some span holds is held by the last that begins at or before it
pub last_holds : {spans : List Span} (n point : ℕ) → AreApart spans → point ≤ length spans → ((i : ℕ) → i < point → (at spans i).first ≤ n)
    → ((i : ℕ) → point ≤ i → i < length spans → n < (at spans i).first) → some_holds spans n ≡ true → (0 < point) × (holds (at spans (point - 1)) n ≡ true)
last_holds {spans} n point apart within before past some =
    let (k, s, low, is, on) = Any-from_list_any (λ s. holds s n) spans some in
    let on : holds (at spans k) n ≡ true = rw (get_or_default spans k (record { first = 0; last = 0 }) s low ∙ is) on in
    let (from, to) = and_parts (leb (at spans k).first n) (leb n (at spans k).last) on in
    let begun : k < point = grind (arith, past k, low, leb-true (at spans k).first n from) in
    let last : point - 1 ≡ k = grind (arith, begun, leb-true n (at spans k).last to, before (k + 1), apart.behind k (k + 1), within) in
    (omega (arith, begun), rw last on)

-- ---- the first numbers of others in runs: those that one span holds stand side by side

-- In front of the k-th span, those of the others before a place are held, and the others begin behind the spans so far.
pub record AreRuns (outer inner : List Span) (k next : ℕ) : Type 0 where
  pub within : next ≤ length inner
  pub past : (i : ℕ) → i < next → some_holds outer (at inner i).first ≡ true
  pub left : (i j : ℕ) → next ≤ i → i < length inner → j < k → (at outer j).last < (at inner i).first

module _ {outer inner : List Span} {k next : ℕ} (runs : AreRuns outer inner k next) where
  -- the next one is held by none where the spans from the k-th on begin behind it
  pub one_missed : next < length inner → ((j : ℕ) → k ≤ j → j < length outer → (at inner next).first < (at outer j).first) → hold_all outer inner ≡ false
  one_missed low later =
      let n = (at inner next).first in
      list_all_at (λ s. some_holds outer s.first) inner next (record { first = 0; last = 0 }) low (list_any_none (λ s. holds s n) outer (λ j d inside. rw (get_or_default outer j d (record { first = 0; last = 0 }) inside)
      (grind (arith, nat_tests, runs.left next j, low, later j, inside))))

  -- all are held where none is left
  pub all_past : next ≡ length inner → hold_all outer inner ≡ true
  all_past none = list_all-from_AllPass (λ s. some_holds outer s.first) inner (λ i d low. rw (get_or_default inner i d (record { first = 0; last = 0 }) low) (runs.past i (omega (arith, none, low))))

  -- those that the k-th span holds, where the next one begins in it or behind it
  pub one_run : AreApart outer → AreApart inner → k < length outer → (next < length inner → (at outer k).first ≤ (at inner next).first) → (new : ℕ) → new ≤ length inner
      → ((i : ℕ) → i < new → (at inner i).first ≤ (at outer k).last) → ((i : ℕ) → new ≤ i → i < length inner → (at outer k).last < (at inner i).first) → AreRuns outer inner (k + 1) new
  one_run apart sorted here begins new within before past = record {
    within = within;
    past = λ i low. grind (arith, nat_tests, runs.past i, list_any_at (λ s. holds s (at inner i).first) outer k (record { first = 0; last = 0 }) here, begins, rising sorted next i, before i low, within, low);
    left = λ i j from low earlier. grind (arith, apart.behind j k, here, apart.own k here, past i from low, earlier);
  }

-- ---- tops

-- a span begins within one that is kept
abbrev pub within : Span → Span → Bool
within next before = leb next.first before.last

kept_apart : (k : Span) (xs : List Span) → IsNonDecreasingBy (λ s. s.first) xs → AllPairs (λ s t. s.last < t.first) (dedup_from within k xs)
kept_apart k [] up = λ i j d less low. absurd (omega (arith, less, low))
kept_apart k (x ∷ xs) up =
    let rest = IsNonDecreasingBy-drop (λ s. s.first) 1 (x ∷ xs) up in
    cond_both (within x k) (dedup_from within k xs) (k ∷ dedup_from within x xs) (AllPairs (λ s t. s.last < t.first)) (λ _. kept_apart k xs rest) (λ other.
    AllPairs-cons (λ s t. s.last < t.first) k (dedup_from within x xs)
    (All-dedup within (λ t. k.last < t.first) (x ∷ xs) (λ i d low. let past = leb-false x.first k.last other in let more = up 0 i d (omega arith) low in omega (arith, past, more)))
    (kept_apart x xs rest))

module _ (s : Span) (own : s.first ≤ s.last) where
  -- what begins in a span, or is one behind it, begins in what is kept from it on
  held_kept : (k : Span) (xs : List Span) → IsNonDecreasingBy (λ t. t.first) xs → k.first ≤ s.first → (s.first ≤ k.last) ⊎ Contains xs s → some_holds (dedup_from within k xs) s.first ≡ true
  held_kept k [] up from (inl to) = or_left (holds k s.first) false (held k s.first from to)
  held_kept k [] up from (inr (i, low, is)) = absurd (omega (arith, low))
  held_kept k (x ∷ xs) up from (inl to) = grind (arith, nat_tests, held_kept k xs (IsNonDecreasingBy-drop (λ t. t.first) 1 (x ∷ xs) up) from (inl to), from, to)
  held_kept k (x ∷ xs) up from (inr (zero, low, is)) =
      let rest = IsNonDecreasingBy-drop (λ t. t.first) 1 (x ∷ xs) up in
      let e : x.first ≡ s.first = ap (λ t. t.first) is in
      let same = λ (to : x.first ≤ k.last). held_kept k xs rest from (inl (omega (arith, e, to))) in
      let other : some_holds (dedup_from within x xs) s.first ≡ true = held_kept x xs rest (omega (arith, e)) (inl (omega (arith, own, ap (λ t. t.last) is))) in
      grind (arith, nat_tests, same, other)
  held_kept k (x ∷ xs) up from (inr (suc i, low, is)) =
      let rest = IsNonDecreasingBy-drop (λ t. t.first) 1 (x ∷ xs) up in
      let there : Contains xs s = (i, omega (arith, low), is) in
      grind (arith, nat_tests, held_kept k xs rest from (inr there), held_kept x xs rest (subst (λ t. x.first ≤ t.first) is (up 0 (suc i) s (omega arith) low)) (inr there))

  all_held : (xs : List Span) → IsNonDecreasingBy (λ t. t.first) xs → Contains xs s → some_holds (dedup within xs) s.first ≡ true
  all_held [] up (i, low, is) = absurd (omega (arith, low))
  all_held (k ∷ xs) up (zero, low, is) = held_kept k xs (IsNonDecreasingBy-drop (λ t. t.first) 1 (k ∷ xs) up) (omega (arith, ap (λ t. t.first) is)) (inl (omega (arith, own, ap (λ t. t.last) is)))
  all_held (k ∷ xs) up (suc i, low, is) =
      held_kept k xs (IsNonDecreasingBy-drop (λ t. t.first) 1 (k ∷ xs) up) (subst (λ t. k.first ≤ t.first) is (up 0 (suc i) s (omega arith) low)) (inr (i, omega (arith, low), is))

-- what is left of spans in the order of their first numbers
pub are_tops : (old spans : List Span) → IsPermutation old spans → IsNonDecreasingBy (λ s. s.first) spans → ((s : Span) → Contains old s → s.first ≤ s.last) → AreTops old (dedup within spans)
are_tops old spans same up own = record {
  each = λ s there.
      let (k, low, is) = old_one s there in
      list_any_at (λ t. (s.first == t.first) && (s.last == t.last)) old k s low (and_from _ _ (eq-eqb _ _ (ap (λ t. t.first) (sym is))) (eq-eqb _ _ (ap (λ t. t.last) (sym is))));
  all = λ s there. all_held s (own s there) spans up (Contains-permutation old spans s same there);
  apart = record {
    own = λ i low. own _ (old_one _ (Contains-get_or (dedup within spans) i _ low));
    behind = λ i j less low. all_apart spans up i j _ less low;
  };
}
  where
    old_one : (s : Span) → Contains (dedup within spans) s → Contains old s
    old_one s there = Contains-permutation spans old s (IsPermutation-sym old spans same) (Contains-from_dedup within spans s there)

    all_apart : (xs : List Span) → IsNonDecreasingBy (λ t. t.first) xs → AllPairs (λ s t. s.last < t.first) (dedup within xs)
    all_apart [] rest = λ i j d less low. absurd (omega (arith, low))
    all_apart (k ∷ xs) rest = kept_apart k xs (IsNonDecreasingBy-drop (λ t. t.first) 1 (k ∷ xs) rest)
