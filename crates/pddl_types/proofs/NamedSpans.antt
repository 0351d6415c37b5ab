-- Types by their spans: what is under a type is what has its first number in the type's span.
use Rattle.std.proofs.Common.{◌-◌, ◌≡◌, ℕ, ◌^◌, ◌<◌, ◌≤◌, Bool, true, false, ◌&&◌, eqb, List, map, length, refl, sym, ap, ◌∙◌, subst, arith, ◌↔◌, IsTrue, Contains}
use Rattle.std.specs.Cmp.{both_ways}
use Rattle.std.specs.List.{list_any}
use Rattle.std.proofs.lemmas.Bool.Decides.{nat_tests}
use Rattle.std.proofs.lemmas.List.{length-map, get_or_past}
use Rattle.pddl_forest.specs.Spans.{holds, some_holds, hold_all, AreSpans}
use Rattle.pddl_forest.specs.declared.spans.Span.{Span}
use Rattle.pddl_domain.specs.Declarations.{TypeValue}
use Rattle.pddl_task.specs.Names.{Name, is_in, number_in}
use Rattle.pddl_task.specs.Types.{types_of, pairs, is_under, is_subtype, fits}
use Rattle.pddl_types.specs.TypeTables.{Row, names_in, parents_in, StandsAt, IsTypeTable}
use Rattle.pddl_types.specs.TypeSpans.{TypesValue, span_of, IsTold, DoTell, are_types}
use Rattle.pddl_task.proofs.Lists.{any_found, found_any, all_found, found_all, mapped_is, is_mapped}
use Rattle.pddl_task.proofs.Subtypes.{is_under_decides, under_found, under_through}
use Rattle.pddl_types.proofs.TypeTables.{same_types, below, number_past, place_in, under_numbered}

-- ---- spans

abbrev is_same : Span → Span → Bool
is_same s u = eqb s.first u.first && eqb s.last u.last

-- ---- the spans of types

-- types, as a table has them
abbrev pub AreInTable : TypesValue → Type 0
AreInTable t = (rows : List Row) × (t.names ≡ names_in rows) × IsTypeTable t.declared rows × AreSpans (parents_in rows) t.spans

pub in_table : {declared : List TypeValue} {rows : List Row} {spans : List Span} {t : TypesValue} → record { declared = declared; names = names_in rows; spans = spans } ≡ t
    → IsTypeTable declared rows × AreSpans (parents_in rows) spans × (length spans < 2 ^ 32) → AreInTable t
in_table {rows = rows} is h = subst AreInTable is (rows, refl, h.0, h.1)

module _ (t : TypesValue) (h : AreInTable t) where
  abbrev is_type : Name → Bool
  is_type = is_in (types_of t.declared)

  abbrev number : Name → ℕ
  number = number_in t.names

  stands : (n : Name) → is_type n ≡ true → StandsAt h.0 (number n) n
  stands n type = subst (λ ns. StandsAt h.0 (number_in ns n) n) (sym h.1) (place_in t.declared h.0 h.2 n type)

  behind : (n : Name) → is_type n ≡ false → ((span_of t n).first ≡ length t.spans) × ((span_of t n).last ≡ length t.spans)
  behind n off =
      let past = ap (λ ns. number_in ns n) h.1 ∙ number_past h.0 n (h.2.1.has n ∙ off) in
      let span = get_or_past t.spans (number n) (record { first = length t.spans; last = length t.spans }) (omega (arith, past, h.3.many, length-map h.0 (λ (r : Row). r.1 - 1))) in
      (ap (λ (s : Span). s.first) span, ap (λ (s : Span). s.last) span)

  within : (n : Name) → is_type n ≡ true → ((span_of t n).first ≤ (span_of t n).last) × ((span_of t n).last < length t.spans)
  within n type = let low = below h.0 (number n) n (stands n type) in (h.3.some (number n) low, omega (arith, h.3.low (number n) low, h.3.many))

  pub some : (n : Name) → (span_of t n).first ≤ (span_of t n).last
  some n = grind (arith, within n, behind n)

  pub all_some : (names : List Name) (spans : List Span) → spans ≡ map (span_of t) names → (s : Span) → Contains spans s → s.first ≤ s.last
  all_some names spans is s there =
      let n = mapped_is (span_of t) names s (subst (λ us. Contains us s) is there) in
      subst (λ (u : Span). u.first ≤ u.last) n.2 (some n.0)

  -- ---- what is under what

  abbrev under : Name → Name → Bool
  under = is_under (pairs t.declared)

  abbrev test : Name → Name → Bool
  test n m = holds (span_of t m) (span_of t n).first

  both_test : (n m : Name) → is_type n ≡ true → is_type m ≡ true → IsTrue (test n m) ↔ IsTrue (under n m)
  both_test n m one other =
      let at = stands n one in
      let there = stands m other in
      let spans = h.3.under (number n) (number m) (below h.0 (number n) n at) (below h.0 (number m) m there) in
      let places = under_numbered t.declared h.0 h.2 (number n) (number m) n m at there in
      (λ yes. places.1 (spans.0 yes), λ yes. spans.1 (places.0 yes))

  over_type : (n m : Name) → under n m ≡ true → is_type n ≡ true → is_type m ≡ true
  over_type n m up type = sym (same_types t.declared h.2.0 n m ((is_under_decides (pairs t.declared) n m).0 up)) ∙ type

  is_test : (n m : Name) → is_type n ≡ true → test n m ≡ under n m
  is_test n m type =
      let two = both_test n m type in
      both_ways (test n m) (under n m)
      (λ yes. (two (grind (arith, yes, within n type, behind m))).0 yes)
      (λ yes. (two (over_type n m yes type)).1 yes)

  pub test_told : (n m : Name) (number : ℕ) (over : Span) → is_type n ≡ true → number ≡ (span_of t n).first → over ≡ span_of t m → holds over number ≡ under n m
  test_told n m number over known is also = ap (λ s. holds s number) also ∙ ap (holds (span_of t m)) is ∙ is_test n m known

  -- a test of types alone
  pub subtype_told : (n m : Name) (number : ℕ) (over : Span) → is_type n ≡ true → number ≡ (span_of t n).first → over ≡ span_of t m → holds over number ≡ is_subtype t.declared n m
  subtype_told n m number over known is also = grind (arith, test_told n m number over known is also, over_type n m, known)

  through : (n m u : Name) → under n m ≡ true → under m u ≡ true → under n u ≡ true
  through n m u low high =
      under_found (pairs t.declared) n u (under_through (pairs t.declared) n m u ((is_under_decides (pairs t.declared) n m).0 low) ((is_under_decides (pairs t.declared) m u).0 high))

  -- ---- what is told by tops

  -- a top is the span of one of the names
  top_of : (names : List Name) (tops : List Span) (s : Span) → IsTold t names tops → Contains tops s → (m : Name) × Contains names m × (span_of t m ≡ s)
  top_of names tops s told there =
      let one = any_found (is_same s) (map (span_of t) names) (told.tops_are.each s there) in
      let m = mapped_is (span_of t) names one.0 one.1 in
      (m.0, m.1, grind (arith, nat_tests, m.2, one.2))

  -- the span of a name begins in that of one of the names, which is a top
  in_top : (names : List Name) (tops : List Span) (n : Name) → IsTold t names tops → some_holds tops (span_of t n).first ≡ true
      → (m : Name) × Contains names m × Contains tops (span_of t m) × (test n m ≡ true)
  in_top names tops n told some_do =
      let s = any_found (λ u. holds u (span_of t n).first) tops some_do in
      let m = top_of names tops s.0 told s.1 in
      (m.0, m.1, subst (Contains tops) (sym m.2) s.1, ap (λ u. holds u (span_of t n).first) m.2 ∙ s.2)

  pub do_tell : DoTell t
  do_tell n slot tops told type =
      both_ways (some_holds tops (span_of t n).first) (list_any (under n) slot)
      (λ yes. let m = in_top slot tops n told yes in found_any (under n) slot m.0 m.1 (sym (is_test n m.0 type) ∙ m.3))
      (λ yes.
      let m = any_found (under n) slot yes in
      let u = in_top slot tops m.0 told (told.tops_are.all (span_of t m.0) (is_mapped (span_of t) slot m.0 m.1)) in
      let up = through n m.0 u.0 m.2 (sym (is_test m.0 u.0 (over_type n m.0 m.2 type)) ∙ u.3) in
      found_any (λ s. holds s (span_of t n).first) tops (span_of t u.0) u.2 (is_test n u.0 type ∙ up))

  -- what is told of two types tells whether one fits the other
  pub tops_fit : (types slot : List Name) (told tops : List Span) → IsTold t types told → IsTold t slot tops → IsTrue (are_types t.declared types)
      → hold_all tops told ≡ fits (pairs t.declared) types slot
  tops_fit types slot told tops first second known =
      both_ways (hold_all tops told) (fits (pairs t.declared) types slot)
      (λ yes. found_all (λ n. list_any (under n) slot) types (λ n there.
      let m = in_top types told n first (first.tops_are.all (span_of t n) (is_mapped (span_of t) types n there)) in
      let u = any_found (under m.0) slot (sym (do_tell m.0 slot tops second (type m.0 m.1)) ∙ all_found (λ s. some_holds tops s.first) told yes (span_of t m.0) m.2) in
      found_any (under n) slot u.0 u.1 (through n m.0 u.0 (sym (is_test n m.0 (type n there)) ∙ m.3) u.2)))
      (λ yes. found_all (λ s. some_holds tops s.first) told (λ s there.
      let m = top_of types told s first there in
      ap (λ (u : Span). some_holds tops u.first) (sym m.2) ∙ do_tell m.0 slot tops second (type m.0 m.1) ∙ all_found (λ n. list_any (under n) slot) types yes m.0 m.1))
    where
      type : (n : Name) → Contains types n → is_type n ≡ true
      type n there = all_found is_type types known n there
