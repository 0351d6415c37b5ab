-- Spans of numbers. Own.
use Rattle.std.specs.Prelude.{◌≡◌, ◌≤◌, ◌<◌, ◌&&◌, ◌==◌, ◌↔◌, ℕ, Bool, true, IsTrue, List, length, Contains, leb}
use Rattle.std.specs.List.{list_any, list_all, slice_index_or}
use Rattle.pddl_forest.specs.Forests.{IsUnder}
use Rattle.pddl_forest.specs.declared.spans.Span.{Span}

-- a span holds a number
abbrev pub holds : Span → ℕ → Bool
holds s n = leb s.first n && leb n s.last

-- one of some does
abbrev pub some_holds : List Span → ℕ → Bool
some_holds spans n = list_any (λ s. holds s n) spans

-- some hold the first number of each of others
abbrev pub hold_all : List Span → List Span → Bool
hold_all outer inner = list_all (λ s. some_holds outer s.first) inner

-- the span at a place, or one behind all numbers where none stands
abbrev pub span_at : List Span → ℕ → Span
span_at spans i = slice_index_or spans i (record { first = length spans; last = length spans })

-- the span at a place that has one
abbrev pub at : List Span → ℕ → Span
at spans i = slice_index_or spans i (record { first = 0; last = 0 })

-- each span has a number, and ends before those behind it begin
pub record AreApart (spans : List Span) : Type 0 where
  pub own : (i : ℕ) → i < length spans → (at spans i).first ≤ (at spans i).last
  pub behind : (i j : ℕ) → i < j → j < length spans → (at spans i).last < (at spans j).first

-- the span is one of these
abbrev pub is_one_of : List Span → Span → Bool
is_one_of spans s = list_any (λ t. (s.first == t.first) && (s.last == t.last)) spans

-- Tops of spans: some of them, apart, which hold the first number of each.
pub record AreTops (spans tops : List Span) : Type 0 where
  pub each : (s : Span) → Contains tops s → is_one_of spans s ≡ true
  pub all : (s : Span) → Contains spans s → some_holds tops s.first ≡ true
  pub apart : AreApart tops

-- Each place of a forest has a number below that of places, and the span from its own number to a last one holds those of the places under it, and no other's.
pub record AreSpans (ps : List ℕ) (spans : List Span) : Type 0 where
  pub many : length spans ≡ length ps
  pub some : (i : ℕ) → i < length ps → (span_at spans i).first ≤ (span_at spans i).last
  pub low : (i : ℕ) → i < length ps → (span_at spans i).last < length ps
  pub under : (i g : ℕ) → i < length ps → g < length ps → IsTrue (holds (span_at spans g) (span_at spans i).first) ↔ IsUnder ps i g
