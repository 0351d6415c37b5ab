-- What the code and the proofs go by: the places of a forest in an order in which each comes before its parent, how they are found and what is numbered in it.
-- No public contract names these.
use Rattle.std.specs.Prelude.{◌≡◌, ◌≢◌, ◌+◌, ◌^◌, ◌≤◌, ◌<◌, cond, eqb, ltb, ℕ, List, length, take, sum}
use Rattle.std.specs.List.{count_by, position_or_len, sum_by}
use Rattle.pddl_forest.specs.Forests.{number_at}
use Rattle.pddl_forest.specs.Spans.{at}
use Rattle.pddl_forest.specs.declared.spans.Span.{Span}

-- places that each have a parent's place, some of them, and so few that a `u32` has their number
pub record AreParents (ps : List ℕ) : Type 0 where
  pub some : 0 < length ps
  pub short : length ps < 2 ^ 32
  pub within : (i : ℕ) → i < length ps → number_at ps i < length ps

-- the turn at which a place stands in an order, or how many stand there where it does not
abbrev pub turn_of : List ℕ → ℕ → ℕ
turn_of order i = position_or_len (eqb i) order

-- for each of so many places, how many of some numbers it is
pub record AreCounted (left numbers : List ℕ) (many : ℕ) : Type 0 where
  pub long : length left ≡ many
  pub each : (i : ℕ) → i < many → number_at left i ≡ count_by (eqb i) numbers

-- Places, each once and before its parent: all but 0, which is its own parent.
pub record IsOrder (ps order : List ℕ) : Type 0 where
  pub once : (u : ℕ) → u < length order → (number_at order u < length ps) × (turn_of order (number_at order u) ≡ u)
  pub top : number_at ps 0 ≡ 0
  pub above : turn_of order 0 ≡ length order
  pub ahead : (i : ℕ) → i < length ps → i ≢ 0 → turn_of order i < turn_of order (number_at ps i)

-- how many places are a span's or under it, where it is not put behind another yet
abbrev pub left_under : Span → ℕ
left_under s = cond (eqb s.first 0) (s.last + 1) 0

-- Each span's last number is how many places are under its place by then; those of the places that are not in an order yet have all places. The spans of the others
-- begin behind the number of their parent, one behind the other, and end in what is under it.
pub record AreUnder (ps order : List ℕ) (spans : List Span) : Type 0 where
  pub long : length spans ≡ length ps
  pub total : sum_by left_under spans ≡ length ps
  pub put : (i : ℕ) → i < length ps → ltb 0 (at spans i).first ≡ ltb (turn_of order i) (length order)
  pub within : (i : ℕ) → i < length ps → 0 < (at spans i).first → (at spans i).first + (at spans i).last ≤ (at spans (number_at ps i)).last
  pub apart : (i j : ℕ) → i < length ps → j < length ps → i ≢ j → number_at ps i ≡ number_at ps j → 0 < (at spans i).first → (at spans i).first ≤ (at spans j).first
      → (at spans i).first + (at spans i).last < (at spans j).first

-- Places that are peeled off, each once and behind its children: these have no place for a parent any more. So many children of each place are left.
pub record ArePeeled (ps left order : List ℕ) (spans : List Span) : Type 0 where
  pub kept : List ℕ
  pub long : length kept ≡ length ps
  pub counted : AreCounted left kept (length ps)
  pub each : (i : ℕ) → i < length ps → number_at kept i ≡ cond (ltb 0 (at spans i).first) (length ps) (number_at ps i)
  pub once : (u : ℕ) → u < length order → (number_at order u < length ps) × (turn_of order (number_at order u) ≡ u)
  pub behind : (i : ℕ) → i < length ps → turn_of order (number_at ps i) < length order → turn_of order i < turn_of order (number_at ps i)
  pub under : AreUnder ps order spans

-- So many are peeled off, and stand in front in the slots of an order; with the children that are left they are as many as all places. Of the places before one,
-- those of which no child is left are peeled off.
pub record ArePeeling (ps left slots : List ℕ) (turns : ℕ) (spans : List Span) (many : ℕ) : Type 0 where
  pub long : length slots ≡ length ps
  pub rest : turns + sum left ≡ length ps
  pub peeled : ArePeeled ps left (take turns slots) spans
  pub past : (i : ℕ) → i < length ps → number_at left i ≡ 0 → (at spans i).first ≡ 0 → many ≤ i
