-- Happenings as contracts see them.
use Rattle.std.specs.Prelude.{ℕ, List, map, Option}

-- A happening: its moment, in billionths, of which a happening of a plain plan has none, and the numbers of its steps.
pub record HappeningValue : Type 0 where
  pub moment : Option ℕ
  pub steps : List ℕ

-- The steps of happenings.
abbrev pub groups_of : List HappeningValue → List (List ℕ)
groups_of hs = map (λ h. h.steps) hs

-- The moments of happenings.
abbrev pub moments_of : List HappeningValue → List (Option ℕ)
moments_of hs = map (λ h. h.moment) hs
