-- Ways from parent to parent that go round. Own.
use Rattle.std.specs.Prelude.{◌≡◌, ◌≢◌, ◌<◌, ◌↔◌, ℕ, suc, List, length}
use Rattle.pddl_forest.specs.Forests.{up, parent_of, number_at}

-- a place is come to again from its parent
abbrev pub GoesRound : List ℕ → ℕ → Type 0
GoesRound ps i = (n : ℕ) × (up ps (suc n) i ≡ i)

-- and not as place 0 that is its own parent
abbrev pub IsOnRound : List ℕ → ℕ → Type 0
IsOnRound ps i = GoesRound ps i × (i ≡ 0 → parent_of ps 0 ≢ 0)

-- some place is so
abbrev pub HasRound : List ℕ → Type 0
HasRound ps = (i : ℕ) × (i < length ps) × IsOnRound ps i

-- each place has a number, which is other than 0 where it is so, and only there
pub record AreRounds (ps numbers : List ℕ) : Type 0 where
  pub many : length numbers ≡ length ps
  pub each : (i : ℕ) → i < length ps → (number_at numbers i ≢ 0) ↔ IsOnRound ps i
