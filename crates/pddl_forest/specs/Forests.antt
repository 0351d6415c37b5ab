-- Places that each have a parent's place, and which are under which. Own.
use Rattle.std.specs.Prelude.{◌≡◌, ℕ, zero, suc, List, slice_index_or}

-- the place of a place's parent
abbrev pub parent_of : List ℕ → ℕ → ℕ
parent_of ps i = slice_index_or ps i i

-- so many steps from parent to parent
abbrev pub up : List ℕ → ℕ → ℕ → ℕ
up ps zero i = i
up ps (suc n) i = up ps n (parent_of ps i)

-- a place is another or below it: that is come to from it, from parent to parent
abbrev pub IsUnder : List ℕ → ℕ → ℕ → Type 0
IsUnder ps i g = (n : ℕ) × (up ps n i ≡ g)

-- the number at a place, or 0 where none stands
abbrev pub number_at : List ℕ → ℕ → ℕ
number_at numbers i = slice_index_or numbers i 0
