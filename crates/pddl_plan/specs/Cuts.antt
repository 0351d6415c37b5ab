-- A list cut into parts that stand side by side, each known by its end.
use Rattle.std.specs.Prelude.{ℕ, ◌<◌, List, [], ◌∷◌, slice_index, slice_range}

-- the parts from a place on that end at these places
abbrev pub cut : {A : Type 0} → List A → ℕ → List ℕ → List (List A)
cut xs start [] = []
cut xs start (end ∷ ends) = slice_range xs start end ∷ cut xs end ends

-- where the last part ends
abbrev pub last_end : ℕ → List ℕ → ℕ
last_end start [] = start
last_end start (end ∷ ends) = last_end end ends

-- no part is empty
abbrev pub Rises : ℕ → List ℕ → Type 0
Rises start [] = Unit {0}
Rises start (end ∷ ends) = (start < end) × Rises end ends

-- where the part of a number begins
abbrev pub start_of : List ℕ → ℕ → ℕ
start_of ends n = slice_index (0 ∷ ends) n
