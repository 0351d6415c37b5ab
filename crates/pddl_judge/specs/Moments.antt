-- Steps by moment.
use Rattle.std.specs.Prelude.{◌≡◌, ℕ, List, Option, Some, None, true, false, eqb}
use Rattle.std.specs.List.{list_any}
use Rattle.pddl_happenings.specs.Happenings.{steps_at}

-- What is kept for a moment, where ms has the moment of each step: where some step has it, the steps at that moment, and else nothing.
abbrev pub IsGroupAt : {X : Type 0} → (X → List ℕ) → List ℕ → ℕ → Option X → Type 0
IsGroupAt items ms m None = list_any (eqb m) ms ≡ false
IsGroupAt items ms m (Some v) = (list_any (eqb m) ms ≡ true) × (items v ≡ steps_at ms m)
