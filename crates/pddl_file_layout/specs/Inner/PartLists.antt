-- Sections in their canonical order. No public contract names these.
use Rattle.std.specs.Prelude.{List, [], ◌∷◌}

-- a section, where it has content
abbrev pub part_list : {P X : Type 0} → (List X → P) → List X → List P
part_list make [] = []
part_list make (x ∷ xs) = make (x ∷ xs) ∷ []
