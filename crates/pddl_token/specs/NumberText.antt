-- The canonical text of a number in billionths. Own.
use Rattle.std.specs.Prelude.{ℕ, zero, suc, ◌+◌, ◌/◌, ◌%◌, List, [], ◌∷◌, ◌++◌, codes, ◌==◌, if◌then◌else◌}
use Rattle.std.specs.List.{list_all}
use Rattle.std.specs.Fmt.{decimal}

-- so many digits of a number, with zeros in front
unfoldable pub padded : ℕ → ℕ → List ℕ
padded zero n = []
padded (suc len) n = padded len (n / 10) ++ (48 + n % 10) ∷ []

-- up to the last digit other than `0`
abbrev pub trimmed : List ℕ → List ℕ
trimmed [] = []
trimmed (digit ∷ digits) = if list_all (λ b. b == 48) (digit ∷ digits) then [] else digit ∷ trimmed digits

-- nothing, or a point and the decimals
abbrev pub pointed : List ℕ → List ℕ
pointed [] = []
pointed (digit ∷ digits) = codes "." ++ (digit ∷ digits)

-- the whole part, then the decimals without zeros at the end
unfoldable pub number_text : ℕ → List ℕ
number_text n = decimal (n / 1000000000) ++ pointed (trimmed (padded 9 (n % 1000000000)))
