-- The value of a number's text, in billionths. Own: PDDL's numbers have no range.
use Rattle.std.specs.Prelude.{ℕ, ◌+◌, ◌*◌, ◌-◌, List, ◌++◌, Option, Some, None, take, drop, replicate, nat_le, ◌==◌, ◌&&◌, if◌then◌else◌}
use Rattle.std.specs.List.{list_all, take_while, prefix_len, fold}
use Rattle.std.specs.Char.{is_ascii_digit}

-- what stands behind the digits and the point
abbrev pub decimals_of : List ℕ → List ℕ
decimals_of text = drop (prefix_len is_ascii_digit text + 1) text

-- nine decimals, filled up with `0`
abbrev pub nine_of : List ℕ → List ℕ
nine_of decimals = take 9 (decimals ++ replicate 9 48)

-- one digit more
abbrev pub add_digit : ℕ → ℕ → ℕ
add_digit n digit = n * 10 + (digit - 48)

-- the digits before the point and nine decimals, as one number
abbrev pub billionths_of : List ℕ → ℕ
billionths_of text = fold add_digit 0 (take_while is_ascii_digit text ++ nine_of (decimals_of text))

-- the largest number in billionths
abbrev pub largest : ℕ
largest = 9999999999999999999

-- the number in billionths, where no digit after the ninth decimal is other than `0` and it is in range
abbrev pub value_of : List ℕ → Option ℕ
value_of text = if list_all (λ b. b == 48) (drop 9 (decimals_of text)) && nat_le (billionths_of text) largest then Some (billionths_of text) else None
