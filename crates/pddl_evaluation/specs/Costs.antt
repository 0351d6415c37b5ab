-- How many amounts a change can add up.
use Rattle.std.specs.Prelude.{ℕ, ◌+◌, ◌*◌, ◌≤◌, sum_by}
use Rattle.pddl_compiled.specs.Compiled.{ChangeValue, both, each, conditional, addition, deletion, increase, increase_by, ChangeValues, no_changes, change}

-- the increases of a change, one for each object of each range around it, whatever holds
abbrev mutual
  pub increases_of : ChangeValue → ℕ
  increases_of (both cs) = increases_in cs
  increases_of (each range c) = sum_by (λ o. increases_of c) range
  increases_of (conditional c d) = increases_of d
  increases_of (addition p ps) = 0
  increases_of (deletion p ps) = 0
  increases_of (increase f ps) = 1
  increases_of (increase_by n) = 1

  pub increases_in : ChangeValues → ℕ
  increases_in no_changes = 0
  increases_in (change c cs) = increases_of c + increases_in cs

-- the most of them that a step of a linked plan has, by its ground size
abbrev pub most_increases : ℕ
most_increases = 1000000

-- no amount is as large
abbrev pub beyond_amounts : ℕ
beyond_amounts = 18446744073709551616

-- so many amounts are not over this sum
abbrev pub IsWithin : ℕ → ℕ → Type 0
IsWithin increases total = total ≤ increases * beyond_amounts
