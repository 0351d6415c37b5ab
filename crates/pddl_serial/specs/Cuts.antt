-- Happenings cut into groups of at most so many steps.
use Rattle.std.specs.Prelude.{ℕ, ◌+◌, ◌-◌, ◌*◌, ◌/◌, List, map, take, drop, length}
use Rattle.std.specs.List.{flat_map}
use Rattle.pddl_happenings.specs.Happenings.{numbers_to}
use Rattle.pddl_serial.specs.Orders.{steps_in}
use Rattle.pddl_serial.specs.declared.turns.Order.{Order}

-- How many groups of n elements m elements make, the last perhaps smaller: m through n, rounded up. Own.
abbrev pub group_count : ℕ → ℕ → ℕ
group_count n m = (m + (n - 1)) / n

-- A list cut into groups of n, the last perhaps smaller: the group i, from 0, has the n elements from the place i * n on, or
-- as many as are left. Own.
abbrev pub cut : ℕ → List ℕ → List (List ℕ)
cut n xs = map (λ i. take n (drop (i * n) xs)) (numbers_to 0 (group_count n (length xs)))

-- The happenings in turn, the steps of each in an order and cut into groups of n. Own.
abbrev pub cut_in_order : ℕ → Order → List (List ℕ) → List (List ℕ)
cut_in_order n order hs = flat_map (λ h. cut n (steps_in order h)) hs
