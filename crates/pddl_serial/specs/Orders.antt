-- The steps of happenings one after another.
use Rattle.std.specs.Prelude.{ℕ, List, map, reverse}
use Rattle.std.specs.List.{concat}
use Rattle.pddl_serial.specs.declared.turns.Order.{Order}
use Rattle.pddl_serial.specs.declared.turns.Order.TheVariants.{File, Reverse}

-- The steps of a happening in an order: file order is that of its list. Own.
abbrev pub steps_in : Order → List ℕ → List ℕ
steps_in File h = h
steps_in Reverse h = reverse h

-- The happenings in turn, the steps of each in an order. Own.
abbrev pub in_order : Order → List (List ℕ) → List ℕ
in_order order hs = concat (map (steps_in order) hs)
