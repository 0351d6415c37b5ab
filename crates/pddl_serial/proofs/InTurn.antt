-- The happenings in turn are a serialisation.
use Rattle.std.proofs.Common.{ℕ, List, [], ◌∷◌, refl, eqb}
use Rattle.std.specs.Prelude.{IsPermutation}
use Rattle.std.specs.List.{concat, IsDistinct}
use Rattle.std.proofs.lemmas.List.Sorted.{IsPermutation-refl, IsPermutation-reverse}
use Rattle.pddl_happenings.proofs.Forms.{IsSerialisation}
use Rattle.pddl_happenings.proofs.TurnsTaken.{order_from_serialisation}
use Rattle.pddl_happenings.specs.Serialisations.{IsSerialOrder}
use Rattle.pddl_serial.specs.Orders.{in_order, steps_in}
use Rattle.pddl_serial.specs.declared.turns.Order.{Order}
use Rattle.pddl_serial.specs.declared.turns.Order.TheVariants.{File, Reverse}

pub same_steps : (order : Order) (h : List ℕ) → IsPermutation h (steps_in order h)
same_steps File h = IsPermutation-refl h
same_steps Reverse h = IsPermutation-reverse h

in_turn : (order : Order) (hs : List (List ℕ)) → IsSerialisation hs (in_order order hs)
in_turn order [] = refl
in_turn order (h ∷ hs) = (steps_in order h, in_order order hs, refl, same_steps order h, in_turn order hs)

pub is_serial : (order : Order) (hs : List (List ℕ)) → IsDistinct eqb (concat hs) → IsSerialOrder hs (in_order order hs)
is_serial order hs once = order_from_serialisation hs (in_order order hs) once (in_turn order hs)
