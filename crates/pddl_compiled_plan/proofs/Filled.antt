-- Sets that are filled from empty ones, and handed on where that went well.
use Rattle.std.proofs.Common.{◌≡◌, Bool, false, ◌||◌, arith, sym, subst}
use Rattle.std.specs.Prelude.{Result, Ok, Err, IfOk, OnOk}
use Rattle.std.specs.Result.{result_and}

-- what was put into an empty set is all that is in it
pub from_empty : (put old new : Bool) → old ≡ false → new ≡ (put || old) → new ≡ put
from_empty put old new none is = grind arith

module _ {T U E : Type 0} {value : T} (made : Result U E) {result : Result T E} (is : result ≡ result_and made (Ok value)) (Q : T → Type 0) where
  handed_on : {P : Type 0} (r : Result U E) → OnOk r P → (P → Q value) → IfOk (result_and r (Ok value)) Q
  handed_on (Ok u) h then = then h
  handed_on (Err e) h then = tt

  any : (r : Result U E) → Q value → IfOk (result_and r (Ok value)) Q
  any (Ok u) h = h
  any (Err e) h = tt

  -- what holds of a value holds of it where it is handed on
  pub handed : Q value → IfOk result Q
  handed h = subst (λ r. IfOk r Q) (sym is) (any made h)

  -- and so does what follows from what went well
  pub handed_then : {P : Type 0} → OnOk made P → (P → Q value) → IfOk result Q
  handed_then h then = subst (λ r. IfOk r Q) (sym is) (handed_on made h then)
