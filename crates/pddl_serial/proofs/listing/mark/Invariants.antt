use Rattle.std.proofs.Common.{◌≡◌, ◌<◌, ℕ, true, cond, eqb, length, get_or, drop}
use Rattle.std.specs.List.{list_any}
use Rattle.pddl_serial.proofs.listing.mark.Given as goal

-- with what is left marked, it is as with the whole
abbrev pub invariant-loop-step : goal.invariant-loop-step
invariant-loop-step l = record {
  within : (k : ℕ) → list_any (eqb k) (drop l.step-index l.steps) ≡ true → k < length l.places;
  marked : (k : ℕ) → cond (list_any (eqb k) (drop l.step-index l.steps)) l.place (get_or l.places k 0) ≡ cond (list_any (eqb k) l.steps) l.place (get_or l.initial.places k 0);
}
