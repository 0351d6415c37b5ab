use Rattle.std.proofs.Common.{◌≡◌, ◌↔◌, ◌<◌, ℕ, true, false, length, get_or, drop}
use Rattle.pddl_serial.proofs.Passes.{Passes}
use Rattle.pddl_serial.proofs.listing.passes.Given as goal

-- what is left passes where the whole does
abbrev pub invariant-loop-step : goal.invariant-loop-step
invariant-loop-step l = Passes (λ k. get_or l.places k 0) (length l.places) l.seen l.last (drop l.step-index l.order) ↔ Passes (λ k. get_or l.places k 0) (length l.places) l.initial.seen 0 l.order

abbrev pub invariant-loop-known : goal.invariant-loop-known
invariant-loop-known l = (k : ℕ) → k < l.known-index → get_or l.known-items k false ≡ true
