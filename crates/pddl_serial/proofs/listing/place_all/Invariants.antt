use Rattle.std.proofs.Common.{◌≡◌, ◌<◌, ℕ, false, eqb, length, get_or, drop}
use Rattle.std.specs.List.{list_any, concat}
use Rattle.pddl_happenings.specs.Serialisations.{place_of}
use Rattle.pddl_judge.specs.HappeningValues.{groups_of}
use Rattle.pddl_serial.proofs.listing.place_all.Given as goal

-- the steps of no happening to come have their places
abbrev pub invariant-loop-h : goal.invariant-loop-h
invariant-loop-h g l = (k : ℕ) → k < length l.places → list_any (eqb k) (concat (groups_of (drop l.h l.happenings))) ≡ false → get_or l.places k 0 ≡ place_of (groups_of l.happenings) k
