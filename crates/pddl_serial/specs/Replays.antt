-- What is said of a list of step numbers, by cases.
use Rattle.std.specs.Prelude.{ℕ}
use Rattle.pddl_serial.specs.declared.replaying.End.{End}
use Rattle.pddl_serial.specs.declared.replaying.Replayed.{Replayed}
use Rattle.pddl_serial.specs.declared.replaying.Replayed.TheVariants.{NotASerialisation, StepFails, Ended}

-- What holds where the list is said to be no serialisation.
abbrev pub OnNotASerialisation : {A : Type 0} → Replayed A → Type 0 → Type 0
OnNotASerialisation NotASerialisation P = P
OnNotASerialisation (StepFails place) P = Unit {0}
OnNotASerialisation (Ended e) P = Unit {0}

-- What holds in every other case.
abbrev pub OnSerialisation : {A : Type 0} → Replayed A → Type 0 → Type 0
OnSerialisation NotASerialisation P = Unit {0}
OnSerialisation (StepFails place) P = P
OnSerialisation (Ended e) P = P

-- What holds of the place that is said to fail.
abbrev pub OnStepFails : {A : Type 0} → Replayed A → (ℕ → Type 0) → Type 0
OnStepFails NotASerialisation P = Unit {0}
OnStepFails (StepFails place) P = P place
OnStepFails (Ended e) P = Unit {0}

-- What holds of the end that is told.
abbrev pub OnEnded : {A : Type 0} → Replayed A → (End A → Type 0) → Type 0
OnEnded NotASerialisation P = Unit {0}
OnEnded (StepFails place) P = Unit {0}
OnEnded (Ended e) P = P e
