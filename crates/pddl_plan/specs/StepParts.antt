-- A step as a part of a list of names.
use Rattle.std.specs.Prelude.{◌<◌, ◌≤◌, ℕ}

-- the part is one of a list of this many names, and has an action
pub record IsStepPart (start end count : ℕ) : Type 0 where
  pub some : start < end
  pub within : end ≤ count
