-- What a call that prints did to its writer, where a write that failed is remembered. No public contract names these.
use Rattle.std.specs.Prelude.{◌≡◌, ℕ, Bool, true, false, List, Option}
use Rattle.std.specs.Io.KnownBytes.{Appends}
use Rattle.pddl_device.specs.Device.{AppendsBeginning, HasFailed}

-- The writer took the text, and no write failed; or it took a beginning of the text, and a write failed; or a write had failed
-- before, and nothing was written. The bytes that the writer holds, its count of failures, and whether a write failed are given
-- before and after.
abbrev pub PutsBy : Option (List ℕ) → Option (List ℕ) → ℕ → ℕ → Bool → Bool → List ℕ → Type 0
PutsBy old new before after false false text = Appends old new text × (after ≡ before)
PutsBy old new before after false true text = AppendsBeginning old new text × HasFailed before after
PutsBy old new before after true failed text = (failed ≡ true) × (new ≡ old) × (after ≡ before)

pub record Puts (old new : Option (List ℕ)) (before after : ℕ) (was_failed failed : Bool) (text : List ℕ) : Type 0 where
  pub puts : PutsBy old new before after was_failed failed text
