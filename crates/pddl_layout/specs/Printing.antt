-- What a call that prints did to its writer.
use Rattle.std.specs.Prelude.{◌≡◌, ℕ, List, Option, Result, Ok, Err}
use Rattle.std.specs.Io.KnownBytes.{Appends}
use Rattle.pddl_device.specs.Device.{AppendsBeginning, HasFailed}

-- The writer took a beginning of the text, and a write failed (own). The bytes that the writer holds before and after,
-- and its counts of failures before and after, come first.
abbrev pub Stops : Option (List ℕ) → Option (List ℕ) → ℕ → ℕ → List ℕ → Type 0
Stops old new before after text = AppendsBeginning old new text × HasFailed before after

-- The writer took the text, and no write failed; or it took a beginning of the text, and a write failed (own).
abbrev pub Prints : {T E : Type 0} → Option (List ℕ) → Option (List ℕ) → ℕ → ℕ → List ℕ → Result T E → Type 0
Prints old new before after text (Ok _) = Appends old new text × (after ≡ before)
Prints old new before after text (Err _) = Stops old new before after text
