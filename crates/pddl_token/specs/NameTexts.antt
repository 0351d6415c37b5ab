-- Where a name's bytes are. No public clause cites this module.
use Rattle.std.specs.Prelude.{◌≡◌, ◌≤◌, ℕ, List, length, take}
use Rattle.pddl_token.specs.declared.name.NameText.{NameText}
use Rattle.pddl_token.specs.declared.name.NameText.TheVariants.{Few, Many}

module _ {T : Type 0} where
  -- the bytes, of which many are those of a value of another type
  abbrev pub letters_of : (T → List ℕ) → NameText T → List ℕ
  letters_of bytes_of (Few len bytes) = take len bytes
  letters_of bytes_of (Many text) = bytes_of text

  -- those in the value itself are as many as there is room for
  abbrev pub HasRoom : NameText T → Type 0
  HasRoom (Few len bytes) = (len ≤ 22) × (length bytes ≡ 22)
  HasRoom (Many text) = Unit {0}
