-- What becomes of a place where a value is put that may be missing.
use Rattle.std.specs.Prelude.{◌≡◌, List, ◌++◌, Bool, true, false, Option, Some, None, Result, Ok, Err, Vec, is_some, is_none}
use Rattle.std.specs.Option.{option_or}

-- the slot with the value, if there is one and the slot was empty
abbrev pub FillsFound : {T E : Type 0} → Option T → Result (Option T) E → Option T → Result Bool E → Type 0
FillsFound old (Ok (Some x)) new result = (new ≡ option_or old (Some x)) × (result ≡ Ok (is_none old))
FillsFound old (Ok None) new result = (new ≡ old) × (result ≡ Ok false)
FillsFound old (Err e) new result = (new ≡ old) × (result ≡ Err e)

-- the slot as the value was found
abbrev pub SetsFound : {T E : Type 0} → Option T → Result (Option T) E → Option T → Result Bool E → Type 0
SetsFound old (Ok found) new result = (new ≡ found) × (result ≡ Ok (is_some found))
SetsFound old (Err e) new result = (new ≡ old) × (result ≡ Err e)

-- the list with the values behind it, if there are any, unless memory was refused
abbrev pub AppendsFound : {T A E : Type 0} → List T → Result (Option (Vec T A)) E → List T → Result Bool E → Type 0
AppendsFound old (Ok (Some xs)) new (Ok found) = (new ≡ old ++ xs.items) × (found ≡ true)
AppendsFound old (Ok (Some xs)) new (Err e) = new ≡ old
AppendsFound old (Ok None) new result = (new ≡ old) × (result ≡ Ok false)
AppendsFound old (Err e) new result = (new ≡ old) × (result ≡ Err e)

-- what fills a slot that is empty
abbrev pub filled : {X S : Type 0} → Option X → S → Option S
filled None s = Some s
filled (Some x) s = None
