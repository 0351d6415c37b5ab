-- What is made of parts that may be missing or refused.
use Rattle.std.specs.Prelude.{◌≡◌, List, ◌++◌, Bool, true, false, Option, Some, None, Result, Ok, Err, Box, IfOk, if◌then◌else◌, option_map, option_to_list, [], ◌∷◌, Vec}
use Rattle.std.specs.Option.{option_zip}

-- the value, where what was done with it went right
abbrev pub right_of : {T E : Type 0} → T → Result Bool E → Result (Option T) E
right_of value (Ok right) = Ok (if right then Some value else None)
right_of value (Err e) = Err e

-- what is made of the value, if there is one
abbrev pub map_found : {T U E : Type 0} → (T → U) → Result (Option T) E → Result (Option U) E
map_found make (Ok value) = Ok (option_map make value)
map_found make (Err e) = Err e

-- two values, or none where one of them is missing
abbrev pub both_of : {T U E : Type 0} → Result (Option T) E → Result (Option U) E → Result (Option (T × U)) E
both_of (Ok first) (Ok second) = Ok (option_zip first second)
both_of (Ok first) (Err e) = Err e
both_of (Err e) second = Err e

-- two values, where both were made
abbrev pub both_made : {T U E : Type 0} → Result T E → Result U E → Result (T × U) E
both_made (Ok x) (Ok y) = Ok (x, y)
both_made (Ok x) (Err e) = Err e
both_made (Err e) second = Err e

-- the value in a box, unless memory for the box was refused
abbrev pub Boxes : {T A E : Type 0} → Result (Option T) E → Result (Option (Box T A)) E → Type 0
Boxes (Ok (Some x)) result = IfOk result (λ found. option_map (λ b. b.value) found ≡ Some x)
Boxes (Ok None) result = result ≡ Ok None
Boxes (Err e) result = result ≡ Err e

-- two values, the second in a box
abbrev pub BothBoxed : {T U A E : Type 0} → Result (Option T) E → Result (Option U) E → Result (Option (T × Box U A)) E → Type 0
BothBoxed {A = A} first second result = (box : Result (Option (Box _ A)) _) × Boxes second box × (result ≡ both_of first box)

-- two values, each in a box
abbrev pub BothInBoxes : {T U A E : Type 0} → Result (Option T) E → Result (Option U) E → Result (Option (Box T A × Box U A)) E → Type 0
BothInBoxes {A = A} first second result = (box : Result (Option (Box _ A)) _) × Boxes first box × BothBoxed box second result

-- the list with the value behind it, if there is one, unless memory was refused
abbrev pub PushesFound : {T E : Type 0} → List T → Result (Option T) E → List T → Result Bool E → Type 0
PushesFound old (Ok (Some x)) new (Ok found) = (new ≡ old ++ option_to_list (Some x)) × (found ≡ true)
PushesFound old (Ok (Some x)) new (Err e) = new ≡ old
PushesFound old (Ok None) new result = (new ≡ old) × (result ≡ Ok false)
PushesFound old (Err e) new result = (new ≡ old) × (result ≡ Err e)

-- the list with the value behind it, or none where one of them is missing, unless memory was refused
abbrev pub Pushed : {T A E : Type 0} → Result (Option (Vec T A)) E → Result (Option T) E → Result (Option (Vec T A)) E → Type 0
Pushed (Ok (Some xs)) (Ok (Some x)) result = IfOk result (λ found. option_map (λ v. v.items) found ≡ Some (xs.items ++ x ∷ []))
Pushed (Ok (Some xs)) (Ok None) result = result ≡ Ok None
Pushed (Ok (Some xs)) (Err e) result = result ≡ Err e
Pushed (Ok None) value result = result ≡ Ok None
Pushed (Err e) value result = result ≡ Err e
