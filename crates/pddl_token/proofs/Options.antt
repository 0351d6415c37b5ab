-- What a computed answer says of its parts.
use Rattle.std.proofs.Common.{◌≡◌, refl, sym, inl, inr}
use Rattle.std.specs.Prelude.{Bool, true, false, Option, Some, None, option_map, option_and_then, if◌then◌else◌, ◌⊎◌, Result, Ok, Err, IfOk, MatchOption}

pub map_some : {A B : Type 0} (f : A → B) (o : Option A) (y : B) → option_map f o ≡ Some y → (x : A) × (o ≡ Some x) × (f x ≡ y)
map_some f None y e = absurd (cc)
map_some f (Some x) y e = (x, refl, cc)

pub bind_some : {A B : Type 0} (f : A → Option B) (o : Option A) (y : B) → option_and_then f o ≡ Some y → (x : A) × (o ≡ Some x) × (f x ≡ Some y)
bind_some f None y e = absurd (cc)
bind_some f (Some x) y e = (x, refl, e)

-- a test that lets the value through
pub if_some : {A : Type 0} (b : Bool) (o : Option A) (y : A) → (if b then o else None) ≡ Some y → (b ≡ true) × (o ≡ Some y)
if_some true o y e = (refl, e)
if_some false o y e = absurd (cc)

-- a test that stops the value
pub unless_some : {A : Type 0} (b : Bool) (o : Option A) (y : A) → (if b then None else o) ≡ Some y → (b ≡ false) × (o ≡ Some y)
unless_some true o y e = absurd (cc)
unless_some false o y e = (refl, e)

-- which way a test went
pub test_cases : {A : Type 0} (b : Bool) (x y z : A) → (if b then x else y) ≡ z → ((b ≡ true) × (x ≡ z)) ⊎ ((b ≡ false) × (y ≡ z))
test_cases true x y z e = inl (refl, e)
test_cases false x y z e = inr (refl, e)

-- ---- from a computed answer to what it says

pub exact_option : {A B : Type 0} (Spells : A → Type 0) (view : B → A) (o : Option B) (found : Option A)
    → ((x : A) → found ≡ Some x → Spells x) → ((x : A) → Spells x → found ≡ Some x) → option_map view o ≡ found
    → MatchOption o ((x : A) → Spells x → ⊥) (λ v. Spells (view v))
exact_option Spells view None found sound complete e = λ x s. let some = complete x s in cc
exact_option Spells view (Some v) found sound complete e = sound (view v) (sym e)

-- a call that answers what a reader computes answers a value exactly where one is spelled
pub exact_result : {A B E : Type 0} (Spells : A → Type 0) (view : B → A) (r : Result (Option B) E) (found : Option A)
    → ((x : A) → found ≡ Some x → Spells x) → ((x : A) → Spells x → found ≡ Some x) → IfOk r (λ o. option_map view o ≡ found)
    → IfOk r (λ o. MatchOption o ((x : A) → Spells x → ⊥) (λ v. Spells (view v)))
exact_result Spells view (Ok o) found sound complete e = exact_option Spells view o found sound complete e
exact_result Spells view (Err e) found sound complete h = tt
