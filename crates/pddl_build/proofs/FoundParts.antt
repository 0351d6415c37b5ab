-- A whole whose part is put where it belongs as soon as it is read, seen without where it lies in memory.
use Rattle.std.proofs.Common.{◌≡◌, ◌++◌, ◌∷◌, [], List, Bool, true, false, map, Option, Some, None, Result, Ok, Err, Vec, IfOk, IfErr, option_map, refl, sym, ap}
use Rattle.std.specs.Prelude.{option_and_then}
use Rattle.std.specs.Bool.{then_some}
use Rattle.std.proofs.lemmas.List.{map_push}
use Rattle.std.specs.Result.{result_and}
use Rattle.pddl_build.specs.Results.{right_of, PushesFound}
use Rattle.pddl_build.specs.Found.{FillsFound, SetsFound, AppendsFound, filled}

-- a value T is read, whose view V is in a part P of a whole S
module _ {T V P S E : Type 0} (view : T → V) (part : V → P) (read : Option V) where
  pub filled_part : (old new : Option T) (value : Result (Option T) E) (right : Result Bool E) (make : Option V → S) (next : P → Option S)
      → ((y : V) → next (part y) ≡ filled (option_map view old) (make (Some y))) → IfOk value (λ v. option_map view v ≡ read) → FillsFound old value new right
      → IfOk right (λ b. then_some b (make (option_map view new)) ≡ option_and_then next (option_map part read))
  filled_part None new (Ok (Some x)) right make next is reads (put, done) = rw (done, put, sym reads) (sym (is (view x)))
  filled_part (Some z) new (Ok (Some x)) right make next is reads (put, done) = rw (done, sym reads) (sym (is (view x)))
  filled_part old new (Ok None) right make next is reads (put, done) = rw (done, sym reads) refl
  filled_part old new (Err e) right make next is reads (put, done) = rw done tt

  pub pushed_part : (old new : List T) (value : Result (Option T) E) (right : Result Bool E) (make : List V → S) (next : P → S)
      → ((y : V) → next (part y) ≡ make (map view old ++ y ∷ [])) → IfOk value (λ v. option_map view v ≡ read) → PushesFound old value new right
      → IfOk right (λ b. then_some b (make (map view new)) ≡ option_map next (option_map part read))
  pushed_part old new (Ok (Some x)) (Ok right) make next is reads (put, done) = rw (done, put, map_push view old x, sym reads) (ap Some (sym (is (view x))))
  pushed_part old new (Ok (Some x)) (Err e) make next is reads done = tt
  pushed_part old new (Ok None) right make next is reads (put, done) = rw (done, sym reads) refl
  pushed_part old new (Err e) right make next is reads (put, done) = rw done tt

-- the value is kept in its slot as K
pub set_part : {T V K P S E : Type 0} (view : T → V) (keep : T → K) (part : V → P) (read : Option V) (old new : Option T) (value : Result (Option T) E) (right : Result Bool E)
    (make : Option K → S) (next : P → S) → ((x : T) → next (part (view x)) ≡ make (Some (keep x))) → IfOk value (λ v. option_map view v ≡ read) → SetsFound old value new right
    → IfOk right (λ b. then_some b (make (option_map keep new)) ≡ option_map next (option_map part read))
set_part view keep part read old new (Ok (Some x)) right make next is reads (put, done) = rw (done, put, sym reads) (ap Some (sym (is x)))
set_part view keep part read old new (Ok None) right make next is reads (put, done) = rw (done, sym reads) refl
set_part view keep part read old new (Err e) right make next is reads (put, done) = rw done tt

-- likewise a list of values, whose view goes over both halves of a list
pub appended_part : {T V A P S E : Type 0} (view : List T → List V) (part : List V → P) (read : Option (List V)) → ((xs ys : List T) → view (xs ++ ys) ≡ view xs ++ view ys)
    → (old new : List T) (value : Result (Option (Vec T A)) E) (right : Result Bool E) (make : List V → S) (next : P → S) → ((ys : List V) → next (part ys) ≡ make (view old ++ ys))
    → IfOk value (λ v. option_map (λ xs. view xs.items) v ≡ read) → AppendsFound old value new right
    → IfOk right (λ b. then_some b (make (view new)) ≡ option_map next (option_map part read))
appended_part view part read joins old new (Ok (Some xs)) (Ok right) make next is reads (put, done) =
    rw (done, put, joins old xs.items, sym reads) (ap Some (sym (is (view xs.items))))
appended_part view part read joins old new (Ok (Some xs)) (Err e) make next is reads done = tt
appended_part view part read joins old new (Ok None) right make next is reads (put, done) = rw (done, sym reads) refl
appended_part view part read joins old new (Err e) right make next is reads (put, done) = rw done tt

-- ---- what is made of it

-- a value that is its own view
pub read_itself : {T E : Type 0} (value : Result (Option T) E) (read : Option T) → IfOk value (λ v. v ≡ read) → IfOk value (λ v. option_map (λ x. x) v ≡ read)
read_itself (Ok None) read is = is
read_itself (Ok (Some x)) read is = is
read_itself (Err e) read is = tt

-- a whole that `if_right` gives
pub right_part : {T S E : Type 0} (view : T → S) (value : T) (right : Result Bool E) (read : Option S) → IfOk right (λ b. then_some b (view value) ≡ read)
    → IfOk (right_of value right) (λ found. option_map view found ≡ read)
right_part view value (Ok true) read is = is
right_part view value (Ok false) read is = is
right_part view value (Err e) read is = tt

-- `made.and(Ok(value))` fails as what was done with the value
pub made_fails : {T U E : Type 0} (value : T) (made : Result U E) (R : E → Type 0) → IfErr made R → IfErr (result_and made (Ok value)) R
made_fails value (Ok u) R fails = tt
made_fails value (Err e) R fails = fails
