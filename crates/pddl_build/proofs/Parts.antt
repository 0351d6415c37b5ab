-- What is made of parts that were read, seen without where it lies in memory.
use Rattle.std.proofs.Common.{◌≡◌, ◌++◌, ◌∷◌, [], List, Bool, true, false, Option, Some, None, Result, Ok, Err, Box, IfOk, OnOk, if◌then◌else◌, option_map, refl, ap, ap₂, ◌∙◌}
use Rattle.std.specs.Option.{option_zip}
use Rattle.std.specs.Result.{result_and}
use Rattle.pddl_build.specs.Results.{right_of, map_found, both_of, Boxes, BothBoxed, BothInBoxes, PushesFound}

-- a value that was filled: each answer of what filled it is one of the value
pub right_reads : {T E : Type 0} (value : T) (right : Result Bool E) {P : Bool → Type 0} (Q : Option T → Type 0)
    → IfOk right P → ((b : Bool) → P b → Q (if b then Some value else None)) → IfOk (right_of value right) Q
right_reads value (Ok b) Q done each = each b done
right_reads value (Err e) Q done each = done

-- a value that something was done with, which `made.and(Ok(value))` gives
pub made_reads : {T U E P : Type 0} (value : T) (made : Result U E) (Q : T → Type 0) → OnOk made P → (P → Q value) → IfOk (result_and made (Ok value)) Q
made_reads value (Ok u) Q done is = is done
made_reads value (Err e) Q done is = tt

-- what is made of a value that was read: g sees the value, h what it is a part of, and f what is made
pub found_reads : {T U X Y E : Type 0} (make : T → U) (f : U → Y) (g : T → X) (h : X → Y) → ((x : T) → f (make x) ≡ h (g x))
    → (value : Result (Option T) E) (made : Result (Option U) E) (o : Option X) → made ≡ map_found make value → IfOk value (λ a. option_map g a ≡ o)
    → IfOk made (λ found. option_map f found ≡ option_map h o)
found_reads make f g h same (Ok None) made o is read = rw is (ap (option_map h) read)
found_reads make f g h same (Ok (Some x)) made o is read = rw is (ap Some (same x) ∙ ap (option_map h) read)
found_reads make f g h same (Err e) made o is read = rw is tt

-- a value that contracts see as it is
pub plain_reads : {T E : Type 0} (value : Result (Option T) E) (o : Option T) → IfOk value (λ a. a ≡ o) → IfOk value (λ a. option_map (λ x. x) a ≡ o)
plain_reads (Ok None) o is = is
plain_reads (Ok (Some x)) o is = is
plain_reads (Err e) o is = is

zip_map : {T U X Y : Type 0} (f : T → X) (g : U → Y) (a : Option T) (b : Option U)
    → option_map (λ p. (f p.0, g p.1)) (option_zip a b) ≡ option_zip (option_map f a) (option_map g b)
zip_map f g None b = refl
zip_map f g (Some x) None = refl
zip_map f g (Some x) (Some y) = refl

module _ {T U X Y E : Type 0} (f : T → X) (g : U → Y) where
  pub both_reads : (first : Result (Option T) E) (second : Result (Option U) E) (pair : Result (Option (T × U)) E) (o : Option X) (p : Option Y)
      → IfOk first (λ a. option_map f a ≡ o) → IfOk second (λ b. option_map g b ≡ p) → pair ≡ both_of first second
      → IfOk pair (λ found. option_map (λ q. (f q.0, g q.1)) found ≡ option_zip o p)
  both_reads (Ok a) (Ok b) pair o p one two is = rw is (zip_map f g a b ∙ ap₂ option_zip one two)
  both_reads (Ok a) (Err e) pair o p one two is = rw is tt
  both_reads (Err e) second pair o p one two is = rw is tt

pub boxed_reads : {T X A E : Type 0} (f : T → X) (value : Result (Option T) E) (box : Result (Option (Box T A)) E) (o : Option X)
    → IfOk value (λ a. option_map f a ≡ o) → Boxes value box → IfOk box (λ found. option_map (λ b. f b.value) found ≡ o)
boxed_reads f (Ok (Some x)) (Ok None) o is box = absurd (cc)
boxed_reads f (Ok (Some x)) (Ok (Some b)) o is box = ap (option_map f) box ∙ is
boxed_reads f (Ok (Some x)) (Err e) o is box = box
boxed_reads f (Ok None) box o is same = rw same is
boxed_reads f (Err e) box o is same = rw same tt

pub both_boxed_reads : {T U X Y A E : Type 0} (f : T → X) (g : U → Y) (first : Result (Option T) E) (second : Result (Option U) E) (made : Result (Option (T × Box U A)) E)
    (o : Option X) (p : Option Y) → IfOk first (λ a. option_map f a ≡ o) → IfOk second (λ b. option_map g b ≡ p) → BothBoxed first second made
    → IfOk made (λ found. option_map (λ q. (f q.0, g q.1.value)) found ≡ option_zip o p)
both_boxed_reads f g first second made o p one two (box, boxes, same) =
    both_reads f (λ b. g b.value) first box made o p one (boxed_reads g second box p two boxes) same

pub both_in_boxes_reads : {T U X Y A E : Type 0} (f : T → X) (g : U → Y) (first : Result (Option T) E) (second : Result (Option U) E) (made : Result (Option (Box T A × Box U A)) E)
    (o : Option X) (p : Option Y) → IfOk first (λ a. option_map f a ≡ o) → IfOk second (λ b. option_map g b ≡ p) → BothInBoxes first second made
    → IfOk made (λ found. option_map (λ q. (f q.0.value, g q.1.value)) found ≡ option_zip o p)
both_in_boxes_reads f g first second made o p one two (box, boxes, rest) =
    both_boxed_reads (λ b. f b.value) g box second made o p (boxed_reads f first box o one boxes) two rest

-- ---- values put behind others

pub pushed_some : {T E : Type 0} (old : List T) (value : Result (Option T) E) (new : List T) → PushesFound old value new (Ok true)
    → (x : T) × (value ≡ Ok (Some x)) × (new ≡ old ++ x ∷ [])
pushed_some old (Ok (Some x)) new (is, found) = (x, refl, is)
pushed_some old (Ok None) new (is, found) = absurd (cc)
pushed_some old (Err e) new (is, found) = absurd (cc)

pub pushed_none : {T E : Type 0} (old : List T) (value : Result (Option T) E) (new : List T) → PushesFound old value new (Ok false)
    → (value ≡ Ok None) × (new ≡ old)
pushed_none old (Ok (Some x)) new (is, found) = absurd (cc)
pushed_none old (Ok None) new (is, found) = (refl, is)
pushed_none old (Err e) new (is, found) = absurd (cc)
