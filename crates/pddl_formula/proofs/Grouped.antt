-- Lists of items that grow, and the groups of their items.
use Rattle.std.proofs.Common.{◌≡◌, ◌<◌, ◌≤◌, ◌+◌, ◌-◌, ◌⊎◌, ◌↔◌, inl, inr, ℕ, zero, suc, Bool, true, false, List, [], ◌∷◌, ◌++◌, map, length, take, replicate, Result, is_ok, Ok, Err, OnErr, Some, slice_get, if◌then◌else◌, refl, sym, ap, ◌∙◌, append_assoc, arith}
use Rattle.std.specs.Prelude.{Vec, vec_len}
use Rattle.std.proofs.lemmas.List.{map-append, length-map}
use Rattle.pddl_formula.specs.TypedLists.{WithType, of_type}
use Rattle.pddl_formula.specs.Groups.{shares_at, HaveOneType, AreGrouped, IsGrown}

-- ---- answers

filled_at : (n : ℕ) (b : Bool) (i : ℕ) → shares_at (replicate n b) i ≡ true → (b ≡ true) × (i < n)
filled_at zero b i is = absurd (cc)
filled_at (suc n) b zero is = (is, omega arith)
filled_at (suc n) b (suc i) is = let rest = filled_at n b i is in (rest.0, omega (arith, rest.1))

-- answers that were cut, or filled up with one
pub resized_at : (groups : List Bool) (n len : ℕ) (b : Bool) (i : ℕ) → length groups ≡ len → shares_at (take n groups ++ replicate (n - len) b) i ≡ true
    → (shares_at groups i ≡ true) ⊎ ((b ≡ true) × (len ≤ i) × (i < n))
resized_at [] zero len b i many is = absurd (let none : zero - len ≡ zero = omega arith in cc)
resized_at [] (suc n) len b i many is =
    let all : suc n - len ≡ suc n = omega (arith, many) in
    let filled = filled_at (suc n) b i (rw all at is) in inr (filled.0, omega (arith, many), filled.1)
resized_at (x ∷ xs) zero len b i many is = absurd (let none : zero - len ≡ zero = omega arith in cc)
resized_at (x ∷ xs) (suc n) zero b i many is = absurd (omega (arith, many))
resized_at (x ∷ xs) (suc n) (suc len) b zero many is = inl is
resized_at (x ∷ xs) (suc n) (suc len) b (suc i) many is =
    let less : suc n - suc len ≡ n - len = omega arith in
    elim (resized_at xs n len b i (omega (arith, many)) (rw (← less) is)) as (λ _. (shares_at xs i ≡ true) ⊎ ((b ≡ true) × (suc len ≤ suc i) × (suc i < suc n))) [
      | inl there ↦ inl there
      | inr new ↦ inr (new.0, omega (arith, new.1), omega (arith, new.2))
    ]

pub padded_at : (groups : List Bool) (n len i : ℕ) → length groups ≡ len → shares_at (take n groups ++ replicate (n - len) false) i ≡ true → shares_at groups i ≡ true
padded_at groups n len i many is =
    elim (resized_at groups n len false i many is) as (λ _. shares_at groups i ≡ true) [
      | inl there ↦ there
      | inr new ↦ absurd (cc)
    ]

-- answers behind others
joined_at : (xs ys : List Bool) (n i : ℕ) → length xs ≡ n → shares_at (xs ++ ys) i ≡ true → (shares_at xs i ≡ true) ⊎ ((n ≤ i) × (shares_at ys (i - n) ≡ true))
joined_at [] ys n i many is = let same : i - n ≡ i = omega (arith, many) in inr (omega (arith, many), rw same is)
joined_at (x ∷ xs) ys n zero many is = inl is
joined_at (x ∷ xs) ys zero (suc i) many is = absurd (omega (arith, many))
joined_at (x ∷ xs) ys (suc n) (suc i) many is =
    let less : suc i - suc n ≡ i - n = omega arith in
    elim (joined_at xs ys n i (omega (arith, many)) is) as (λ _. (shares_at xs i ≡ true) ⊎ ((suc n ≤ suc i) × (shares_at ys (suc i - suc n) ≡ true))) [
      | inl there ↦ inl there
      | inr new ↦ inr (omega (arith, new.0), rw less new.1)
    ]

pub joined_if : (b : Bool) (xs ys : List Bool) (n i : ℕ) → length xs ≡ n → shares_at (if b then xs ++ ys else xs) i ≡ true
    → (shares_at xs i ≡ true) ⊎ ((n ≤ i) × (shares_at ys (i - n) ≡ true))
joined_if true xs ys n i many is = joined_at xs ys n i many is
joined_if false xs ys n i many is = inl is

pub kept_if : {X E : Type 0} (r : Result X E) (old xs ys new : List Bool) → ((i : ℕ) → shares_at xs i ≡ true → shares_at old i ≡ true) → new ≡ (if is_ok r then xs ++ ys else xs)
    → OnErr r ((i : ℕ) → shares_at new i ≡ true → shares_at old i ≡ true)
kept_if (Ok x) old xs ys new kept are = tt
kept_if (Err e) old xs ys new kept are = λ i is. kept i (rw are at is)

-- ---- items

pub many_seen : {P Q A : Type 0} (view : P → Q) (v : Vec P A) → length (map view v.items) ≡ vec_len v
many_seen view v = length-map v.items view ∙ sym v.ok.0

module _ {X T : Type 0} where
  stays : (xs more : List (WithType X T)) (i : ℕ) (x : WithType X T) → slice_get xs i ≡ Some x → slice_get (xs ++ more) i ≡ Some x
  stays [] more i x is = absurd (cc)
  stays (y ∷ xs) more zero x is = is
  stays (y ∷ xs) more (suc i) x is = stays xs more i x is

  behind : (xs ys : List (WithType X T)) (k i : ℕ) (x : WithType X T) → length xs + k ≡ i → slice_get ys k ≡ Some x → slice_get (xs ++ ys) i ≡ Some x
  behind [] ys k i x at is = let same : i ≡ k = omega (arith, at) in rw same is
  behind (y ∷ xs) ys k zero x at is = absurd (omega (arith, at))
  behind (y ∷ xs) ys k (suc i) x at is = behind xs ys k i x (omega (arith, at)) is

  typed_at : (xs : List (WithType X T)) (group : List X) (type : T) (i : ℕ) → length xs ≤ i → i < length (xs ++ of_type group type)
      → (x : WithType X T) × (slice_get (xs ++ of_type group type) i ≡ Some x) × (x.of ≡ type)
  typed_at [] [] type i from below = absurd (omega arith)
  typed_at [] (x ∷ group) type zero from below = (record { item = x; of = type }, refl, refl)
  typed_at [] (x ∷ group) type (suc i) from below = typed_at [] group type i (omega arith) (omega (arith, below))
  typed_at (x ∷ xs) group type zero from below = absurd (omega (arith, from))
  typed_at (x ∷ xs) group type (suc i) from below = typed_at xs group type i (omega (arith, from)) (omega (arith, below))

  one_type : (xs : List (WithType X T)) (group : List X) (type : T) (i : ℕ) → length xs < i → i < length (xs ++ of_type group type) → HaveOneType (xs ++ of_type group type) (i - 1) i
  one_type xs group type i from below =
      let before = typed_at xs group type (i - 1) (omega (arith, from)) (omega (arith, from, below)) in
      let here = typed_at xs group type i (omega (arith, from)) below in
      (before.0, here.0, before.1, here.1, before.2 ∙ sym here.2)

  -- ---- groups of items

  -- of a list that has grown, no more items share
  pub grouped_kept : (xs all : List (WithType X T)) (groups : List Bool) → AreGrouped xs groups → IsGrown xs all → AreGrouped all groups
  grouped_kept xs all groups grouped grown i is =
      let shared = grouped i is in
      let one = shared.1 in
      (shared.0, (one.0, one.1, rw grown.1 (stays xs grown.0 (i - 1) one.0 one.2), rw grown.1 (stays xs grown.0 i one.1 one.3), one.4))

  -- a group behind the items
  pub grouped_more : (xs all : List (WithType X T)) (groups new : List Bool) (group : List X) (type : T) (first end : ℕ)
      → AreGrouped xs groups → all ≡ xs ++ of_type group type → length xs ≡ first → length all ≡ end
      → ((i : ℕ) → shares_at new i ≡ true → (shares_at groups i ≡ true) ⊎ ((first < i) × (i < end))) → AreGrouped all new
  grouped_more xs all groups new group type first end grouped added many whole shared i is =
      elim (shared i is) as (λ _. (0 < i) × HaveOneType all (i - 1) i) [
        | inl old ↦ grouped_kept xs all groups grouped (of_type group type, added) i old
        | inr new ↦ (omega (arith, new.0), rw added (one_type xs group type i (omega (arith, many, new.0)) (rw (← added) (omega (arith, whole, new.1)))))
      ]

  -- items behind others
  pub grouped_both : (xs ys : List (WithType X T)) (groups others new : List Bool) (count : ℕ) → AreGrouped xs groups → AreGrouped ys others → length xs ≡ count
      → ((i : ℕ) → shares_at new i ≡ true → (shares_at groups i ≡ true) ⊎ ((count ≤ i) × (shares_at others (i - count) ≡ true))) → AreGrouped (xs ++ ys) new
  grouped_both xs ys groups others new count first second many shared i is =
      elim (shared i is) as (λ _. (0 < i) × HaveOneType (xs ++ ys) (i - 1) i) [
        | inl old ↦ grouped_kept xs (xs ++ ys) groups first (ys, refl) i old
        | inr new ↦
            let found = second (i - count) new.1 in
            let one = found.1 in
            let far : length xs + (i - count - 1) ≡ i - 1 = omega (arith, many, new.0, found.0) in
            (omega (arith, found.0), (one.0, one.1, behind xs ys (i - count - 1) (i - 1) one.0 far one.2, behind xs ys (i - count) i one.1 (omega (arith, many, new.0)) one.3, one.4))
      ]

  -- the same, where the items did not come and the groups were cut
  pub grouped_cut : (xs : List (WithType X T)) (groups others new cut : List Bool) (count : ℕ) → AreGrouped xs groups
      → ((i : ℕ) → shares_at new i ≡ true → (shares_at groups i ≡ true) ⊎ ((count ≤ i) × (shares_at others (i - count) ≡ true)))
      → ((i : ℕ) → (shares_at cut i ≡ true) ↔ ((shares_at new i ≡ true) × (i < count))) → AreGrouped xs cut
  grouped_cut xs groups others new cut count grouped shared kept i is =
      let within = (kept i).0 is in
      elim (shared i within.0) as (λ _. (0 < i) × HaveOneType xs (i - 1) i) [
        | inl old ↦ grouped i old
        | inr new ↦ absurd (omega (arith, within.1, new.0))
      ]

-- what was added of a group so far, and one item more
pub added_more : {P X T : Type 0} (view : P → WithType X T) (xs old : List P) (y : P) (group : List X) (type : T) → map view xs ≡ map view old ++ of_type group type → (view y).of ≡ type
    → map view (xs ++ y ∷ []) ≡ map view old ++ of_type (group ++ (view y).item ∷ []) type
added_more view xs old y group type e same =
    map-append view xs (y ∷ []) ∙ ap (λ l. l ++ view y ∷ []) e ∙ append_assoc (map view old) (of_type group type) (view y ∷ [])
    ∙ ap (λ l. map view old ++ l) (ap (λ t. of_type group type ++ record { item = (view y).item; of = t } ∷ []) same ∙ sym (map-append (λ x. record { item = x; of = type }) group ((view y).item ∷ [])))
