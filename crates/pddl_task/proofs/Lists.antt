-- Tests, names in lists, and lists of words.
use Rattle.std.proofs.Common.{◌≡◌, ◌<◌, ℕ, zero, suc, length, Some, Bool, true, false, not, ◌&&◌, ◌||◌, cond, List, [], ◌∷◌, ◌++◌, map, filter, refl, sym, ap, ◌∙◌, arith, bytes_eq, subst, ◌⊎◌, inl, inr}
use Rattle.std.specs.Prelude.{Contains, slice_get}
use Rattle.std.specs.List.{list_any, list_all, flat_map}
use Rattle.std.proofs.lemmas.List.Folds.{list_any_at}
use Rattle.std.proofs.lemmas.Option.{slice_get_within, get_or_from_slice_get}
use Rattle.std.proofs.lemmas.Slice.Eq.{bytes_eq-Decides}
use Rattle.pddl_formula.specs.TypedLists.{TypedValue}
use Rattle.pddl_task.specs.Names.{Name, is_in, word_if, item_of, is_named, firsts}

-- ---- tests

pub and_left : (a b : Bool) → (a && b) ≡ true → a ≡ true
and_left a b h = grind arith

pub and_right : (a b : Bool) → (a && b) ≡ true → b ≡ true
and_right a b h = grind arith

pub and_both : (a b : Bool) → a ≡ true → b ≡ true → (a && b) ≡ true
and_both a b h k = grind arith

pub or_left : (a b : Bool) → a ≡ true → (a || b) ≡ true
or_left a b h = grind arith

pub or_right : (a b : Bool) → b ≡ true → (a || b) ≡ true
or_right a b h = grind arith

pub or_none : (a b : Bool) → a ≡ false → b ≡ false → (a || b) ≡ false
or_none a b h k = grind arith

pub or_cases : (a b : Bool) → (a || b) ≡ true → (a ≡ true) ⊎ (b ≡ true)
or_cases true b h = inl refl
or_cases false b h = inr h

pub none_left : (a b : Bool) → (a || b) ≡ false → a ≡ false
none_left a b h = grind arith

pub none_right : (a b : Bool) → (a || b) ≡ false → b ≡ false
none_right a b h = grind arith

pub none_of : {X : Type 0} (q : X → Bool) (xs : List X) → ((x : X) → Contains xs x → q x ≡ false) → list_any q xs ≡ false
none_of q [] h = refl
none_of q (x ∷ xs) h = or_none (q x) (list_any q xs) (h x (0, omega arith, refl)) (none_of q xs (λ y c. h y (suc c.0, omega (arith, c.1), c.2)))

-- an element that passes a test, where some does
pub any_found : {X : Type 0} (q : X → Bool) (xs : List X) → list_any q xs ≡ true → (x : X) × Contains xs x × (q x ≡ true)
any_found q [] h = cc
any_found q (y ∷ xs) h =
    elim (or_cases (q y) (list_any q xs) h) as (λ _. (x : _) × Contains (y ∷ xs) x × (q x ≡ true)) [
      | inl here ↦ (y, (0, omega arith, refl), here)
      | inr there ↦ let f = any_found q xs there in (f.0, (suc f.1.0, omega (arith, f.1.1), f.1.2), f.2)
    ]

pub found_any : {X : Type 0} (q : X → Bool) (xs : List X) (x : X) → Contains xs x → q x ≡ true → list_any q xs ≡ true
found_any q xs x c h = list_any_at q xs c.0 x c.1 (ap q c.2 ∙ h)

-- each element passes, where all do
pub all_found : {X : Type 0} (q : X → Bool) (xs : List X) → list_all q xs ≡ true → (x : X) → Contains xs x → q x ≡ true
all_found q [] h x c = absurd (omega (arith, c.1))
all_found q (y ∷ xs) h x (zero, low, is) = ap q (sym is) ∙ and_left (q y) (list_all q xs) h
all_found q (y ∷ xs) h x (suc i, low, is) = all_found q xs (and_right (q y) (list_all q xs) h) x (i, omega arith, is)

pub found_all : {X : Type 0} (q : X → Bool) (xs : List X) → ((x : X) → Contains xs x → q x ≡ true) → list_all q xs ≡ true
found_all q [] h = refl
found_all q (x ∷ xs) h = and_both (q x) (list_all q xs) (h x (0, omega arith, refl)) (found_all q xs (λ y c. h y (suc c.0, omega (arith, c.1), c.2)))

-- ---- what is in a list

-- what stands at a place is in the list, and something stands at each place within it
pub at_place : {X : Type 0} (xs : List X) (i : ℕ) (x : X) → slice_get xs i ≡ Some x → Contains xs x
at_place xs i x at = (i, slice_get_within xs i x at, get_or_from_slice_get xs i x x at)

pub some_at : {X : Type 0} (xs : List X) (i : ℕ) → i < length xs → (x : X) × (slice_get xs i ≡ Some x)
some_at [] i low = absurd (omega (arith, low))
some_at (x ∷ xs) zero low = (x, refl)
some_at (x ∷ xs) (suc i) low = some_at xs i (omega (arith, low))

pub has_first : {X : Type 0} (x : X) (xs : List X) → Contains (x ∷ xs) x
has_first x xs = (0, omega arith, refl)

pub has_later : {X : Type 0} (y : X) (xs : List X) (x : X) → Contains xs x → Contains (y ∷ xs) x
has_later y xs x c = (suc c.0, omega (arith, c.1), c.2)

-- what is in a list is the first or behind it
pub has_cases : {X : Type 0} (y : X) (xs : List X) (x : X) → Contains (y ∷ xs) x → (y ≡ x) ⊎ Contains xs x
has_cases y xs x (zero, low, is) = inl is
has_cases y xs x (suc i, low, is) = inr (i, omega arith, is)

pub has_none : {X : Type 0} (x : X) → Contains [] x → ⊥
has_none x c = omega (arith, c.1)

-- what is kept passes, and stood there before
pub kept_is : {X : Type 0} (q : X → Bool) (xs : List X) (x : X) → Contains (filter q xs) x → Contains xs x × (q x ≡ true)
kept_is q [] x c = absurd (has_none x c)
kept_is {X = X} q (y ∷ xs) x c =
    elim (q y) as (λ b. q y ≡ b → Contains (cond b (y ∷ filter q xs) (filter q xs)) x → Contains (y ∷ xs) x × (q x ≡ true)) [
      | true ↦ λ passes k.
          elim (has_cases y (filter q xs) x k) as (λ _. Contains (y ∷ xs) x × (q x ≡ true)) [
            | inl same ↦ ((0, omega arith, same), ap q (sym same) ∙ passes)
            | inr later ↦ let r = kept_is q xs x later in (has_later y xs x r.0, r.1)
          ]
      | false ↦ λ _ k. let r = kept_is q xs x k in (has_later y xs x r.0, r.1)
    ] refl c

-- what passes is kept
pub is_kept : {X : Type 0} (q : X → Bool) (xs : List X) (x : X) → Contains xs x → q x ≡ true → Contains (filter q xs) x
is_kept q [] x c h = absurd (has_none x c)
is_kept q (y ∷ xs) x c h =
    elim (has_cases y xs x c) as (λ _. Contains (cond (q y) (y ∷ filter q xs) (filter q xs)) x) [
      | inl same ↦ subst (λ b. Contains (cond b (y ∷ filter q xs) (filter q xs)) x) (sym (ap q same ∙ h)) (0, omega arith, same)
      | inr later ↦ elim (q y) as (λ b. Contains (cond b (y ∷ filter q xs) (filter q xs)) x) [ true ↦ has_later y (filter q xs) x (is_kept q xs x later h) | false ↦ is_kept q xs x later h ]
    ]

pub any_none : {X : Type 0} (q : X → Bool) (xs : List X) (x : X) → list_any q xs ≡ false → Contains xs x → q x ≡ false
any_none q [] x h c = absurd (has_none x c)
any_none q (y ∷ xs) x h c =
    elim (has_cases y xs x c) as (λ _. q x ≡ false) [
      | inl same ↦ ap q (sym same) ∙ none_left (q y) (list_any q xs) h
      | inr later ↦ any_none q xs x (none_right (q y) (list_any q xs) h) later
    ]

pub append-one : {X : Type 0} (xs : List X) (y : X) (ys : List X) → (xs ++ y ∷ []) ++ ys ≡ xs ++ y ∷ ys
append-one [] y ys = refl
append-one (x ∷ xs) y ys = ap (λ zs. x ∷ zs) (append-one xs y ys)

pub append-none : {X : Type 0} (xs : List X) → xs ++ [] ≡ xs
append-none [] = refl
append-none (x ∷ xs) = ap (λ zs. x ∷ zs) (append-none xs)

pub mapped_is : {X Y : Type 0} (f : X → Y) (xs : List X) (y : Y) → Contains (map f xs) y → (x : X) × Contains xs x × (f x ≡ y)
mapped_is f [] y c = absurd (has_none y c)
mapped_is f (x ∷ xs) y c =
    elim (has_cases (f x) (map f xs) y c) as (λ _. (z : _) × Contains (x ∷ xs) z × (f z ≡ y)) [
      | inl same ↦ (x, has_first x xs, same)
      | inr later ↦ let r = mapped_is f xs y later in (r.0, has_later x xs r.0 r.1, r.2)
    ]

pub is_mapped : {X Y : Type 0} (f : X → Y) (xs : List X) (x : X) → Contains xs x → Contains (map f xs) (f x)
is_mapped f [] x c = absurd (has_none x c)
is_mapped f (y ∷ xs) x c =
    elim (has_cases y xs x c) as (λ _. Contains (f y ∷ map f xs) (f x)) [
      | inl same ↦ (0, omega arith, ap f same)
      | inr later ↦ has_later (f y) (map f xs) (f x) (is_mapped f xs x later)
    ]

-- ---- names

pub bytes_same : (xs ys : Name) → bytes_eq xs ys ≡ true → xs ≡ ys
bytes_same xs ys = (bytes_eq-Decides xs ys).0

pub same_bytes : (xs ys : Name) → xs ≡ ys → bytes_eq xs ys ≡ true
same_bytes xs ys = (bytes_eq-Decides xs ys).1

pub is_in-append : (ms ns : List Name) (n : Name) → is_in ms n ≡ true → is_in (ms ++ ns) n ≡ true
is_in-append [] ns n h = cc
is_in-append (m ∷ ms) ns n h =
    elim (bytes_eq n m) as (λ b. (b || is_in ms n) ≡ true → (b || is_in (ms ++ ns) n) ≡ true) [ true ↦ λ k. k | false ↦ is_in-append ms ns n ] h

pub is_in-others : (k : Name) (xs : List TypedValue) (n : Name) → bytes_eq n k ≡ false → is_in (map item_of (filter (λ x. not (is_named k x)) xs)) n ≡ is_in (map item_of xs) n
is_in-others k [] n apart = refl
is_in-others k (x ∷ xs) n apart =
    elim (bytes_eq k x.item) as (λ b. bytes_eq k x.item ≡ b → is_in (map item_of (cond (not b) (x ∷ filter (λ y. not (is_named k y)) xs) (filter (λ y. not (is_named k y)) xs))) n ≡ (bytes_eq n x.item || is_in (map item_of xs) n)) [
      | true ↦ λ is.
          let off : bytes_eq n x.item ≡ false = ap (bytes_eq n) (sym (bytes_same k x.item is)) ∙ apart in
          is_in-others k xs n apart ∙ ap (λ b. b || is_in (map item_of xs) n) (sym off)
      | false ↦ λ _. ap (λ b. bytes_eq n x.item || b) (is_in-others k xs n apart)
    ] refl

pub is_in-firsts : (xs : List TypedValue) (n : Name) → is_in (map item_of (firsts xs)) n ≡ is_in (map item_of xs) n
is_in-firsts [] n = refl
is_in-firsts (x ∷ xs) n =
    elim (bytes_eq n x.item) as (λ b. bytes_eq n x.item ≡ b → (b || is_in (map item_of (filter (λ y. not (is_named x.item y)) (firsts xs))) n) ≡ (b || is_in (map item_of xs) n)) [
      | true ↦ λ _. refl
      | false ↦ λ apart. is_in-others x.item (firsts xs) n apart ∙ is_in-firsts xs n
    ] refl

-- ---- words

-- no word, where the test does not hold
pub no_word : (b : Bool) (w : Name) → word_if (not b) w ≡ [] → b ≡ true
no_word true w h = refl
no_word false w h = cc

pub nil_parts : (xs ys : List Name) → xs ++ ys ≡ [] → (xs ≡ []) × (ys ≡ [])
nil_parts [] ys h = (refl, h)
nil_parts (x ∷ xs) ys h = cc

pub flat_parts : {X : Type 0} (f : X → List Name) (xs ys : List X) → flat_map f (xs ++ ys) ≡ [] → (flat_map f xs ≡ []) × (flat_map f ys ≡ [])
flat_parts f [] ys h = (refl, h)
flat_parts f (x ∷ xs) ys h =
    let here = nil_parts (f x) (flat_map f (xs ++ ys)) h in
    let rest = flat_parts f xs ys here.1 in
    let front : f x ≡ [] = here.0 in
    let more : flat_map f xs ≡ [] = rest.0 in
    (ap (λ ws. ws ++ flat_map f xs) front ∙ more, rest.1)

pub flat_flat : {X Y : Type 0} (f : Y → List Name) (g : X → List Y) (xs : List X) → flat_map f (flat_map g xs) ≡ [] → (x : X) → Contains xs x → flat_map f (g x) ≡ []
flat_flat f g [] h x c = absurd (omega (arith, c.1))
flat_flat f g (y ∷ xs) h x (zero, low, is) = ap (λ z. flat_map f (g z)) (sym is) ∙ (flat_parts f (g y) (flat_map g xs) h).0
flat_flat f g (y ∷ xs) h x (suc i, low, is) = flat_flat f g xs (flat_parts f (g y) (flat_map g xs) h).1 x (i, omega arith, is)

pub both_nil : (xs ys : List Name) → xs ≡ [] → ys ≡ [] → xs ++ ys ≡ []
both_nil [] ys h k = k
both_nil (x ∷ xs) ys h k = cc
