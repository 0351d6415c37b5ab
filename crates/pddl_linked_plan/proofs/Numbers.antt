-- Names and their numbers.
use Rattle.std.proofs.Common.{◌≡◌, ℕ, suc, ◌+◌, Bool, true, false, not, ◌||◌, cond, List, [], ◌∷◌, map, length, nat_lt, bytes_eq, refl, sym, ap, ◌∙◌, arith}
use Rattle.std.specs.Prelude.{Option, Some, None, is_some, find, position}
use Rattle.std.specs.Borrow.{Bor}
use Rattle.std.specs.Map.{keys_of}
use Rattle.std.specs.List.{slice_get, position_or_len}
use Rattle.pddl_faults.proofs.PutValues.{found_or}
use Rattle.pddl_task.specs.Names.{Name, is_in, number_in}

-- ---- what stands at a name's number

pub one_more_get : {X : Type 0} (x : X) (xs : List X) (k : ℕ) → slice_get xs k ≡ slice_get (x ∷ xs) (1 + k)
one_more_get x xs k = let more : suc k ≡ 1 + k = omega arith in ap (slice_get (x ∷ xs)) more

at_front : {X : Type 0} (b : Bool) (x : X) (xs : List X) (found : Option X) (k : ℕ) → found ≡ slice_get xs k → cond b (Some x) found ≡ slice_get (x ∷ xs) (cond (not b) (1 + k) 0)
at_front true x xs found k is = refl
at_front false x xs found k is = is ∙ one_more_get x xs k

-- what is found by a name stands at the name's number
pub found_at_number : {X : Type 0} (key : X → Name) (xs : List X) (n : Name) → find (λ x. bytes_eq n (key x)) xs ≡ slice_get xs (number_in (map key xs) n)
found_at_number key [] n = refl
found_at_number key (x ∷ xs) n = at_front (bytes_eq n (key x)) x xs (find (λ y. bytes_eq n (key y)) xs) (number_in (map key xs) n) (found_at_number key xs n)

-- something is found by a name where the name is among theirs
pub is_found : {X : Type 0} (key : X → Name) (xs : List X) (n : Name) → is_in (map key xs) n ≡ is_some (find (λ x. bytes_eq n (key x)) xs)
is_found key [] n = refl
is_found key (x ∷ xs) n =
    ap (λ b. bytes_eq n (key x) || b) (is_found key xs n) ∙ sym (found_or (bytes_eq n (key x)) x (find (λ y. bytes_eq n (key y)) xs))

-- ---- names that are lent with something

module _ {V Y : Type 0} (seen : Bor (List ℕ) × V → Y) (key : Y → Name) (same : (e : Bor (List ℕ) × V) → key (seen e) ≡ e.0.now) where
  number_lent : (es : List (Bor (List ℕ) × V)) (n : Name) → position_or_len (λ k. bytes_eq n k.now) (keys_of es) ≡ number_in (map key (map seen es)) n
  number_lent [] n = refl
  number_lent (e ∷ es) n =
      ap (λ k. cond (not (bytes_eq n e.0.now)) (1 + k) 0) (number_lent es n)
      ∙ ap (λ m. cond (not (bytes_eq n m)) (1 + number_in (map key (map seen es)) n) 0) (sym (same e))

  as_many : (es : List (Bor (List ℕ) × V)) → length (keys_of es) ≡ length (map key (map seen es))
  as_many [] = refl
  as_many (e ∷ es) = ap suc (as_many es)

  -- the place where a table finds a name is its place among the names
  pub place_lent : (es : List (Bor (List ℕ) × V)) (n : Name) → position (λ k. bytes_eq n k.now) (keys_of es) ≡ position (bytes_eq n) (map key (map seen es))
  place_lent es n =
      ap (λ k. cond (nat_lt k (length (keys_of es))) (Some k) None) (number_lent es n)
      ∙ ap (λ l. cond (nat_lt (number_in (map key (map seen es)) n) l) (Some (number_in (map key (map seen es)) n)) None) (as_many es)
