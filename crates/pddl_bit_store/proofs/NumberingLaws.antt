-- The content of a row over a table of atoms: as the table grows, as bits change, and place by place.
use Rattle.std.proofs.Common.{◌≡◌, ℕ, ◌+◌, ◌<◌, ◌==◌, zero, suc, Bool, true, false, cond, not, ◌&&◌, ◌||◌, List, [], ◌∷◌, ◌++◌, length, get_or, refl, sym, ap, ap₂, subst, ◌∙◌, arith, ◌↔◌, inl, inr, if◌then◌else◌, IsTrue}
use Rattle.std.specs.List.{list_any, IsDistinct, AllByRecursion}
use Rattle.std.proofs.lemmas.Bool.{cases_Bool, eq-eqb}
use Rattle.std.proofs.lemmas.Bool.Decides.{eqb_tells, leb_tells}
use Rattle.std.proofs.lemmas.List.{length-append}
use Rattle.std.proofs.lemmas.List.Folds.{position_or_len_push}
use Rattle.std.proofs.lemmas.List.Sums.{passes_at_first}
use Rattle.std.proofs.lemmas.Map.Keys.{IsDistinct-head, IsDistinct-tail}
use Rattle.indexmap.specs.IndexSet.{insert_key}
use Rattle.pddl_state.specs.Atoms.{AtomValue, atom_eq}
use Rattle.pddl_state.specs.AtomSets.{with_atom, AreDisjoint}
use Rattle.pddl_bit_store.specs.Numbering.{number_of, IsWithin, numbered_content}
use Rattle.pddl_state.proofs.AtomOrder.{same_atom, atom_eq-self, atom_eq-swap}

-- some atom, where a list's default is never taken
pub any_atom : AtomValue
any_atom = record { predicate = 0; args = [] }

-- the atom at its number
pub at_number : (t : List AtomValue) (x d : AtomValue) → number_of t x < length t → get_or t (number_of t x) d ≡ x
at_number t x d below = sym (same_atom x (get_or t (number_of t x) d) (passes_at_first (atom_eq x) t d below))

-- an atom has the number of an atom of the table exactly where they are one
pub number-same : (t : List AtomValue) (a x : AtomValue) → number_of t a < length t → (number_of t x == number_of t a) ≡ atom_eq x a
number-same t a x below = elim (cases_Bool (atom_eq x a)) [
  | inl e ↦ eq-eqb (number_of t x) (number_of t a) (ap (number_of t) (same_atom x a e)) ∙ sym e
  | inr e ↦ elim (eqb_tells (number_of t x) (number_of t a)) [
    | inl (h, same) ↦
        let here : get_or t (number_of t x) a ≡ x = at_number t x a (omega arith) in
        let there : get_or t (number_of t a) a ≡ a = at_number t a a below in
        let is : x ≡ a = sym here ∙ (ap (λ k. get_or t k a) same ∙ there) in
        let same_so : atom_eq x a ≡ true = ap (λ z. atom_eq z a) is ∙ atom_eq-self a in
        absurd (cc)
    | inr (h, ne) ↦ h ∙ sym e
  ]
]

-- a table that grew by one atom keeps its rows
grown_within : (t : List AtomValue) (a : AtomValue) (row : ℕ → Bool) → IsWithin t row → IsWithin (t ++ a ∷ []) row
grown_within t a row h i past = h i (omega (arith, length-append t (a ∷ [])))

-- and what they have
grown_content : (t : List AtomValue) (a : AtomValue) (row : ℕ → Bool) → IsWithin t row → (x : AtomValue) → numbered_content (t ++ a ∷ []) row x ≡ numbered_content t row x
grown_content t a row h x =
    ap row (position_or_len_push (atom_eq x) t a) ∙ elim (eqb_tells (number_of t x) (length t)) [
      | inl (e, at) ↦ ap (λ b. row (cond b (length t + cond (atom_eq x a) 0 1) (number_of t x))) e ∙ (h (length t + cond (atom_eq x a) 0 1) (omega arith) ∙ sym (h (number_of t x) (omega arith)))
      | inr (e, ne) ↦ ap (λ b. row (cond b (length t + cond (atom_eq x a) 0 1) (number_of t x))) e
    ]

-- the same of a table that an atom was put into
pub kept_within : (t n : List AtomValue) (a : AtomValue) (row : ℕ → Bool) → n ≡ insert_key atom_eq t a → IsWithin t row → IsWithin n row
kept_within t n a row is h =
    let P : List AtomValue → Type 0 = λ m. IsWithin m row in
    subst P (sym is) (elim (list_any (atom_eq a) t) as (λ b. IsWithin (if b then t else t ++ a ∷ []) row) [ true ↦ h | false ↦ grown_within t a row h ])

content_at : (t n : List AtomValue) (a : AtomValue) (row : ℕ → Bool) → n ≡ insert_key atom_eq t a → IsWithin t row → (x : AtomValue) → numbered_content n row x ≡ numbered_content t row x
content_at t n a row is h x =
    ap (λ m. numbered_content m row x) is ∙ elim (list_any (atom_eq a) t) as (λ b. numbered_content (if b then t else t ++ a ∷ []) row x ≡ numbered_content t row x) [ true ↦ refl | false ↦ grown_content t a row h x ]

pub kept_content : (t n : List AtomValue) (a : AtomValue) (row : ℕ → Bool) → n ≡ insert_key atom_eq t a → IsWithin t row → numbered_content n row ≡ numbered_content t row
kept_content t n a row is h = λ i x. content_at t n a row is h x i

-- a bit that is set at an atom's number puts the atom into the set
pub put_content : (n : List AtomValue) (a : AtomValue) (r s : ℕ → Bool) (p : ℕ) → p ≡ number_of n a → p < length n → ((i : ℕ) → s i ≡ ((i == p) || r i)) → numbered_content n s ≡ with_atom (numbered_content n r) a
put_content n a r s p is below bits = λ j x. (bits (number_of n x) ∙ ap (λ b. b || r (number_of n x)) (ap (λ q. number_of n x == q) is ∙ number-same n a x (omega arith))) j

-- and is within the table
pub put_within : (n : List AtomValue) (r s : ℕ → Bool) (p : ℕ) → p < length n → ((i : ℕ) → s i ≡ ((i == p) || r i)) → IsWithin n r → IsWithin n s
put_within n r s p below bits h i past = elim (eqb_tells i p) [
  | inl (e, same) ↦ absurd (omega (arith, same))
  | inr (e, ne) ↦ bits i ∙ (ap (λ b. b || r i) e ∙ h i past)
]

-- what `insert` leaves
pub inserted_content : (t n : List AtomValue) (a : AtomValue) (r s : ℕ → Bool) (p : ℕ) → n ≡ insert_key atom_eq t a → p ≡ number_of n a → p < length n → IsWithin t r → ((i : ℕ) → s i ≡ ((i == p) || r i)) → numbered_content n s ≡ with_atom (numbered_content t r) a
inserted_content t n a r s p grown is below h bits = put_content n a r s p is below bits ∙ ap (λ (c : AtomValue → Bool). with_atom c a) (kept_content t n a r grown h)

-- the number of the atom at i
pub number-at : (t : List AtomValue) (i : ℕ) (d : AtomValue) → IsDistinct atom_eq t → i < length t → number_of t (get_or t i d) ≡ i
number-at [] i d h below = absurd (omega arith)
number-at (y ∷ ys) zero d h below = ap (λ b. cond (not b) (1 + number_of ys y) 0) (atom_eq-self y)
number-at (y ∷ ys) (suc i) d h below =
    let apart : atom_eq (get_or ys i d) y ≡ false = atom_eq-swap (get_or ys i d) y ∙ head_apart y ys i d (IsDistinct-head atom_eq y ys h) (omega arith) in
    let tail : number_of ys (get_or ys i d) ≡ i = number-at ys i d (IsDistinct-tail atom_eq y ys h) (omega arith) in
    ap (λ b. cond (not b) (1 + number_of ys (get_or ys i d)) 0) apart ∙ (omega arith)
  where
    head_apart : (y : AtomValue) (ys : List AtomValue) (i : ℕ) (d : AtomValue) → AllByRecursion (λ z. atom_eq y z ≡ false) ys → i < length ys → atom_eq y (get_or ys i d) ≡ false
    head_apart y [] i d h below = absurd (omega arith)
    head_apart y (z ∷ zs) zero d h below = h.0
    head_apart y (z ∷ zs) (suc i) d h below = head_apart y zs i d h.1 (omega arith)

-- rows over a table share no bit exactly where their sets are disjoint
pub contents_disjoint : (t : List AtomValue) (a b : ℕ → Bool) → IsDistinct atom_eq t → IsWithin t a → ((i : ℕ) → (a i && b i) ≡ false) ↔ AreDisjoint (numbered_content t a) (numbered_content t b)
contents_disjoint t a b distinct h = (
  λ bits x. bits (number_of t x),
  λ apart i. elim (leb_tells (length t) i) [
    | inl (e, past) ↦ ap (λ c. c && b i) (h i past)
    | inr (e, below) ↦
        let P : ℕ → Type 0 = λ k. (a k && b k) ≡ false in
        subst P (number-at t i any_atom distinct below) (apart (get_or t i any_atom))
  ],
)

-- the same, of a test that was answered
pub disjoint_test : (a b : ℕ → Bool) (n : List AtomValue) (r : Bool) → (IsTrue r ↔ ((i : ℕ) → (a i && b i) ≡ false)) → IsDistinct atom_eq n → IsWithin n a → IsTrue r ↔ AreDisjoint (numbered_content n a) (numbered_content n b)
disjoint_test a b n r test distinct h = let d = contents_disjoint n a b distinct h in (λ so. d.0 (test.0 so), λ apart. test.1 (d.1 apart))

-- the atom at a bit that both rows have is in both sets
pub shared_at : (t : List AtomValue) (a b : ℕ → Bool) (x y : AtomValue) (i : ℕ) → IsDistinct atom_eq t → i < length t → x ≡ y → y ≡ get_or t i y → a i ≡ true → b i ≡ true
    → (numbered_content t a x && numbered_content t b x) ≡ true
shared_at t a b x y i distinct below same is ha hb =
    let at : number_of t x ≡ i = ap (number_of t) (same ∙ is) ∙ number-at t i y distinct below in
    ap₂ (λ p q. p && q) (ap a at ∙ ha) (ap b at ∙ hb)
