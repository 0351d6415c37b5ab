-- The least atom that two rows share.
use Rattle.std.proofs.Common.{◌≡◌, ℕ, ◌+◌, ◌<◌, ◌≤◌, ◌&&◌, Bool, true, false, List, length, get_or, Option, Some, None, refl, sym, ap, ◌∙◌, arith, inl, inr}
use Rattle.std.specs.Ordering.{is_le, ordering_reverse}
use Rattle.std.specs.declared.cmp.Ordering.{Ordering}
use Rattle.std.specs.declared.cmp.Ordering.TheVariants.{Less, Equal, Greater}
use Rattle.std.proofs.lemmas.Bool.Decides.{eqb_tells, leb_tells}
use Rattle.std.proofs.lemmas.List.{get_or_default}
use Rattle.pddl_state.specs.Atoms.{AtomValue, atom_cmp}
use Rattle.pddl_state.specs.AtomSets.{AreDisjoint, IsLowerBound, intersection}
use Rattle.pddl_bit_store.specs.Numbering.{number_of, IsWithin, numbered_content, IsLeastCommon}
use Rattle.pddl_state.proofs.AtomOrder.{atom_order, atom_le-self}
use Rattle.pddl_bit_store.proofs.NumberingLaws.{at_number}

greater : (r : Ordering) → is_le r ≡ false → r ≡ Greater
greater Less e = absurd (cc)
greater Equal e = absurd (cc)
greater Greater e = refl

below_le : (x y z : AtomValue) → is_le (atom_cmp y x) ≡ false → is_le (atom_cmp y z) ≡ true → is_le (atom_cmp x z) ≡ true
below_le x y z above h =
    let l : atom_cmp x y ≡ Less = atom_order.antisymm x y ∙ ap ordering_reverse (greater (atom_cmp y x) above) in
    elim (atom_cmp y z) as (λ r. atom_cmp y z ≡ r → is_le r ≡ true → is_le (atom_cmp x z) ≡ true) [
      | Less ↦ λ e g. ap is_le (atom_order.trans x y z l e)
      | Equal ↦ λ e g. ap is_le (atom_order.antisymm x z ∙ ap ordering_reverse (sym (atom_order.congr y z x e) ∙ greater (atom_cmp y x) above))
      | Greater ↦ λ e g. absurd (cc)
    ] refl h

any_default : (t : List AtomValue) (i : ℕ) (d x : AtomValue) → i < length t → x ≡ get_or t i x → get_or t i d ≡ x
any_default t i d x below is = get_or_default t i d x below ∙ sym is

-- the places from n up to the next shared bit, at m
pub least_to : (t : List AtomValue) (a b : ℕ → Bool) (n m : ℕ) (o : Option ℕ) → n ≤ m → ((k : ℕ) → n ≤ k → k < m → (a k && b k) ≡ false) → IsLeastCommon t a b n o → IsLeastCommon t a b m o
least_to t a b n m None up off h = λ k below. elim (leb_tells n k) [ inl (e, from) ↦ off k from below | inr (e, before) ↦ h k before ]
least_to t a b n m (Some q) up off h = (
  omega (arith, h.0),
  h.1,
  λ k d below on. elim (leb_tells n k) [
    | inl (e, from) ↦ let q : (a k && b k) ≡ false = off k from below in absurd (cc)
    | inr (e, before) ↦ h.2 k d before on
  ],
)

-- the first shared bit
pub least_first : (t : List AtomValue) (a b : ℕ → Bool) (n : ℕ) → IsLeastCommon t a b n None → (a n && b n) ≡ true → IsLeastCommon t a b (n + 1) (Some n)
least_first t a b n h here = (
  omega arith,
  here,
  λ k d below on. elim (eqb_tells k n) [
    | inl (e, same) ↦ ap (λ j. is_le (atom_cmp (get_or t n d) (get_or t j d))) same ∙ atom_le-self (get_or t n d)
    | inr (e, ne) ↦ let q : (a k && b k) ≡ false = h k (omega arith) in absurd (cc)
  ],
)

-- a further one, whose atom is not less
pub least_keep : (t : List AtomValue) (a b : ℕ → Bool) (n m : ℕ) (x y : AtomValue) → m < length t → n < length t → x ≡ get_or t m x → y ≡ get_or t n y → is_le (atom_cmp x y) ≡ true → IsLeastCommon t a b n (Some m) → IsLeastCommon t a b (n + 1) (Some m)
least_keep t a b n m x y in_m in_n is_x is_y le h = (
  omega (arith, h.0),
  h.1,
  λ k d below on. elim (eqb_tells k n) [
    | inl (e, same) ↦ ap (λ z. is_le (atom_cmp z (get_or t k d))) (any_default t m d x in_m is_x) ∙ (ap (λ j. is_le (atom_cmp x (get_or t j d))) same ∙ (ap (λ z. is_le (atom_cmp x z)) (any_default t n d y in_n is_y) ∙ le))
    | inr (e, ne) ↦ h.2 k d (omega arith) on
  ],
)

-- a further one, whose atom is less
pub least_take : (t : List AtomValue) (a b : ℕ → Bool) (n m : ℕ) (x y : AtomValue) → m < length t → n < length t → x ≡ get_or t m x → y ≡ get_or t n y → is_le (atom_cmp x y) ≡ false → IsLeastCommon t a b n (Some m) → (a n && b n) ≡ true → IsLeastCommon t a b (n + 1) (Some n)
least_take t a b n m x y in_m in_n is_x is_y gt h here = (
  omega arith,
  here,
  λ k d below on. elim (eqb_tells k n) [
    | inl (e, same) ↦ ap (λ j. is_le (atom_cmp (get_or t n d) (get_or t j d))) same ∙ atom_le-self (get_or t n d)
    | inr (e, ne) ↦
        let above : is_le (atom_cmp (get_or t m d) (get_or t n d)) ≡ false = ap (λ z. is_le (atom_cmp z (get_or t n d))) (any_default t m d x in_m is_x) ∙ (ap (λ z. is_le (atom_cmp x z)) (any_default t n d y in_n is_y) ∙ gt) in
        below_le (get_or t n d) (get_or t m d) (get_or t k d) above (h.2 k d (omega arith) on)
  ],
)

-- at the end of the table: no shared bit, no common atom
pub none_common : (t : List AtomValue) (a b : ℕ → Bool) (n : ℕ) → length t ≤ n → IsWithin t a → IsLeastCommon t a b n None → AreDisjoint (numbered_content t a) (numbered_content t b)
none_common t a b n past within h = λ x. elim (leb_tells (length t) (number_of t x)) [
  | inl (e, out) ↦ ap (λ c. c && b (number_of t x)) (within (number_of t x) out)
  | inr (e, below) ↦ h (number_of t x) (omega arith)
]

-- and the least is the least of both sets
pub least_content : (t : List AtomValue) (a b : ℕ → Bool) (n m : ℕ) (x : AtomValue) → length t ≤ n → m < length t → IsWithin t a → x ≡ get_or t m x → IsLeastCommon t a b n (Some m)
    → IsLowerBound x (intersection (numbered_content t a) (numbered_content t b))
least_content t a b n m x past in_m within is h y on = elim (leb_tells (length t) (number_of t y)) [
  | inl (e, out) ↦
      let off : (numbered_content t a y && numbered_content t b y) ≡ false = ap (λ c. c && b (number_of t y)) (within (number_of t y) out) in
      absurd (cc)
  | inr (e, below) ↦
      let le : is_le (atom_cmp (get_or t m y) (get_or t (number_of t y) y)) ≡ true = h.2 (number_of t y) y (omega arith) on in
      sym (ap (λ z. is_le (atom_cmp z y)) (any_default t m y x in_m is)) ∙ (sym (ap (λ z. is_le (atom_cmp (get_or t m y) z)) (at_number t y y below)) ∙ le)
]
