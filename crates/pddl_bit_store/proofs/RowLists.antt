-- The list of a row: the atoms of the table whose bits are set, which are sorted afterwards.
use Rattle.std.proofs.Common.{◌≡◌, ℕ, ◌+◌, ◌-◌, ◌<◌, ◌≤◌, zero, suc, Bool, true, false, cond, ◌&&◌, ◌||◌, List, [], ◌∷◌, ◌++◌, length, get_or, refl, sym, ap, ap₂, subst, ◌∙◌, arith, inl, inr, take, filter}
use Rattle.std.specs.List.{list_any, IsDistinct, AllByRecursion, dedup, dedup_from}
use Rattle.std.specs.List.Sorted.{IsPermutation, IsSorted, IsStrictlySortedBy}
use Rattle.std.proofs.Math.Bool.{and-true, and-false}
use Rattle.std.proofs.lemmas.Bool.{cases_Bool}
use Rattle.std.proofs.lemmas.Bool.Decides.{leb_tells}
use Rattle.std.proofs.lemmas.List.{take_all, append-nil}
use Rattle.std.proofs.lemmas.List.Elements.{filter_more}
use Rattle.std.proofs.lemmas.List.Folds.{list_any_at}
use Rattle.std.proofs.lemmas.List.Kept.{IsStrictlySortedBy-dedup}
use Rattle.std.proofs.lemmas.List.Sums.{passes_at_first}
use Rattle.std.proofs.lemmas.Map.Keys.{IsDistinct-head, IsDistinct-tail, IsDistinct-cons, IsDistinct-IsPermutation}
use Rattle.pddl_state.specs.Atoms.{AtomValue, atom_eq, atom_cmp}
use Rattle.pddl_state.specs.AtomSets.{IsRising}
use Rattle.pddl_bit_store.specs.Numbering.{number_of, IsWithin, numbered_content}
use Rattle.pddl_state.proofs.AtomOrder.{same_atom, atom_eq-swap, atom_order, atom_ties}
use Rattle.pddl_bit_store.proofs.NumberingLaws.{any_atom, number-at}

-- an atom of a row's content is in the table
content_in : (t : List AtomValue) (row : ℕ → Bool) (x : AtomValue) → IsWithin t row → (numbered_content t row x && list_any (atom_eq x) t) ≡ numbered_content t row x
content_in t row x h = elim (leb_tells (length t) (number_of t x)) [
  | inl (e, past) ↦ ap (λ b. b && list_any (atom_eq x) t) (h (number_of t x) past) ∙ sym (h (number_of t x) past)
  | inr (e, below) ↦ ap (λ b. numbered_content t row x && b) (list_any_at (atom_eq x) t (number_of t x) x below (passes_at_first (atom_eq x) t x below)) ∙ and-true (numbered_content t row x)
]

-- what a filter lists
any_filter : (p : AtomValue → Bool) (x : AtomValue) (ys : List AtomValue) → list_any (atom_eq x) (filter p ys) ≡ (p x && list_any (atom_eq x) ys)
any_filter p x [] = sym (and-false (p x))
any_filter p x (y ∷ ys) = elim (cases_Bool (atom_eq x y)) [
  | inl e ↦
      let is : x ≡ y = same_atom x y e in
      elim (cases_Bool (p x)) [
        | inl q ↦
            let r : p y ≡ true = ap p (sym is) ∙ q in
            ap (λ b. list_any (atom_eq x) (cond b (y ∷ filter p ys) (filter p ys))) r ∙ (ap (λ b. b || list_any (atom_eq x) (filter p ys)) e ∙ sym (ap₂ (λ b c. b && (c || list_any (atom_eq x) ys)) q e))
        | inr q ↦
            let r : p y ≡ false = ap p (sym is) ∙ q in
            ap (λ b. list_any (atom_eq x) (cond b (y ∷ filter p ys) (filter p ys))) r ∙ (any_filter p x ys ∙ (ap (λ b. b && list_any (atom_eq x) ys) q ∙ sym (ap (λ b. b && (atom_eq x y || list_any (atom_eq x) ys)) q)))
      ]
  | inr e ↦
      let skip : list_any (atom_eq x) (cond (p y) (y ∷ filter p ys) (filter p ys)) ≡ list_any (atom_eq x) (filter p ys) =
      elim (p y) as (λ b. list_any (atom_eq x) (cond b (y ∷ filter p ys) (filter p ys)) ≡ list_any (atom_eq x) (filter p ys)) [ true ↦ ap (λ b. b || list_any (atom_eq x) (filter p ys)) e | false ↦ refl ] in
      skip ∙ (any_filter p x ys ∙ sym (ap (λ b. p x && (b || list_any (atom_eq x) ys)) e))
]

-- the atoms of the table that a row has list its content
pub listed_content : (t : List AtomValue) (row : ℕ → Bool) (x : AtomValue) → IsWithin t row → list_any (atom_eq x) (filter (numbered_content t row) t) ≡ numbered_content t row x
listed_content t row x h = any_filter (numbered_content t row) x t ∙ content_in t row x h

-- the list so far, and the atom at the next bit
pub listed_here : (t : List AtomValue) (row : ℕ → Bool) (all : List AtomValue) (i : ℕ) (x : AtomValue) → IsDistinct atom_eq t → row i ≡ true → i < length t → x ≡ get_or t i x → all ≡ filter (numbered_content t row) (take i t)
    → all ++ x ∷ [] ≡ filter (numbered_content t row) (take (i + 1) t)
listed_here t row all i x distinct bit below is so_far =
    let passes : numbered_content t row (get_or t i x) ≡ true = ap row (number-at t i x distinct below) ∙ bit in
    ap₂ (λ xs y. xs ++ y ∷ []) so_far is ∙ sym (filter_more (numbered_content t row) t i x below ∙ ap (λ b. filter (numbered_content t row) (take i t) ++ cond b (get_or t i x ∷ []) []) passes)

-- a place whose bit is not set
pub listed_skip : (t : List AtomValue) (row : ℕ → Bool) (all : List AtomValue) (i : ℕ) → IsDistinct atom_eq t → row i ≡ false → i < length t → all ≡ filter (numbered_content t row) (take i t)
    → all ≡ filter (numbered_content t row) (take (i + 1) t)
listed_skip t row all i distinct bit below so_far =
    let fails : numbered_content t row (get_or t i any_atom) ≡ false = ap row (number-at t i any_atom distinct below) ∙ bit in
    so_far ∙ sym (filter_more (numbered_content t row) t i any_atom below ∙ (ap (λ b. filter (numbered_content t row) (take i t) ++ cond b (get_or t i any_atom ∷ []) []) fails ∙ append-nil (filter (numbered_content t row) (take i t))))

self_off : (b : Bool) → (b && b) ≡ false → b ≡ false
self_off true e = absurd (cc)
self_off false e = refl

-- places whose bits are not set
listed_gap : (t : List AtomValue) (row : ℕ → Bool) (all : List AtomValue) (i n : ℕ) → IsDistinct atom_eq t → ((k : ℕ) → i ≤ k → k < i + n → (row k && row k) ≡ false) → i + n ≤ length t
    → all ≡ filter (numbered_content t row) (take i t) → all ≡ filter (numbered_content t row) (take (i + n) t)
listed_gap t row all i zero distinct off within so_far = let same : i ≡ i + 0 = omega arith in so_far ∙ ap (λ m. filter (numbered_content t row) (take m t)) same
listed_gap t row all i (suc n) distinct off within so_far =
    let before = listed_gap t row all i n distinct (λ k from below. off k from (omega arith)) (omega arith) so_far in
    let next : i + n + 1 ≡ i + suc n = omega arith in
    listed_skip t row all (i + n) distinct (self_off (row (i + n)) (off (i + n) (omega arith) (omega arith))) (omega arith) before ∙ ap (λ m. filter (numbered_content t row) (take m t)) next

-- the places from i up to the next bit, at j
pub listed_to : (t : List AtomValue) (row : ℕ → Bool) (all : List AtomValue) (i j : ℕ) → IsDistinct atom_eq t → i ≤ j → j ≤ length t → ((k : ℕ) → i ≤ k → k < j → (row k && row k) ≡ false)
    → all ≡ filter (numbered_content t row) (take i t) → all ≡ filter (numbered_content t row) (take j t)
listed_to t row all i j distinct up within off so_far =
    let is : i + (j - i) ≡ j = omega arith in
    listed_gap t row all i (j - i) distinct (λ k from below. off k from (omega arith)) (omega arith) so_far ∙ ap (λ m. filter (numbered_content t row) (take m t)) is

-- the list at the end of the table
pub listed_all : (t : List AtomValue) (p : AtomValue → Bool) (all : List AtomValue) (i : ℕ) → length t ≤ i → all ≡ filter p (take i t) → all ≡ filter p t
listed_all t p all i past so_far = so_far ∙ ap (filter p) (take_all i t past)

-- a filter keeps keys apart
apart_filter : (p : AtomValue → Bool) (y : AtomValue) (ys : List AtomValue) → AllByRecursion (λ z. atom_eq y z ≡ false) ys → AllByRecursion (λ z. atom_eq y z ≡ false) (filter p ys)
apart_filter p y [] h = h
apart_filter p y (z ∷ zs) h = elim (p z) as (λ b. AllByRecursion (λ z. atom_eq y z ≡ false) (cond b (z ∷ filter p zs) (filter p zs))) [ true ↦ (h.0, apart_filter p y zs h.1) | false ↦ apart_filter p y zs h.1 ]

distinct_filter : (p : AtomValue → Bool) (ys : List AtomValue) → IsDistinct atom_eq ys → IsDistinct atom_eq (filter p ys)
distinct_filter p [] h = h
distinct_filter p (y ∷ ys) h =
    let tail = distinct_filter p ys (IsDistinct-tail atom_eq y ys h) in
    elim (p y) as (λ b. IsDistinct atom_eq (cond b (y ∷ filter p ys) (filter p ys))) [ true ↦ IsDistinct-cons atom_eq y (filter p ys) (apart_filter p y ys (IsDistinct-head atom_eq y ys h)) tail | false ↦ tail ]

-- `dedup` leaves a list as it is whose keys are apart
dedup_same : (k : AtomValue) (xs : List AtomValue) → IsDistinct atom_eq (k ∷ xs) → dedup_from atom_eq k xs ≡ k ∷ xs
dedup_same k [] h = refl
dedup_same k (x ∷ xs) h = ap (λ b. cond b (dedup_from atom_eq k xs) (k ∷ dedup_from atom_eq x xs)) (atom_eq-swap x k ∙ (IsDistinct-head atom_eq k (x ∷ xs) h).0) ∙ ap (λ ys. k ∷ ys) (dedup_same x xs (IsDistinct-tail atom_eq k (x ∷ xs) h))

dedup_distinct : (xs : List AtomValue) → IsDistinct atom_eq xs → dedup atom_eq xs ≡ xs
dedup_distinct [] h = refl
dedup_distinct (x ∷ xs) h = dedup_same x xs h

-- a sorted list of distinct atoms rises
pub rising : (t : List AtomValue) (p : AtomValue → Bool) (all xs : List AtomValue) → IsDistinct atom_eq t → all ≡ filter p t → IsPermutation all xs → IsSorted atom_cmp xs → IsRising xs
rising t p all xs distinct is moved sorted =
    let P : List AtomValue → Type 0 = λ ys. IsDistinct atom_eq ys in
    let apart : IsDistinct atom_eq all = subst P (sym is) (distinct_filter p t distinct) in
    let still : IsDistinct atom_eq xs = IsDistinct-IsPermutation atom_eq atom_eq-swap all xs moved apart in
    let Q : List AtomValue → Type 0 = λ ys. IsStrictlySortedBy atom_cmp ys in
    subst Q (dedup_distinct xs still) (IsStrictlySortedBy-dedup atom_order atom_ties xs sorted)
