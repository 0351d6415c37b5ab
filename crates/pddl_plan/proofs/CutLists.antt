-- Lists cut into parts by their ends.
use Rattle.std.proofs.Common.{◌≡◌, ◌<◌, ◌≤◌, ℕ, zero, suc, ◌+◌, ◌-◌, List, [], ◌∷◌, ◌++◌, length, get_or, drop, take, refl, sym, ap, ◌∙◌, arith, drop-cons}
use Rattle.std.specs.Prelude.{Some, slice_get, slice_index, slice_range}
use Rattle.std.proofs.lemmas.Option.{slice_get-get_or, get_or_from_slice_get}
use Rattle.std.proofs.lemmas.List.{get_or-take, get_or-drop, length-drop, length-take-le, take-append-le, take-append-drop, take_all, drop-append-le}
use Rattle.std.proofs.Math.Seq.{drop-append_seam}
use Rattle.pddl_plan.specs.Cuts.{cut, last_end, Rises, start_of}

-- ---- ends

pub last_end_pushed : (start : ℕ) (ends : List ℕ) (end : ℕ) → last_end start (ends ++ end ∷ []) ≡ end
last_end_pushed start [] end = refl
last_end_pushed start (e ∷ ends) end = last_end_pushed e ends end

pub rises_pushed : (start : ℕ) (ends : List ℕ) (end : ℕ) → Rises start ends → last_end start ends < end → Rises start (ends ++ end ∷ [])
rises_pushed start [] end rises low = (low, tt)
rises_pushed start (e ∷ ends) end rises low = (rises.0, rises_pushed e ends end rises.1 low)

-- each part takes a place at least
pub as_many : (start : ℕ) (ends : List ℕ) → Rises start ends → start + length ends ≤ last_end start ends
as_many start [] rises = omega (arith)
as_many start (e ∷ ends) rises = omega (arith, rises.0, as_many e ends rises.1)

-- the last part ends where a part more would start
pub last_is : (start : ℕ) (ends : List ℕ) → slice_index (start ∷ ends) (length ends) ≡ last_end start ends
last_is start [] = refl
last_is start (e ∷ ends) = last_is e ends

-- a part ends behind its start, and not behind the last
pub part_rises : (start : ℕ) (ends : List ℕ) (n : ℕ) → n < length ends → Rises start ends → slice_index (start ∷ ends) n < slice_index ends n
part_rises start [] n low rises = absurd (omega (arith, low))
part_rises start (e ∷ ends) zero low rises = rises.0
part_rises start (e ∷ ends) (suc n) low rises = part_rises e ends n (omega (arith, low)) rises.1

pub part_ends : (start : ℕ) (ends : List ℕ) (n : ℕ) → n < length ends → Rises start ends → slice_index ends n ≤ last_end start ends
part_ends start [] n low rises = absurd (omega (arith, low))
part_ends start (e ∷ ends) zero low rises = omega (arith, as_many e ends rises.1)
part_ends start (e ∷ ends) (suc n) low rises = part_ends e ends n (omega (arith, low)) rises.1

-- the first ends

pub rises_first : (n start : ℕ) (ends : List ℕ) → Rises start ends → Rises start (take n ends)
rises_first zero start ends rises = tt
rises_first (suc n) start [] rises = tt
rises_first (suc n) start (e ∷ ends) rises = (rises.0, rises_first n e ends rises.1)

pub end_first : (n start : ℕ) (ends : List ℕ) → Rises start ends → last_end start (take n ends) ≤ last_end start ends
end_first zero start ends rises = omega (arith, as_many start ends rises)
end_first (suc n) start [] rises = omega (arith)
end_first (suc n) start (e ∷ ends) rises = end_first n e ends rises.1

-- ---- parts

module _ {A : Type 0} where
  pub length-cut : (xs : List A) (start : ℕ) (ends : List ℕ) → length (cut xs start ends) ≡ length ends
  length-cut xs start [] = refl
  length-cut xs start (e ∷ ends) = ap suc (length-cut xs e ends)

  -- the first parts
  pub cut_first : (xs : List A) (n start : ℕ) (ends : List ℕ) → cut xs start (take n ends) ≡ take n (cut xs start ends)
  cut_first xs zero start ends = refl
  cut_first xs (suc n) start [] = refl
  cut_first xs (suc n) start (e ∷ ends) = ap (λ (ps : List (List A)). slice_range xs start e ∷ ps) (cut_first xs n e ends)

  -- the part of a number
  pub cut_get : (xs : List A) (start : ℕ) (ends : List ℕ) (n : ℕ) → n < length ends
      → slice_get (cut xs start ends) n ≡ Some (slice_range xs (slice_index (start ∷ ends) n) (slice_index ends n))
  cut_get xs start [] n low = absurd (omega (arith, low))
  cut_get xs start (e ∷ ends) zero low = refl
  cut_get xs start (e ∷ ends) (suc n) low = cut_get xs e ends n (omega (arith, low))

  -- a part of a list stays where more is added behind
  kept : (xs ys : List A) (a b : ℕ) → a ≤ b → b ≤ length xs → slice_range (xs ++ ys) a b ≡ slice_range xs a b
  kept xs ys a b rises ends =
      ap (take (b - a)) (drop-append-le a xs ys (omega (arith, rises, ends)))
      ∙ take-append-le (b - a) (drop a xs) ys (omega (arith, rises, ends, length-drop a xs))

  pub cut_kept : (xs ys : List A) (start : ℕ) (ends : List ℕ) → Rises start ends → last_end start ends ≤ length xs → cut (xs ++ ys) start ends ≡ cut xs start ends
  cut_kept xs ys start [] rises within = refl
  cut_kept xs ys start (e ∷ ends) rises within =
      let first : slice_range (xs ++ ys) start e ≡ slice_range xs start e = kept xs ys start e (omega (arith, rises.0)) (omega (arith, within, as_many e ends rises.1)) in
      rw (first, cut_kept xs ys e ends rises.1 within) refl

  -- what stands behind the last part is taken off
  pub cut_taken : (xs : List A) (n : ℕ) (start : ℕ) (ends : List ℕ) → Rises start ends → last_end start ends ≤ length (take n xs) → cut (take n xs) start ends ≡ cut xs start ends
  cut_taken xs n start ends rises within =
      sym (cut_kept (take n xs) (drop n xs) start ends rises within) ∙ ap (λ (ys : List A). cut ys start ends) (take-append-drop n xs)

  -- a part more
  pub cut_pushed : (xs : List A) (start : ℕ) (ends : List ℕ) (end : ℕ) → cut xs start (ends ++ end ∷ []) ≡ cut xs start ends ++ slice_range xs (last_end start ends) end ∷ []
  cut_pushed xs start [] end = refl
  cut_pushed xs start (e ∷ ends) end = ap (λ (ps : List (List A)). slice_range xs start e ∷ ps) (cut_pushed xs e ends end)

  -- all that stands behind a place
  pub range_to_end : (xs : List A) (start end : ℕ) → end ≡ length xs → slice_range xs start end ≡ drop start xs
  range_to_end xs start end is = take_all (end - start) (drop start xs) (omega (arith, is, length-drop start xs))

  -- what is added to a list
  pub added : (xs ys : List A) (start end : ℕ) → start ≡ length xs → end ≡ length (xs ++ ys) → slice_range (xs ++ ys) start end ≡ ys
  added xs ys start end first last =
      range_to_end (xs ++ ys) start end last ∙ ap (λ (n : ℕ). drop n (xs ++ ys)) first ∙ drop-append_seam xs ys

  -- the part of a number, as the code finds it
  pub part_is : (xs seen : List A) (ends es : List ℕ) (n a b : ℕ) → n < length ends → a ≡ start_of es n → b ≡ slice_index es n → es ≡ ends → seen ≡ xs
      → slice_get (cut xs 0 ends) n ≡ Some (slice_range seen a b)
  part_is xs seen ends es n a b low first last same are =
      let start : a ≡ start_of ends n = first ∙ ap (λ (e : List ℕ). start_of e n) same in
      let end : b ≡ slice_index ends n = last ∙ ap (λ (e : List ℕ). slice_index e n) same in
      rw (are, start, end) (cut_get xs 0 ends n low)

  -- ---- a part's first, and the others

  drop_first : (xs : List A) (s : ℕ) (d : A) → s < length xs → drop s xs ≡ get_or xs s d ∷ drop (s + 1) xs
  drop_first xs s d low =
      let next : suc s ≡ s + 1 = omega arith in
      drop-cons xs s d low ∙ ap (λ (k : ℕ). get_or xs s d ∷ drop k xs) next

  take_first : (n : ℕ) (x : A) (xs : List A) → 0 < n → take n (x ∷ xs) ≡ x ∷ take (n - 1) xs
  take_first zero x xs some = absurd (omega (arith, some))
  take_first (suc n) x xs some = let same : n ≡ suc n - 1 = omega arith in ap (λ (k : ℕ). x ∷ take k xs) same

  pub range_first : (xs : List A) (s e : ℕ) (d : A) → s < e → e ≤ length xs → slice_range xs s e ≡ get_or xs s d ∷ slice_range xs (s + 1) e
  range_first xs s e d rises within =
      let rest : (e - s) - 1 ≡ e - (s + 1) = omega (arith, rises) in
      ap (take (e - s)) (drop_first xs s d (omega (arith, rises, within)))
      ∙ take_first (e - s) (get_or xs s d) (drop (s + 1) xs) (omega (arith, rises))
      ∙ ap (λ (k : ℕ). get_or xs s d ∷ take k (drop (s + 1) xs)) rest

  pub length-range : (xs : List A) (s e : ℕ) → e ≤ length xs → length (slice_range xs s e) ≡ e - s
  length-range xs s e within = length-take-le (e - s) (drop s xs) (omega (arith, within, length-drop s xs))

  pub range_get : (xs : List A) (s e n : ℕ) (x : A) → s + n < e → e ≤ length xs → slice_get xs (s + n) ≡ Some x → slice_get (slice_range xs s e) n ≡ Some x
  range_get xs s e n x low within is =
      let range : List A = slice_range xs s e in
      slice_get-get_or range n x (omega (arith, low, within, length-range xs s e within))
      ∙ ap Some (get_or-take (e - s) (drop s xs) n x (omega (arith, low)) ∙ get_or-drop s xs n x ∙ get_or_from_slice_get xs (s + n) x x is)
