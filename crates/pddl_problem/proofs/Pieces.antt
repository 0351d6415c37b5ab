-- Names side by side: pieces of bytes, up to each of some ends.
use Rattle.std.proofs.Common.{Bool, true, false, ◌&&◌, subst, ◌≡◌, ◌≤◌, ◌<◌, ◌+◌, ◌-◌, ℕ, zero, suc, List, [], ◌∷◌, ◌++◌, length, take, drop, get_or, refl, sym, ap, ap₂, ◌∙◌, arith}
use Rattle.std.specs.List.{list_all, slice_range}
use Rattle.std.proofs.Math.Seq.{drop-append_seam}
use Rattle.std.proofs.lemmas.List.{drop-take, get_or-take, length-take-le, take-take}
use Rattle.pddl_token.specs.Names.{is_name}
use Rattle.pddl_problem.specs.declared.object_names.Held.{Held}
use Rattle.pddl_problem.specs.declared.object_names.Held.TheVariants.{Few}
use Rattle.pddl_problem.specs.HeldNames.{pieces, start_at, DoRise, names_in, AreHeld}

-- the last of some ends, or the place in front of them
abbrev pub last_end : ℕ → List ℕ → ℕ
last_end from [] = from
last_end from (end ∷ ends) = last_end end ends

pub rise_last : (from : ℕ) (ends : List ℕ) → DoRise from ends → (from ≤ last_end from ends) × (last_end from ends ≤ 32)
rise_last from [] rise = (omega arith, rise)
rise_last from (end ∷ ends) rise = let (front, fits) = rise_last end ends rise.1 in (omega (arith, rise.0, front), fits)

-- one end more
pub rise_more : (from : ℕ) (ends : List ℕ) (end : ℕ) → DoRise from ends → last_end from ends ≤ end → end ≤ 32 → DoRise from (ends ++ end ∷ [])
rise_more from [] end rise behind fits = (behind, fits)
rise_more from (first ∷ ends) end rise behind fits = (rise.0, rise_more first ends end rise.1 behind fits)

pub last_more : (from : ℕ) (ends : List ℕ) (end : ℕ) → last_end from (ends ++ end ∷ []) ≡ end
last_more from [] end = refl
last_more from (first ∷ ends) end = last_more first ends end

pub pieces_more : (from : ℕ) (ends : List ℕ) (end : ℕ) (bytes : List ℕ) → pieces from (ends ++ end ∷ []) bytes ≡ pieces from ends bytes ++ slice_range bytes (last_end from ends) end ∷ []
pieces_more from [] end bytes = refl
pieces_more from (first ∷ ends) end bytes = ap (λ ps. slice_range bytes from first ∷ ps) (pieces_more first ends end bytes)

-- a piece is what is left of its front
piece_is : (bytes : List ℕ) (from end : ℕ) → from ≤ end → slice_range bytes from end ≡ drop from (take end bytes)
piece_is bytes from end rise = let whole : from + (end - from) ≡ end = omega (arith, rise) in sym (drop-take from (end - from) bytes) ∙ ap (λ n. drop from (take n bytes)) whole

-- pieces stay where what is in front of the last end does
pub pieces_kept : (from : ℕ) (ends old new : List ℕ) → DoRise from ends → take (last_end from ends) old ≡ take (last_end from ends) new → pieces from ends old ≡ pieces from ends new
pieces_kept from [] old new rise same = refl
pieces_kept from (end ∷ ends) old new rise same =
    let n = last_end end ends in
    let low = (rise_last end ends rise.1).0 in
    let front : take end old ≡ take end new = sym (take-take end n old low) ∙ ap (take end) same ∙ take-take end n new low in
    ap₂ ◌∷◌ (piece_is old from end rise.0 ∙ ap (drop from) front ∙ sym (piece_is new from end rise.0)) (pieces_kept end ends old new rise.1 same)

-- what is put behind a front is the piece behind it
pub piece_put : (old new name : List ℕ) (at end : ℕ) → at ≤ length old → end ≡ at + length name → take end new ≡ take at old ++ name → slice_range new at end ≡ name
piece_put old new name at end low is put =
    piece_is new at end (omega (arith, is)) ∙ ap (drop at) put ∙ ap (λ n. drop n (take at old ++ name)) (sym (length-take-le at old low)) ∙ drop-append_seam (take at old) name

-- where the piece of a number begins, behind a place
abbrev start_from : ℕ → List ℕ → ℕ → ℕ
start_from from ends zero = from
start_from from ends (suc n) = get_or ends n 0

piece_from : (from : ℕ) (ends bytes : List ℕ) (n : ℕ) → n < length ends → get_or (pieces from ends bytes) n [] ≡ slice_range bytes (start_from from ends n) (get_or ends n 0)
piece_from from [] bytes n low = absurd (omega (arith, low))
piece_from from (end ∷ ends) bytes zero low = refl
piece_from from (end ∷ ends) bytes (suc zero) low = piece_from end ends bytes zero (omega (arith, low))
piece_from from (end ∷ ends) bytes (suc (suc n)) low = piece_from end ends bytes (suc n) (omega (arith, low))

-- it begins in front of its end, which is not past what there is room for
rise_from : (from : ℕ) (ends : List ℕ) (n : ℕ) → DoRise from ends → n < length ends → (start_from from ends n ≤ get_or ends n 0) × (get_or ends n 0 ≤ 32)
rise_from from [] n rise low = absurd (omega (arith, low))
rise_from from (end ∷ ends) zero rise low = let (front, fits) = rise_last end ends rise.1 in (rise.0, omega (arith, front, fits))
rise_from from (end ∷ ends) (suc zero) rise low = rise_from end ends zero rise.1 (omega (arith, low))
rise_from from (end ∷ ends) (suc (suc n)) rise low = rise_from end ends (suc n) rise.1 (omega (arith, low))

start_same : (count n : ℕ) (ends : List ℕ) → n < count → start_from 0 (take count ends) n ≡ start_at ends n
start_same count zero ends low = refl
start_same count (suc n) ends low = get_or-take count ends n 0 (omega (arith, low))

-- the piece of a number below a count, of the first so many ends
module _ (count n : ℕ) (ends : List ℕ) (low : n < count) (many : count ≤ length ends) where
  within : n < length (take count ends)
  within = omega (arith, length-take-le count ends many, low)

  end_same : get_or (take count ends) n 0 ≡ get_or ends n 0
  end_same = get_or-take count ends n 0 low

  pub piece_at : (bytes : List ℕ) → get_or (pieces 0 (take count ends) bytes) n [] ≡ slice_range bytes (start_at ends n) (get_or ends n 0)
  piece_at bytes = piece_from 0 (take count ends) bytes n within ∙ ap₂ (slice_range bytes) (start_same count n ends low) end_same

  pub rise_at : DoRise 0 (take count ends) → (start_at ends n ≤ get_or ends n 0) × (get_or ends n 0 ≤ 32)
  rise_at rise = rw (← start_same count n ends low, ← end_same) (rise_from 0 (take count ends) n rise within)

-- as many pieces as ends
pub pieces_many : (from : ℕ) (ends bytes : List ℕ) → length (pieces from ends bytes) ≡ length ends
pieces_many from [] bytes = refl
pieces_many from (end ∷ ends) bytes = omega (arith, pieces_many end ends bytes)

-- ---- names in the value itself

first : (b c : Bool) → (b && c) ≡ true → b ≡ true
first true c h = refl
first false c h = h

rest : (b c : Bool) → (b && c) ≡ true → c ≡ true
rest true c h = h
rest false c h = cc

module _ {A : Type 0} (held : Held A) (names : List (List ℕ)) (count : ℕ) (ends bytes : List ℕ) (is : held ≡ Few count ends bytes) (are : AreHeld held) (named : names_in held ≡ names)
    (n : ℕ) (within_names : n < length names) where
  few : AreHeld {A = A} (Few count ends bytes)
  few = subst AreHeld is are

  pieces_are : pieces 0 (take count ends) bytes ≡ names
  pieces_are = ap names_in (sym is) ∙ named

  count_low : count ≤ length ends
  count_low = omega (arith, few.0, few.1)

  low_few : n < count
  low_few = omega (arith, within_names, ap length pieces_are, pieces_many 0 (take count ends) bytes, length-take-le count ends count_low)

  pub room_few : n < 6
  room_few = omega (arith, low_few, few.0)

  pub rise_few : (start_at ends n ≤ get_or ends n 0) × (get_or ends n 0 ≤ 32)
  rise_few = rise_at count n ends low_few count_low few.3

  pub piece_few : slice_range bytes (start_at ends n) (get_or ends n 0) ≡ get_or names n []
  piece_few = sym (piece_at count n ends low_few count_low bytes) ∙ ap (λ ns. get_or ns n []) pieces_are

  pub name_few : is_name (get_or names n []) ≡ true
  name_few = each names n (subst (λ ns. list_all is_name ns ≡ true) pieces_are few.4) within_names
    where
      each : (ns : List (List ℕ)) (i : ℕ) → list_all is_name ns ≡ true → i < length ns → is_name (get_or ns i []) ≡ true
      each [] i all low = absurd (omega (arith, low))
      each (m ∷ ns) zero all low = first (is_name m) (list_all is_name ns) all
      each (m ∷ ns) (suc i) all low = each ns i (rest (is_name m) (list_all is_name ns) all) (omega (arith, low))
