-- Lists that are gone through, element by element: what is left, and what was seen.
use Rattle.std.proofs.Common.{◌≡◌, ℕ, ◌+◌, ◌<◌, List, [], ◌∷◌, ◌++◌, map, length, get_or, take, drop, refl, ap, add-one, drop-cons, append_assoc, Some, slice_get}
use Rattle.std.proofs.lemmas.List.{map_more}
use Rattle.std.proofs.lemmas.Option.{slice_get-map, slice_get_read}

pub rest_is : {X : Type 0} (xs : List X) (i : ℕ) (x : X) → i < length xs → x ≡ get_or xs i x → drop i xs ≡ x ∷ drop (i + 1) xs
rest_is xs i x h at = rw (add-one, drop-cons xs i x, ← at) refl

-- what is seen of what is left
pub views_drop : {X Y : Type 0} (view : X → Y) (xs : List X) (i : ℕ) (x : X) → i < length xs → x ≡ get_or xs i x → map view (drop i xs) ≡ view x ∷ map view (drop (i + 1) xs)
views_drop view xs i x h at = ap (map view) (rest_is xs i x h at)

-- what was seen before, and of so many and one more
pub seen_more : {X Y : Type 0} (view : X → Y) (before : List Y) (xs : List X) (i : ℕ) (x : X) → i < length xs → x ≡ get_or xs i x
    → before ++ map view (take (i + 1) xs) ≡ (before ++ map view (take i xs)) ++ view x ∷ []
seen_more view before xs i x h at = rw (map_more view xs i x h, ← at, append_assoc) refl

-- what is seen of an item that is read
pub viewed_at : {X Y : Type 0} (view : X → Y) (xs : List X) (i : ℕ) (x : X) → i < length xs → x ≡ get_or xs i x → slice_get (map view xs) i ≡ Some (view x)
viewed_at view xs i x low is = rw (slice_get-map view xs i, slice_get_read xs (length xs) i x refl low is) refl
