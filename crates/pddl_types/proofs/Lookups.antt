-- What is read of lists and tables, by place and by name.
use Rattle.std.proofs.Common.{◌≡◌, ℕ, zero, suc, ◌+◌, ◌<◌, Bool, true, false, ◌||◌, not, cond, List, [], ◌∷◌, ◌++◌, map, length, Some, refl, sym, ap, ◌∙◌, arith, bytes_eq, is_some, option_map, slice_get, Bor}
use Rattle.std.specs.List.{position, position_or_len}
use Rattle.std.specs.Map.{keys_of, lookup}
use Rattle.std.proofs.lemmas.Map.Made.{lookup_key_passes}
use Rattle.std.proofs.lemmas.Option.{slice_get-map}
use Rattle.std.proofs.lemmas.Simd.{map-map}
use Rattle.indexmap.proofs.MapLemmas.{Found-position}
use Rattle.pddl_task.specs.Names.{Name, is_in}
use Rattle.pddl_task.specs.Settings.{symbol_of}
use Rattle.pddl_types.specs.KnownNames.{signature_in}
use Rattle.pddl_types.specs.declared.signatures.Slots.{Slots}
use Rattle.pddl_faults.proofs.PutValues.{found_or}
use Rattle.pddl_task.proofs.Lists.{bytes_same, some_at}

-- ---- by place

-- what is seen in each is seen in the views
pub seen_of : {X Y Z : Type 0} (see : Y → Z) (view : X → Y) (xs : List X) → map (λ x. see (view x)) xs ≡ map see (map view xs)
seen_of see view xs = sym (map-map see view xs)

-- what is seen of an entry
pub seen_entry : {E Y : Type 0} (view : E → Y) (es : List E) (k : ℕ) (e : E) → slice_get es k ≡ Some e → slice_get (map view es) k ≡ Some (view e)
seen_entry view es k e at = slice_get-map view es k ∙ ap (option_map view) at

-- and the entry of what is seen
pub entry_seen : {E Y : Type 0} (view : E → Y) (es : List E) (k : ℕ) (y : Y) → slice_get (map view es) k ≡ Some y → (e : E) × (slice_get es k ≡ Some e) × (view e ≡ y)
entry_seen view [] k y at = cc
entry_seen view (e ∷ es) zero y at = (e, refl, cc)
entry_seen view (e ∷ es) (suc k) y at = entry_seen view es k y at

-- what stands in front
pub in_front : {X : Type 0} (xs more : List X) (i : ℕ) → i < length xs → slice_get (xs ++ more) i ≡ slice_get xs i
in_front [] more i low = absurd (omega (arith, low))
in_front (x ∷ xs) more zero low = refl
in_front (x ∷ xs) more (suc i) low = in_front xs more i (omega (arith, low))

-- what stands at the end
pub at_end : {X : Type 0} (xs : List X) (x : X) → slice_get (xs ++ x ∷ []) (length xs) ≡ Some x
at_end [] x = refl
at_end (y ∷ xs) x = at_end xs x

-- the entry of a key that is found
pub entry_found : {K X : Type 0} (test : K → Bool) (es : List (K × X)) (i : ℕ) → position test (keys_of es) ≡ Some i → (e : K × X) × (slice_get es i ≡ Some e) × (test e.0 ≡ true)
entry_found {K} {X} test es i is =
    let found = Found-position test es i is in
    let (e, at) = some_at es i found.within in
    (e, at, lookup_key_passes test es e.0 (found.key ∙ seen_entry (λ (d : K × X). d.0) es i e at))

-- ---- by name

pub is_symbol : {A B : Type 0} (es : List (Bor (List ℕ) × Slots A B)) (n : Name) → is_some (lookup (λ k. bytes_eq n k.now) es) ≡ is_in (map symbol_of (map signature_in es)) n
is_symbol [] n = refl
is_symbol (e ∷ es) n = found_or (bytes_eq n e.0.now) e.1 (lookup (λ k. bytes_eq n k.now) es) ∙ ap (λ b. bytes_eq n e.0.now || b) (is_symbol es n)

-- ---- numbers of names

-- a name that is lent has its number among the names
pub number_lent : {V : Type 0} (es : List (Bor (List ℕ) × V)) (n : Name) → position_or_len (λ k. bytes_eq n k.now) (keys_of es) ≡ position_or_len (bytes_eq n) (map (λ e. e.0.now) es)
number_lent [] n = refl
number_lent (e ∷ es) n = ap (λ i. cond (not (bytes_eq n e.0.now)) (1 + i) 0) (number_lent es n)

-- and what is found for it stands there
pub entry_at : {V : Type 0} (es : List (Bor (List ℕ) × V)) (n : Name) (v : V) → lookup (λ k. bytes_eq n k.now) es ≡ Some v
    → (k : Bor (List ℕ)) × (slice_get es (position_or_len (λ k. bytes_eq n k.now) (keys_of es)) ≡ Some (k, v)) × (k.now ≡ n)
entry_at [] n v h = absurd (cc (h))
entry_at {V} (e ∷ es) n v h =
    let later = position_or_len (λ k. bytes_eq n k.now) (keys_of es) in
    elim (bytes_eq n e.0.now) as (λ b. bytes_eq n e.0.now ≡ b → cond b (Some e.1) (lookup (λ k. bytes_eq n k.now) es) ≡ Some v → (k : Bor (List ℕ)) × (slice_get (e ∷ es) (cond (not b) (1 + later) 0) ≡ Some (k, v)) × (k.now ≡ n)) [
      | true ↦ λ same is. let value : e.1 ≡ v = cc in (e.0, ap (λ w. Some (e.0, w)) value, sym (bytes_same n e.0.now same))
      | false ↦ λ _ is.
          let (k, at, named) = entry_at es n v is in
          let next : 1 + later ≡ suc later = omega arith in
          (k, ap (slice_get (e ∷ es)) next ∙ at, named)
    ] refl h
