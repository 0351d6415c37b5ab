-- Texts written piece by piece.
use Rattle.std.proofs.Common.{◌≡◌, ℕ, ◌+◌, ◌<◌, List, [], ◌∷◌, ◌++◌, length, get_or, take, drop, refl, sym, ap, subst, ◌∙◌, add-one, drop-cons}
use Rattle.std.specs.Prelude.{Option, Some, None, Result, Ok, Err}
use Rattle.std.specs.List.{flat_map}
use Rattle.std.specs.Io.KnownBytes.{Appends}
use Rattle.std.proofs.lemmas.List.{append-nil, take_more, take-append-drop}
use Rattle.std.proofs.lemmas.Grind.{flat_map-append}
use Rattle.pddl_device.specs.Device.{HasFailed}
use Rattle.pddl_device.proofs.Known.{appends_more, beginning_of_more, beginning_after}
use Rattle.pddl_layout.specs.Printing.{Prints, Stops}

-- nothing written is the empty text
pub nothing : (a : Option (List ℕ)) → Appends a a []
nothing None = tt
nothing (Some xs) = sym (append-nil xs)

-- a piece that was written whole, and then what a call printed
pub prints_on : {T E : Type 0} (a b c : Option (List ℕ)) (before middle after : ℕ) (xs ys : List ℕ) (r : Result T E) → Appends a b xs × (middle ≡ before) → Prints b c middle after ys r → Prints a c before after (xs ++ ys) r
prints_on a b c before middle after xs ys (Ok x) first second = (appends_more a b c xs ys first.0 second.0, second.1 ∙ first.1)
prints_on a b c before middle after xs ys (Err e) first second = (beginning_after a b c xs ys first.0 second.0, subst (λ n. HasFailed n after) first.1 second.1)

-- the same, where the call stopped
pub stops_on : (a b c : Option (List ℕ)) (before middle after : ℕ) (xs ys : List ℕ) → Appends a b xs × (middle ≡ before) → Stops b c middle after ys → Stops a c before after (xs ++ ys)
stops_on a b c before middle after xs ys first second = (beginning_after a b c xs ys first.0 second.0, subst (λ n. HasFailed n after) first.1 second.1)

-- a piece that was not written whole, whatever was to follow
pub stops_more : (a b : Option (List ℕ)) (before after : ℕ) (xs ys : List ℕ) → Stops a b before after xs → Stops a b before after (xs ++ ys)
stops_more a b before after xs ys stopped = (beginning_of_more a b xs ys stopped.0, stopped.1)

-- one text under two names
pub stops_as : (a b : Option (List ℕ)) (before after : ℕ) (xs ys : List ℕ) → xs ≡ ys → Stops a b before after xs → Stops a b before after ys
stops_as a b before after xs ys e stopped = subst (Stops a b before after) e stopped

pub wrote_as : (a b : Option (List ℕ)) (before after : ℕ) (xs ys : List ℕ) → xs ≡ ys → Appends a b xs × (after ≡ before) → Appends a b ys × (after ≡ before)
wrote_as a b before after xs ys e wrote = (subst (Appends a b) e wrote.0, wrote.1)

pub prints_as : {T E : Type 0} (a b : Option (List ℕ)) (before after : ℕ) (xs ys : List ℕ) (r : Result T E) → xs ≡ ys → Prints a b before after xs r → Prints a b before after ys r
prints_as a b before after xs ys r e printed = subst (λ t. Prints a b before after t r) e printed

-- ---- one text for each element of a list

behind : {A : Type 0} (xs : List A) (i : ℕ) (d : A) → i < length xs → drop i xs ≡ get_or xs i d ∷ drop (i + 1) xs
behind xs i d lt = rw (add-one, drop-cons xs i d) refl

module _ {A : Type 0} (f : A → List ℕ) where
  -- the texts up to an element, that of the element, and those behind it
  texts_at : (xs : List A) (i : ℕ) (d : A) → i < length xs → flat_map f xs ≡ flat_map f (take i xs) ++ (f (get_or xs i d) ++ flat_map f (drop (i + 1) xs))
  texts_at xs i d lt =
      ap (flat_map f) (sym (take-append-drop i xs)) ∙ flat_map-append f (take i xs) (drop i xs)
      ∙ ap (λ (t : List A). flat_map f (take i xs) ++ flat_map f t) (behind xs i d lt)

  -- the texts up to the next element
  texts_more : (xs : List A) (i : ℕ) (d : A) → i < length xs → flat_map f (take (i + 1) xs) ≡ flat_map f (take i xs) ++ f (get_or xs i d)
  texts_more xs i d lt = ap (flat_map f) (take_more xs i d lt) ∙ flat_map-append f (take i xs) (get_or xs i d ∷ []) ∙ ap (λ (t : List ℕ). flat_map f (take i xs) ++ t) (append-nil (f (get_or xs i d)))

  pub element_on : (a b c : Option (List ℕ)) (before middle after : ℕ) (xs : List A) (i : ℕ) (d : A) → i < length xs → Appends a b (flat_map f (take i xs)) × (middle ≡ before)
      → Appends b c (f (get_or xs i d)) × (after ≡ middle) → Appends a c (flat_map f (take (i + 1) xs)) × (after ≡ before)
  element_on a b c before middle after xs i d lt first second =
      (subst (Appends a c) (sym (texts_more xs i d lt)) (appends_more a b c (flat_map f (take i xs)) (f (get_or xs i d)) first.0 second.0), second.1 ∙ first.1)

  pub element_stops : (a b c : Option (List ℕ)) (before middle after : ℕ) (xs : List A) (i : ℕ) (d : A) → i < length xs → Appends a b (flat_map f (take i xs)) × (middle ≡ before)
      → Stops b c middle after (f (get_or xs i d)) → Stops a c before after (flat_map f xs)
  element_stops a b c before middle after xs i d lt first stopped =
      subst (Stops a c before after) (sym (texts_at xs i d lt))
      (stops_on a b c before middle after (flat_map f (take i xs)) (f (get_or xs i d) ++ flat_map f (drop (i + 1) xs)) first (stops_more b c middle after (f (get_or xs i d)) (flat_map f (drop (i + 1) xs)) stopped))
