-- Values read one after the other.
use Rattle.std.proofs.Common.{◌≡◌, List, [], ◌∷◌, ◌++◌, ap, refl, append_assoc}
use Rattle.std.specs.Prelude.{Option, Some, None, option_map}
use Rattle.pddl_items.specs.Inner.TreeReading.{both}

-- the values so far, and those that are still to come
abbrev pub with_front : {A : Type 0} → List A → Option (List A) → Option (List A)
with_front front rest = option_map (λ xs. front ++ xs) rest

pub front_more : {A : Type 0} (front : List A) (x : A) (rest : Option (List A)) → with_front (front ++ x ∷ []) rest ≡ with_front front (both (Some x) rest)
front_more front x None = refl
front_more front x (Some xs) = ap Some (append_assoc front (x ∷ []) xs)

pub front_none : {A : Type 0} (rest : Option (List A)) → with_front [] rest ≡ rest
front_none None = refl
front_none (Some xs) = refl

pub both_some : {A : Type 0} (o : Option A) (os : Option (List A)) (zs : List A) → both o os ≡ Some zs
    → (x : A) × (xs : List A) × (o ≡ Some x) × (os ≡ Some xs) × (x ∷ xs ≡ zs)
both_some None os zs e = absurd (cc)
both_some (Some x) None zs e = absurd (cc)
both_some (Some x) (Some xs) zs e = (x, xs, refl, refl, cc)
