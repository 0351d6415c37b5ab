-- What steps touch in a state.
use Rattle.std.specs.Prelude.{◌≡◌, ℕ, suc, zero, Bool, false, ◌&&◌, ◌||◌, List, [], ◌∷◌}
use Rattle.std.specs.List.{list_any, AllByRecursion}
use Rattle.pddl_happenings.specs.Steps.{Step}
use Rattle.pddl_judge.specs.declared.touch.Touched.{Touched}

-- The sets of atoms that are read, added and deleted.
pub record Touch (A : Type 0) : Type 0 where
  pub reads : A → Bool
  pub adds : A → Bool
  pub dels : A → Bool

-- What one step touches in a state.
abbrev pub touch_of : {A : Type 0} → Step A → (A → Bool) → Touch A
touch_of h s = record { reads = h.reads; adds = h.adds s; dels = h.dels s }

-- What the steps of some numbers touch in a state.
abbrev pub touches_of : {A : Type 0} → (ℕ → Step A) → (A → Bool) → List ℕ → Touch A
touches_of p s g = record {
  reads = λ a. list_any (λ k. (p k).reads a) g;
  adds = λ a. list_any (λ k. (p k).adds s a) g;
  dels = λ a. list_any (λ k. (p k).dels s a) g;
}

-- What is touched by either.
abbrev pub join_of : {A : Type 0} → Touch A → Touch A → Touch A
join_of x y = record { reads = λ a. x.reads a || y.reads a; adds = λ a. x.adds a || y.adds a; dels = λ a. x.dels a || y.dels a }

-- What three sets of a store stand for.
abbrev pub touch_in : {T A : Type 0} → (T → A → Bool) → Touched T → Touch A
touch_in content t = record { reads = content t.reads; adds = content t.adds; dels = content t.dels }

-- Each of the three is a set of the store.
abbrev pub Owned : {T : Type 0} → (T → Type 0) → Touched T → Type 0
Owned owns t = owns t.reads × owns t.adds × owns t.dels

-- The atoms that the first adds or deletes and the second reads, and those that the first adds and the second deletes.
abbrev pub crossing : {A : Type 0} → Touch A → Touch A → A → Bool
crossing x y a = ((x.adds a && y.reads a) || (x.dels a && y.reads a)) || (x.adds a && y.dels a)

-- The atoms that one of two adds or deletes and the other reads, and those that one adds and the other deletes. Of what two
-- steps touch in a state, this is their clash.
abbrev pub overlap : {A : Type 0} → Touch A → Touch A → A → Bool
overlap x y a = ((x.adds a || x.dels a) && y.reads a) || (((y.adds a || y.dels a) && x.reads a) || ((x.adds a && y.dels a) || (y.adds a && x.dels a)))

-- There is no such atom.
abbrev pub Apart : {A : Type 0} → Touch A → Touch A → Type 0
Apart {A} x y = (a : A) → overlap x y a ≡ false

-- P holds of each two of a list, in its order.
abbrev pub AllPairwise : {X : Type 0} → (X → X → Type 0) → List X → Type 0
AllPairwise P [] = Unit {0}
AllPairwise P (x ∷ xs) = AllByRecursion (P x) xs × AllPairwise P xs

-- The place is the first of an element of which P does not hold with each that follows it.
abbrev pub FirstRowAt : {X : Type 0} → (X → X → Type 0) → List X → ℕ → Type 0
FirstRowAt P [] i = ⊥
FirstRowAt P (x ∷ xs) zero = AllByRecursion (P x) xs → ⊥
FirstRowAt P (x ∷ xs) (suc i) = AllByRecursion (P x) xs × FirstRowAt P xs i
