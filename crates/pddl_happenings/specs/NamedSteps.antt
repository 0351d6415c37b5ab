-- Steps over numbered atoms and steps over named atoms. Own.
use Rattle.std.specs.Prelude.{◌≡◌, ℕ, Bool, true}
use Rattle.pddl_happenings.specs.Steps.{Step, changes}

-- A set of numbered atoms, by names, where each named atom has a number.
abbrev pub by_name : {A B : Type 0} → (B → A) → (A → Bool) → B → Bool
by_name number s b = s (number b)

-- A step over numbered atoms does, in every state, what a step over named ones does there by names; and each atom that it
-- adds or deletes is the number of a named one.
pub record DoesAsNamed {A B : Type 0} (number : B → A) (h : Step A) (k : Step B) : Type 0 where
  pub ready : (s : A → Bool) → h.ready s ≡ k.ready (by_name number s)
  pub reads : (b : B) → h.reads (number b) ≡ k.reads b
  pub adds : (s : A → Bool) (b : B) → h.adds s (number b) ≡ k.adds (by_name number s) b
  pub dels : (s : A → Bool) (b : B) → h.dels s (number b) ≡ k.dels (by_name number s) b
  pub cost : (s : A → Bool) → h.cost s ≡ k.cost (by_name number s)
  pub named : (s : A → Bool) (a : A) → changes h s a ≡ true → (b : B) × (a ≡ number b)

-- Each step of a plan over numbered atoms does what the step of the same number does over named ones.
abbrev pub DoAsNamed : {A B : Type 0} → (B → A) → (ℕ → Step A) → (ℕ → Step B) → Type 0
DoAsNamed number p q = (k : ℕ) → DoesAsNamed number (p k) (q k)
