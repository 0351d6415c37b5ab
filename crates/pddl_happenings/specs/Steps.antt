-- What a step of a plan does, over any type A of ground atoms, and when two steps interfere.
-- A set of atoms is the test of which atoms are in it.
use Rattle.std.specs.Prelude.{◌≡◌, ℕ, Bool, true, ◌&&◌, ◌||◌}

-- A ground step: whether its precondition is true in a state, which atoms it reads, and what it adds, deletes and costs in a state.
pub record Step (A : Type 0) : Type 0 where
  pub ready : (A → Bool) → Bool
  pub reads : A → Bool
  pub adds : (A → Bool) → A → Bool
  pub dels : (A → Bool) → A → Bool
  pub cost : (A → Bool) → ℕ

-- The sets s and t have the same atoms among those of r.
abbrev pub Agree : {A : Type 0} → (A → Bool) → (A → Bool) → (A → Bool) → Type 0
Agree {A} r s t = (a : A) → r a ≡ true → s a ≡ t a

-- What a step does depends only on what it reads. Own.
pub record IsFramed {A : Type 0} (h : Step A) : Type 0 where
  pub ready : (s t : A → Bool) → Agree h.reads s t → h.ready s ≡ h.ready t
  pub adds : (s t : A → Bool) → Agree h.reads s t → (a : A) → h.adds s a ≡ h.adds t a
  pub dels : (s t : A → Bool) → Agree h.reads s t → (a : A) → h.dels s a ≡ h.dels t a
  pub cost : (s t : A → Bool) → Agree h.reads s t → h.cost s ≡ h.cost t

-- The atoms that a step adds or deletes in a state.
abbrev pub changes : {A : Type 0} → Step A → (A → Bool) → A → Bool
changes h s a = h.adds s a || h.dels s a

-- The clash of two steps in a state: the atoms that one of them adds or deletes and the other reads, and those that one adds
-- and the other deletes. Fox and Long, PDDL2.1, JAIR 20, 2003, non-interfering actions; that of effects under `when` those alone
-- count that take place in the state is own.
abbrev pub clash : {A : Type 0} → Step A → Step A → (A → Bool) → A → Bool
clash h k s a = (changes h s a && k.reads a) || ((changes k s a && h.reads a) || ((h.adds s a && k.dels s a) || (k.adds s a && h.dels s a)))
