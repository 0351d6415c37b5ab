-- Names by their numbers (own).
use Rattle.std.specs.Prelude.{◌≡◌, ℕ, Bool, true, List, map, Contains}
use Rattle.pddl_problem.specs.Inits.{GroundValue}
use Rattle.pddl_task.specs.Names.{Name, is_in, number_in}
use Rattle.pddl_state.specs.Atoms.{AtomValue}
use Rattle.pddl_meaning.specs.Worlds.{Atoms, World}

-- The names of predicates, functions and objects in the order of their numbers, and the numbers of the objects that fit a type.
pub record Tables : Type 0 where
  pub predicates : List Name
  pub functions : List Name
  pub objects : List Name
  pub range : List Name → List ℕ

-- A predicate, or a function, of objects by its numbers.
abbrev pub number_atom : List Name → List Name → GroundValue → AtomValue
number_atom heads objects g = record { predicate = number_in heads g.name; args = map (number_in objects) g.objects }

-- The set of ground atoms that a set of atoms by numbers is.
abbrev pub named : Tables → (AtomValue → Bool) → Atoms
named t s g = s (number_atom t.predicates t.objects g)

-- The tables speak of a world: fitting objects are objects of the tables, ranges are their numbers, and prices go by numbers.
pub record IsOver (t : Tables) (w : World) (price : AtomValue → ℕ) : Type 0 where
  pub fit : (types : List Name) (o : Name) → Contains (w.fit types) o → is_in t.objects o ≡ true
  pub ranges : (types : List Name) → t.range types ≡ map (number_in t.objects) (w.fit types)
  pub prices : (g : GroundValue) → w.price g ≡ price (number_atom t.functions t.objects g)
