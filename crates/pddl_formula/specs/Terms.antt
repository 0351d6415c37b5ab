-- Terms, predicates and atoms, and the trees that spell them.
use Rattle.std.specs.Prelude.{◌≡◌, ℕ, List, ◌∷◌, map}
use Rattle.pddl_token.specs.Trees.{Tree}
use Rattle.pddl_token.specs.TreeWords.{list, SpellsName, SpellsVariable, Each, IsNoneOf}
use Rattle.pddl_formula.specs.Reserved.{reserved}
use Rattle.pddl_formula.specs.declared.term.Term.{Term}
use Rattle.pddl_formula.specs.declared.term.Term.TheVariants as terms
use Rattle.pddl_formula.specs.declared.term.Atom.{Atom}

-- ---- values

-- a name, or a variable by its name (Kovacs, `<term>`)
pub data TermValue : Type 0 where
  name : List ℕ → TermValue
  variable : List ℕ → TermValue

-- a predicate and its arguments
pub record AtomValue : Type 0 where
  pub predicate : List ℕ
  pub terms : List TermValue

-- a term of the program without where it lies in memory
abbrev pub term_view : {A : _} → Term A → TermValue
term_view (terms.Name n) = name n
term_view (terms.Variable n) = variable n

-- an atom, likewise
abbrev pub atom_view : {A : _} → Atom A → AtomValue
atom_view a = record { predicate = a.predicate; terms = map term_view a.terms.items }

-- ---- which trees spell them

-- a name or a variable
abbrev pub IsTerm : TermValue → Tree → Type 0
IsTerm (name n) t = SpellsName n t
IsTerm (variable n) t = SpellsVariable n t

-- the name of a predicate
abbrev pub IsPredicate : List ℕ → Tree → Type 0
IsPredicate n t = SpellsName n t × IsNoneOf reserved n

-- `(p term*)`
abbrev pub IsAtom : AtomValue → Tree → Type 0
IsAtom a t = (head : Tree) × (ts : List Tree) × (t ≡ list (head ∷ ts)) × IsPredicate a.predicate head × Each IsTerm a.terms ts
