-- The readers of terms, predicates and atoms read what is spelled, and nothing else.
use Rattle.std.proofs.Common.{◌≡◌, ℕ, Bool, true, false, List, [], ◌∷◌, map, refl, sym, ap, ◌∙◌, subst}
use Rattle.std.specs.Prelude.{Some, option_map, ◌&&◌, not}
use Rattle.std.specs.Str.{bytes_eq}
use Rattle.pddl_token.specs.declared.token.TokenKind.{TokenKind}
use Rattle.pddl_token.specs.declared.token.TokenKind.TheVariants.{Open, Close, Name, Variable, Keyword, Number, Dash, Equal, Colon, Bracket, Compare, Arithmetic}
use Rattle.pddl_token.specs.Spelling.{Word}
use Rattle.pddl_token.specs.Trees.{Tree, leaf, node, list_of}
use Rattle.pddl_token.specs.Names.{name_of}
use Rattle.pddl_items.specs.Inner.TreeReading.{name_by, name_at, variable_name, variable_by, all_of}
use Rattle.pddl_token.specs.TreeWords.{list, SpellsName, Each, IsNoneOf}
use Rattle.pddl_token.proofs.Options.{map_some, bind_some, if_some}
use Rattle.pddl_items.proofs.TreeLists.{list_of_trees_of, trees_of_list_of}
use Rattle.pddl_items.proofs.Readers.{Reads, name_reads, variable_reads, equal_bytes, other_bytes, each_sound, each_complete}
use Rattle.pddl_formula.specs.Reserved.{reserved, is_none_of, predicate_of}
use Rattle.pddl_formula.specs.Terms.{TermValue, name, variable, AtomValue, IsTerm, IsPredicate, IsAtom}
use Rattle.pddl_formula_reader.specs.Inner.Reading.{term_by, term_at, predicate_at, atom_of, atom_of_list, atom_at}

-- ---- terms

term_sound_by : (w : Word) (kind : TokenKind) (x : TermValue) → w.kind ≡ kind → term_by kind w.text ≡ Some x → IsTerm x (leaf w)
term_sound_by w Name x is e =
    let h = map_some name (name_of w.text) x e in
    subst (λ y. IsTerm y (leaf w)) h.2 (name_reads.sound (leaf w) h.0 (ap (λ k. name_by k w.text) is ∙ h.1))
term_sound_by w Variable x is e =
    let h = map_some variable (variable_name w.text) x e in
    subst (λ y. IsTerm y (leaf w)) h.2 (variable_reads.sound (leaf w) h.0 (ap (λ k. variable_by k w.text) is ∙ h.1))
term_sound_by w Open x is e = absurd (cc)
term_sound_by w Close x is e = absurd (cc)
term_sound_by w Keyword x is e = absurd (cc)
term_sound_by w Number x is e = absurd (cc)
term_sound_by w Dash x is e = absurd (cc)
term_sound_by w Equal x is e = absurd (cc)
term_sound_by w Colon x is e = absurd (cc)
term_sound_by w Bracket x is e = absurd (cc)
term_sound_by w Compare x is e = absurd (cc)
term_sound_by w Arithmetic x is e = absurd (cc)

term_sound : (t : Tree) (x : TermValue) → term_at t ≡ Some x → IsTerm x t
term_sound (leaf w) x e = term_sound_by w w.kind x refl e
term_sound (node ts) x e = absurd (cc)

term_complete : (t : Tree) (x : TermValue) → IsTerm x t → term_at t ≡ Some x
term_complete (leaf w) (name n) (good, (kind, is)) =
    ap (λ k. term_by k w.text) kind ∙ ap (option_map name) (sym (ap (λ k. name_by k w.text) kind) ∙ name_reads.complete (leaf w) n (good, (kind, is)))
term_complete (leaf w) (variable n) (good, kind, spelled) =
    ap (λ k. term_by k w.text) kind ∙ ap (option_map variable) (sym (ap (λ k. variable_by k w.text) kind) ∙ variable_reads.complete (leaf w) n (good, kind, spelled))
term_complete (node ts) (name n) (good, none) = absurd none
term_complete (node ts) (variable n) none = absurd none

pub term_reads : Reads IsTerm term_at
term_reads = record { sound = term_sound; complete = term_complete }

-- ---- names of predicates

-- the test of words says which they are
pub none_of_sound : (words : List (List ℕ)) (n : List ℕ) → is_none_of words n ≡ true → IsNoneOf words n
none_of_sound [] n e = tt
none_of_sound (word ∷ words) n e =
    let go : (b : Bool) → bytes_eq n word ≡ b → (not b && is_none_of words n) ≡ true → IsNoneOf (word ∷ words) n =
    λ b. elim b as (λ v. bytes_eq n word ≡ v → (not v && is_none_of words n) ≡ true → IsNoneOf (word ∷ words) n)
    [ true ↦ λ h f. absurd (cc) | false ↦ λ h f. ((λ is. let yes = equal_bytes n word is in cc), none_of_sound words n f) ] in
    go (bytes_eq n word) refl e

pub none_of_complete : (words : List (List ℕ)) (n : List ℕ) → IsNoneOf words n → is_none_of words n ≡ true
none_of_complete [] n none = refl
none_of_complete (word ∷ words) n (other, others) = rw (other_bytes n word other) (none_of_complete words n others)

predicate_sound : (t : Tree) (n : List ℕ) → predicate_at t ≡ Some n → IsPredicate n t
predicate_sound t n e =
    let h = bind_some predicate_of (name_at t) n e in
    let g = if_some (is_none_of reserved h.0) (Some h.0) n h.2 in
    let same : h.0 ≡ n = cc (g.1) in
    (subst (λ m. SpellsName m t) same (name_reads.sound t h.0 h.1), subst (IsNoneOf reserved) same (none_of_sound reserved h.0 g.0))

predicate_complete : (t : Tree) (n : List ℕ) → IsPredicate n t → predicate_at t ≡ Some n
predicate_complete t n (spelled, free) = rw (name_reads.complete t n spelled, none_of_complete reserved n free) refl

pub predicate_reads : Reads IsPredicate predicate_at
predicate_reads = record { sound = predicate_sound; complete = predicate_complete }

-- ---- atoms

atom_of_sound : (head : Tree) (ts : List Tree) (a : AtomValue) → atom_of head ts ≡ Some a → IsPredicate a.predicate head × Each IsTerm a.terms ts
atom_of_sound head ts a e =
    let make : List ℕ → List TermValue → AtomValue = λ p xs. record { predicate = p; terms = xs } in
    let b = bind_some (λ p. option_map (make p) (all_of (map term_at ts))) (predicate_at head) a e in
    let m = map_some (make b.0) (all_of (map term_at ts)) a b.2 in
    subst (λ (v : AtomValue). IsPredicate v.predicate head × Each IsTerm v.terms ts) m.2
    (predicate_reads.sound head b.0 b.1, each_sound IsTerm term_at term_reads ts m.0 m.1)

pub atom_of_complete : (head : Tree) (ts : List Tree) (a : AtomValue) → IsPredicate a.predicate head → Each IsTerm a.terms ts → atom_of head ts ≡ Some a
atom_of_complete head ts a spelled each = rw (predicate_reads.complete head a.predicate spelled, each_complete IsTerm term_at term_reads ts a.terms each) refl

pub atom_of_list_sound : (ts : List Tree) (a : AtomValue) → atom_of_list ts ≡ Some a → IsAtom a (list ts)
atom_of_list_sound [] a e = absurd (cc)
atom_of_list_sound (head ∷ ts) a e = let h = atom_of_sound head ts a e in (head, ts, refl, h.0, h.1)

atom_sound : (t : Tree) (a : AtomValue) → atom_at t ≡ Some a → IsAtom a t
atom_sound (leaf w) a e = absurd (cc)
atom_sound (node ts) a e = subst (λ us. IsAtom a (node us)) (trees_of_list_of ts) (atom_of_list_sound (list_of ts) a e)

atom_complete : (t : Tree) (a : AtomValue) → IsAtom a t → atom_at t ≡ Some a
atom_complete t a (head, ts, is, spelled, each) =
    ap atom_at is ∙ (ap atom_of_list (list_of_trees_of (head ∷ ts)) ∙ atom_of_complete head ts a spelled each)

pub atom_reads : Reads IsAtom atom_at
atom_reads = record { sound = atom_sound; complete = atom_complete }
