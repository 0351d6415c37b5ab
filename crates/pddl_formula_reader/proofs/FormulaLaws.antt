-- The readers of formulas read what is spelled, and nothing else.
use Rattle.std.proofs.Common.{◌≡◌, ℕ, List, [], ◌∷◌, map, refl, sym, ap, ap₂, ◌∙◌, subst, codes, inl, inr}
use Rattle.std.specs.Prelude.{Option, Some, None, option_map}
use Rattle.pddl_token.specs.Trees.{Tree, Trees, no_trees, tree, leaf, node, trees_of, list_of}
use Rattle.pddl_token.specs.TreeWords.{list, IsWord}
use Rattle.pddl_items.specs.Inner.TreeReading.{all_of}
use Rattle.pddl_token.proofs.Options.{map_some, bind_some}
use Rattle.pddl_items.proofs.Fronts.{both_some}
use Rattle.pddl_items.proofs.TreeLists.{list_of_trees_of, trees_of_list_of}
use Rattle.pddl_items.proofs.Readers.{Reads}
use Rattle.pddl_formula.specs.Terms.{IsTerm}
use Rattle.pddl_formula.specs.TypedLists.{TypedValue, IsVariableList}
use Rattle.pddl_formula.specs.Formulas.{FormulaValue, FormulaValues, atom, equal, negation, implication, conjunction, disjunction, existential, universal, no_formulas, formula, formulas_of, IsFormula, AreFormulas, IsCondition}
use Rattle.pddl_formula_reader.specs.Inner.Reading.{term_at, atom_of, variables_at, word_head, head_at, only, pair_of, two, quantified, formula_by, formula_of_list, formula_at, formulas_at, condition_of, condition_at}
use Rattle.pddl_formula_reader.specs.declared.head.Head.{Head}
use Rattle.pddl_formula_reader.specs.declared.head.Head.TheVariants as heads
use Rattle.pddl_formula_reader.proofs.TermLaws.{term_reads, atom_of_list_sound, atom_of_complete}
use Rattle.pddl_formula_reader.proofs.TypedListLaws.{variables_reads}
use Rattle.pddl_formula_reader.proofs.HeadLaws.{HeadIs, head_sound, head_of_word, head_of_equal, head_of_other}

-- ---- one, two and several values

pub pair_some : {A B : Type 0} (o : Option A) (p : Option B) (z : A × B) → pair_of o p ≡ Some z → (o ≡ Some z.0) × (p ≡ Some z.1)
pair_some None p z e = absurd (cc)
pair_some (Some x) None z e = absurd (cc)
pair_some {A} {B} (Some x) (Some y) z e = let same : ◌≡◌ {A = A × B} (x, y) z = cc in (ap (λ (q : A × B). Some q.0) same, ap (λ (q : A × B). Some q.1) same)

module _ {F : Type 0} (IsF : F → Tree → Type 0) (read : Tree → Option F) where
  -- what is read from each of these trees is spelled by it
  abbrev pub Sound : List Tree → Type 0
  Sound [] = Unit {0}
  Sound (t ∷ ts) = ((x : F) → read t ≡ Some x → IsF x t) × Sound ts

  pub only_sound : (ts : List Tree) (x : F) → Sound ts → only (map read ts) ≡ Some x → (t : Tree) × (ts ≡ t ∷ []) × IsF x t
  only_sound [] x s e = absurd (cc)
  only_sound (t ∷ []) x s e = (t, refl, s.0 x e)
  only_sound (t ∷ u ∷ ts) x s e = absurd (cc)

  pub two_sound : (ts : List Tree) (p : F × F) → Sound ts → two (map read ts) ≡ Some p → (x y : Tree) × (ts ≡ x ∷ y ∷ []) × IsF p.0 x × IsF p.1 y
  two_sound [] p s e = absurd (cc)
  two_sound (t ∷ []) p s e = absurd (cc)
  two_sound (t ∷ u ∷ []) p s e = let h = pair_some (read t) (read u) p e in (t, u, refl, s.0 p.0 h.0, s.1.0 p.1 h.1)
  two_sound (t ∷ u ∷ v ∷ ts) p s e = absurd (cc)

  -- typed variables, and a value
  pub quantified_sound : (make : List TypedValue → F → F) (ts : List Tree) (x : F) → Sound ts → quantified make ts (map read ts) ≡ Some x
      → (xs : List TypedValue) × (f : F) × (make xs f ≡ x) × ((vs y : Tree) × (ts ≡ vs ∷ y ∷ []) × IsVariableList xs vs × IsF f y)
  quantified_sound make [] x s e = absurd (cc)
  quantified_sound make (t ∷ ts) x s e =
      let b = bind_some (λ xs. option_map (make xs) (only (map read ts))) (variables_at t) x e in
      let m = map_some (make b.0) (only (map read ts)) x b.2 in
      let o = only_sound ts m.0 s.1 m.1 in
      (b.0, m.0, m.2, (t, o.0, ap (λ (us : List Tree). t ∷ us) o.1, variables_reads.sound t b.0 b.1, o.2))

  pub reads_each : ((t : Tree) (x : F) → read t ≡ Some x → IsF x t) → (ts : List Tree) → Sound ts
  reads_each sound [] = tt
  reads_each sound (t ∷ ts) = (sound t, reads_each sound ts)

-- ---- soundness

all_sound : (ts : List Tree) (fs : List FormulaValue) → Sound IsFormula formula_at ts → all_of (map formula_at ts) ≡ Some fs → AreFormulas (formulas_of fs) ts
all_sound [] [] s e = tt
all_sound [] (f ∷ fs) s e = absurd (cc)
all_sound (t ∷ ts) [] s e = let h = both_some (formula_at t) (all_of (map formula_at ts)) [] e in let bad = h.4 in absurd (cc)
all_sound (t ∷ ts) (f ∷ fs) s e =
    let h = both_some (formula_at t) (all_of (map formula_at ts)) (f ∷ fs) e in
    let same = h.4 in
    let first : h.0 ≡ f = cc in
    let rest : h.1 ≡ fs = cc in
    (s.0 f (h.2 ∙ ap Some first), all_sound ts fs s.1 (h.3 ∙ ap Some rest))

by_head_sound : (k : Head) (h : Tree) (ts : List Tree) (x : FormulaValue) → HeadIs k h → Sound IsFormula formula_at ts → formula_by k h ts (map formula_at ts) ≡ Some x → IsFormula x (list (h ∷ ts))
by_head_sound heads.And h ts x is s e =
    let m = map_some (λ fs. conjunction (formulas_of fs)) (all_of (map formula_at ts)) x e in
    subst (λ y. IsFormula y (list (h ∷ ts))) m.2 (h, ts, refl, is, all_sound ts m.0 s m.1)
by_head_sound heads.Or h ts x is s e =
    let m = map_some (λ fs. disjunction (formulas_of fs)) (all_of (map formula_at ts)) x e in
    subst (λ y. IsFormula y (list (h ∷ ts))) m.2 (h, ts, refl, is, all_sound ts m.0 s m.1)
by_head_sound heads.Not h ts x is s e =
    let m = map_some negation (only (map formula_at ts)) x e in
    let o = only_sound IsFormula formula_at ts m.0 s m.1 in
    subst (λ y. IsFormula y (list (h ∷ ts))) m.2 (h, o.0, ap (λ us. list (h ∷ us)) o.1, is, o.2)
by_head_sound heads.Imply h ts x is s e =
    let m = map_some (λ p. implication p.0 p.1) (two (map formula_at ts)) x e in
    let o = two_sound IsFormula formula_at ts m.0 s m.1 in
    subst (λ y. IsFormula y (list (h ∷ ts))) m.2 (h, o.0, o.1, ap (λ us. list (h ∷ us)) o.2, is, o.3, o.4)
by_head_sound heads.Exists h ts x is s e =
    let (xs, f, made, (vs, y, rest, listed, body)) = quantified_sound IsFormula formula_at existential ts x s e in
    subst (λ z. IsFormula z (list (h ∷ ts))) made (h, vs, y, ap (λ us. list (h ∷ us)) rest, is, listed, body)
by_head_sound heads.Forall h ts x is s e =
    let (xs, f, made, (vs, y, rest, listed, body)) = quantified_sound IsFormula formula_at universal ts x s e in
    subst (λ z. IsFormula z (list (h ∷ ts))) made (h, vs, y, ap (λ us. list (h ∷ us)) rest, is, listed, body)
by_head_sound heads.When h ts x is s e = absurd (cc)
by_head_sound heads.Increase h ts x is s e = absurd (cc)
by_head_sound heads.Name h ts x is s e =
    let m = map_some atom (atom_of h ts) x e in
    subst (λ y. IsFormula y (list (h ∷ ts))) m.2 (atom_of_list_sound (h ∷ ts) m.0 m.1)
by_head_sound heads.Equal h ts x is s e =
    let m = map_some (λ p. equal p.0 p.1) (two (map term_at ts)) x e in
    let o = two_sound IsTerm term_at ts m.0 (reads_each IsTerm term_at term_reads.sound ts) m.1 in
    subst (λ y. IsFormula y (list (h ∷ ts))) m.2 (h, o.0, o.1, ap (λ us. list (h ∷ us)) o.2, is, o.3, o.4)
by_head_sound heads.Nothing h ts x is s e = absurd (cc)

list_sound : (ts : List Tree) (x : FormulaValue) → Sound IsFormula formula_at ts → formula_of_list ts (map formula_at ts) ≡ Some x → IsFormula x (list ts)
list_sound [] x s e = absurd (cc)
list_sound (h ∷ ts) x s e = by_head_sound (head_at h) h ts x (head_sound h) s.1 e

formulas_at-trees_of : (ts : List Tree) → formulas_at (trees_of ts) ≡ map formula_at ts
unfolding formulas_at
formulas_at-trees_of [] = refl
formulas_at-trees_of (t ∷ ts) = ap (λ (os : List (Option FormulaValue)). formula_at t ∷ os) (formulas_at-trees_of ts)

-- the formula of a list
pub formula_at_list : (ts : List Tree) → formula_at (list ts) ≡ formula_of_list ts (map formula_at ts)
unfolding formula_at
formula_at_list ts = ap₂ formula_of_list (list_of_trees_of ts) (formulas_at-trees_of ts)

-- a word is no formula
pub formula_at_leaf : (w : _) → formula_at (leaf w) ≡ None
unfolding formula_at
formula_at_leaf w = refl

mutual
  formula_sound : (t : Tree) (x : FormulaValue) → formula_at t ≡ Some x → IsFormula x t
  formula_sound (leaf w) x e = let none = formula_at_leaf w in absurd (cc)
  formula_sound (node ts) x e =
      subst (λ us. IsFormula x (node us)) (trees_of_list_of ts)
      (list_sound (list_of ts) x (formulas_sound ts) (sym (formula_at_list (list_of ts)) ∙ (ap (λ us. formula_at (node us)) (trees_of_list_of ts) ∙ e)))

  formulas_sound : (ts : Trees) → Sound IsFormula formula_at (list_of ts)
  formulas_sound no_trees = tt
  formulas_sound (tree t ts) = (formula_sound t, formulas_sound ts)

-- ---- completeness

-- formulas as a list
abbrev pub formula_list : FormulaValues → List FormulaValue
formula_list no_formulas = []
formula_list (formula f fs) = f ∷ formula_list fs

pub formulas_of_list : (fs : FormulaValues) → formulas_of (formula_list fs) ≡ fs
formulas_of_list no_formulas = refl
formulas_of_list (formula f fs) = ap (formula f) (formulas_of_list fs)

-- a list that begins with this word
begins : (word : List ℕ) (h t : Tree) (ts : List Tree) → t ≡ list (h ∷ ts) → IsWord word h → formula_at t ≡ formula_by (word_head word) h ts (map formula_at ts)
begins word h t ts is head = ap formula_at is ∙ (formula_at_list (h ∷ ts) ∙ ap (λ k. formula_by k h ts (map formula_at ts)) (head_of_word word h head))

mutual
  formula_complete : (x : FormulaValue) (t : Tree) → IsFormula x t → formula_at t ≡ Some x
  formula_complete (atom a) t (h, ts, is, (name, free), each) =
      ap formula_at is ∙ (formula_at_list (h ∷ ts) ∙ (ap (λ k. formula_by k h ts (map formula_at ts)) (head_of_other a.predicate h name.1 free)
      ∙ ap (option_map atom) (atom_of_complete h ts a (name, free) each)))
  formula_complete (equal a b) t (h, x, y, is, head, left, right) =
      ap formula_at is ∙ (formula_at_list (h ∷ x ∷ y ∷ []) ∙ (ap (λ k. formula_by k h (x ∷ y ∷ []) (map formula_at (x ∷ y ∷ []))) (head_of_equal h head)
      ∙ rw (term_reads.complete x a left, term_reads.complete y b right) refl))
  formula_complete (negation f) t (h, x, is, head, inner) =
      begins (codes "not") h t (x ∷ []) is head ∙ ap (option_map negation) (formula_complete f x inner)
  formula_complete (implication f g) t (h, x, y, is, head, left, right) =
      begins (codes "imply") h t (x ∷ y ∷ []) is head ∙ rw (formula_complete f x left, formula_complete g y right) refl
  formula_complete (conjunction fs) t (h, ts, is, head, all) =
      begins (codes "and") h t ts is head ∙ (ap (option_map (λ gs. conjunction (formulas_of gs))) (formulas_complete fs ts all) ∙ ap (λ gs. Some (conjunction gs)) (formulas_of_list fs))
  formula_complete (disjunction fs) t (h, ts, is, head, all) =
      begins (codes "or") h t ts is head ∙ (ap (option_map (λ gs. disjunction (formulas_of gs))) (formulas_complete fs ts all) ∙ ap (λ gs. Some (disjunction gs)) (formulas_of_list fs))
  formula_complete (existential xs f) t (h, vs, x, is, head, listed, body) =
      begins (codes "exists") h t (vs ∷ x ∷ []) is head ∙ rw (variables_reads.complete vs xs listed, formula_complete f x body) refl
  formula_complete (universal xs f) t (h, vs, x, is, head, listed, body) =
      begins (codes "forall") h t (vs ∷ x ∷ []) is head ∙ rw (variables_reads.complete vs xs listed, formula_complete f x body) refl

  formulas_complete : (fs : FormulaValues) (ts : List Tree) → AreFormulas fs ts → all_of (map formula_at ts) ≡ Some (formula_list fs)
  formulas_complete no_formulas [] s = refl
  formulas_complete no_formulas (t ∷ ts) s = absurd s
  formulas_complete (formula f fs) [] s = absurd s
  formulas_complete (formula f fs) (t ∷ ts) (first, rest) = rw (formula_complete f t first, formulas_complete fs ts rest) refl

pub formula_reads : Reads IsFormula formula_at
formula_reads = record { sound = formula_sound; complete = λ t x is. formula_complete x t is }

-- a tree spells at most one formula
pub one_formula : (t : Tree) (f g : FormulaValue) → IsFormula f t → IsFormula g t → f ≡ g
one_formula t f g first second = let a = formula_complete f t first in let b = formula_complete g t second in cc

-- ---- conditions

condition_sound_at : (t : Tree) (x : FormulaValue) → condition_of t (formula_at t) ≡ Some x → IsCondition x t
condition_sound_at (leaf w) x e = inl (formula_sound (leaf w) x e)
condition_sound_at (node no_trees) x e = let same : conjunction no_formulas ≡ x = cc in inr (refl, sym same)
condition_sound_at (node (tree t ts)) x e = inl (formula_sound (node (tree t ts)) x e)

condition_complete_at : (t : Tree) (x : FormulaValue) → IsFormula x t → condition_of t (formula_at t) ≡ Some x
condition_complete_at (leaf w) x is = formula_complete x (leaf w) is
condition_complete_at (node no_trees) x is = let none = formula_complete x (node no_trees) is in let bad = formula_at_list [] in absurd (cc)
condition_complete_at (node (tree t ts)) x is = formula_complete x (node (tree t ts)) is

condition_complete : (t : Tree) (x : FormulaValue) → IsCondition x t → condition_at t ≡ Some x
condition_complete t x (inl is) = condition_complete_at t x is
condition_complete t x (inr (is, empty)) = ap condition_at is ∙ ap Some (sym empty)

pub condition_reads : Reads IsCondition condition_at
condition_reads = record { sound = λ t x e. condition_sound_at t x e; complete = condition_complete }
