-- The readers of effects read what is spelled, and nothing else.
use Rattle.std.proofs.Common.{◌≡◌, inl, inr, ℕ, List, [], ◌∷◌, map, refl, sym, ap, ap₂, ◌∙◌, subst, codes}
use Rattle.std.specs.Prelude.{Option, Some, None, option_map}
use Rattle.pddl_token.specs.Spelling.{Word}
use Rattle.pddl_token.specs.Trees.{Tree, Trees, leaf, node, no_trees, tree, trees_of, list_of}
use Rattle.pddl_token.specs.TreeWords.{list, IsWord}
use Rattle.pddl_items.specs.Inner.TreeReading.{all_of}
use Rattle.pddl_token.proofs.Options.{map_some, bind_some}
use Rattle.pddl_items.proofs.Fronts.{both_some}
use Rattle.pddl_items.proofs.TreeLists.{list_of_trees_of, trees_of_list_of}
use Rattle.pddl_items.proofs.Readers.{Reads}
use Rattle.pddl_formula_reader.specs.declared.head.Head.{Head}
use Rattle.pddl_formula_reader.specs.declared.head.Head.TheVariants as heads
use Rattle.pddl_formula.specs.Terms.{IsAtom}
use Rattle.pddl_formula_reader.specs.Inner.Reading.{atom_of, atom_at, formula_at, head_at, word_head, only}
use Rattle.pddl_formula_reader.proofs.TermLaws.{atom_reads, atom_of_list_sound, atom_of_complete}
use Rattle.pddl_formula_reader.proofs.TypedListLaws.{variables_reads}
use Rattle.pddl_formula_reader.proofs.HeadLaws.{HeadIs, head_sound, head_of_word, head_of_other}
use Rattle.pddl_formula_reader.proofs.FormulaLaws.{Sound, only_sound, quantified_sound, reads_each, formula_reads}
use Rattle.pddl_effect.specs.Effects.{EffectValue, conjunction, universal, conditional, addition, deletion, increase, EffectValues, no_effects, effect, effects_of, IsEffect, AreEffects, IsWholeEffect}
use Rattle.pddl_effect_reader.specs.Inner.EffectReading.{increase_of, conditional_of, effect_by, effect_of_list, effect_at, effects_at, whole_effect_of, whole_effect_at}
use Rattle.pddl_effect_reader.proofs.AmountLaws.{increase_sound, increase_complete}

-- ---- the effect of a list

effects_at_trees : (ts : List Tree) → effects_at (trees_of ts) ≡ map effect_at ts
unfolding effects_at
effects_at_trees [] = refl
effects_at_trees (t ∷ ts) = ap (λ (os : List (Option EffectValue)). effect_at t ∷ os) (effects_at_trees ts)

pub effect_at_list : (ts : List Tree) → effect_at (list ts) ≡ effect_of_list ts (map effect_at ts)
unfolding effect_at
effect_at_list ts = ap₂ effect_of_list (list_of_trees_of ts) (effects_at_trees ts)

-- a word is no effect
pub effect_at_leaf : (w : Word) → effect_at (leaf w) ≡ None
unfolding effect_at
effect_at_leaf w = refl

-- ---- what is read is spelled

all_sound : (ts : List Tree) (es : List EffectValue) → Sound IsEffect effect_at ts → all_of (map effect_at ts) ≡ Some es → AreEffects (effects_of es) ts
all_sound [] [] s e = tt
all_sound [] (f ∷ fs) s e = absurd (cc)
all_sound (t ∷ ts) [] s e = let h = both_some (effect_at t) (all_of (map effect_at ts)) [] e in let bad = h.4 in absurd (cc)
all_sound (t ∷ ts) (f ∷ fs) s e =
    let h = both_some (effect_at t) (all_of (map effect_at ts)) (f ∷ fs) e in
    let same = h.4 in
    let first : h.0 ≡ f = cc in
    let rest : h.1 ≡ fs = cc in
    (s.0 f (h.2 ∙ ap Some first), all_sound ts fs s.1 (h.3 ∙ ap Some rest))

conditional_sound : (head : Tree) (ts : List Tree) (x : EffectValue) → IsWord (codes "when") head → Sound IsEffect effect_at ts → conditional_of ts (map effect_at ts) ≡ Some x → IsEffect x (list (head ∷ ts))
conditional_sound head [] x is s e = absurd (cc)
conditional_sound head (t ∷ ts) x is s e =
    let b = bind_some (λ f. option_map (conditional f) (only (map effect_at ts))) (formula_at t) x e in
    let m = map_some (conditional b.0) (only (map effect_at ts)) x b.2 in
    let o = only_sound IsEffect effect_at ts m.0 s.1 m.1 in
    subst (λ y. IsEffect y (list (head ∷ t ∷ ts))) m.2
    (head, t, o.0, ap (λ (us : List Tree). list (head ∷ t ∷ us)) o.1, is, formula_reads.sound t b.0 b.1, o.2)

by_sound : (k : Head) (head : Tree) (ts : List Tree) (x : EffectValue) → HeadIs k head → Sound IsEffect effect_at ts → effect_by k head ts (map effect_at ts) ≡ Some x → IsEffect x (list (head ∷ ts))
by_sound heads.And head ts x is s e =
    let m = map_some (λ es. conjunction (effects_of es)) (all_of (map effect_at ts)) x e in
    subst (λ y. IsEffect y (list (head ∷ ts))) m.2 (head, ts, refl, is, all_sound ts m.0 s m.1)
by_sound heads.Forall head ts x is s e =
    let (xs, y, made, (vs, t, behind, listed, body)) = quantified_sound IsEffect effect_at universal ts x s e in
    subst (λ z. IsEffect z (list (head ∷ ts))) made (head, vs, t, ap (λ (us : List Tree). list (head ∷ us)) behind, is, listed, body)
by_sound heads.When head ts x is s e = conditional_sound head ts x is s e
by_sound heads.Not head ts x is s e =
    let m = map_some deletion (only (map atom_at ts)) x e in
    let o = only_sound IsAtom atom_at ts m.0 (reads_each IsAtom atom_at atom_reads.sound ts) m.1 in
    subst (λ y. IsEffect y (list (head ∷ ts))) m.2 (head, o.0, ap (λ (us : List Tree). list (head ∷ us)) o.1, is, o.2)
by_sound heads.Increase head ts x is s e =
    let m = map_some increase (increase_of ts) x e in
    subst (λ y. IsEffect y (list (head ∷ ts))) m.2 (increase_sound head ts m.0 is m.1)
by_sound heads.Name head ts x is s e =
    let m = map_some addition (atom_of head ts) x e in
    subst (λ y. IsEffect y (list (head ∷ ts))) m.2 (atom_of_list_sound (head ∷ ts) m.0 m.1)
by_sound heads.Or head ts x is s e = absurd (cc)
by_sound heads.Imply head ts x is s e = absurd (cc)
by_sound heads.Exists head ts x is s e = absurd (cc)
by_sound heads.Equal head ts x is s e = absurd (cc)
by_sound heads.Nothing head ts x is s e = absurd (cc)

list_sound : (ts : List Tree) (x : EffectValue) → Sound IsEffect effect_at ts → effect_of_list ts (map effect_at ts) ≡ Some x → IsEffect x (list ts)
list_sound [] x s e = absurd (cc)
list_sound (head ∷ ts) x s e = by_sound (head_at head) head ts x (head_sound head) s.1 e

mutual
  effect_sound : (t : Tree) (x : EffectValue) → effect_at t ≡ Some x → IsEffect x t
  effect_sound (leaf w) x e = let none = effect_at_leaf w in absurd (cc)
  effect_sound (node ts) x e =
      subst (λ us. IsEffect x (node us)) (trees_of_list_of ts)
      (list_sound (list_of ts) x (effects_sound ts) (sym (effect_at_list (list_of ts)) ∙ ap (λ us. effect_at (node us)) (trees_of_list_of ts) ∙ e))

  effects_sound : (ts : Trees) → Sound IsEffect effect_at (list_of ts)
  effects_sound no_trees = tt
  effects_sound (tree t ts) = (effect_sound t, effects_sound ts)

-- ---- what is spelled is read

abbrev values_of : EffectValues → List EffectValue
values_of no_effects = []
values_of (effect e es) = e ∷ values_of es

effects_of_values : (es : EffectValues) → effects_of (values_of es) ≡ es
effects_of_values no_effects = refl
effects_of_values (effect e es) = ap (effect e) (effects_of_values es)

-- a list that begins with this word
begins : (word : List ℕ) (head t : Tree) (ts : List Tree) → t ≡ list (head ∷ ts) → IsWord word head → effect_at t ≡ effect_by (word_head word) head ts (map effect_at ts)
begins word head t ts is spelled =
    ap effect_at is ∙ effect_at_list (head ∷ ts) ∙ ap (λ k. effect_by k head ts (map effect_at ts)) (head_of_word word head spelled)

mutual
  effect_complete : (x : EffectValue) (t : Tree) → IsEffect x t → effect_at t ≡ Some x
  effect_complete (conjunction es) t (head, ts, is, word, all) =
      begins (codes "and") head t ts is word
      ∙ ap (option_map (λ fs. conjunction (effects_of fs))) (effects_complete es ts all) ∙ ap (λ fs. Some (conjunction fs)) (effects_of_values es)
  effect_complete (universal xs e) t (head, vs, x, is, word, listed, body) =
      begins (codes "forall") head t (vs ∷ x ∷ []) is word ∙ rw (variables_reads.complete vs xs listed, effect_complete e x body) refl
  effect_complete (conditional f e) t (head, c, x, is, word, condition, body) =
      begins (codes "when") head t (c ∷ x ∷ []) is word ∙ rw (formula_reads.complete c f condition, effect_complete e x body) refl
  effect_complete (addition a) t (head, ts, is, spelled, each) =
      ap effect_at is ∙ effect_at_list (head ∷ ts) ∙ ap (λ k. effect_by k head ts (map effect_at ts)) (head_of_other a.predicate head spelled.0.1 spelled.1)
      ∙ ap (option_map addition) (atom_of_complete head ts a spelled each)
  effect_complete (deletion a) t (head, x, is, word, inner) =
      begins (codes "not") head t (x ∷ []) is word ∙ ap (option_map deletion) (atom_reads.complete x a inner)
  effect_complete (increase a) t (head, cost, x, is, word, total, amount) =
      begins (codes "increase") head t (cost ∷ x ∷ []) is word ∙ ap (option_map increase) (increase_complete cost x a total amount)

  effects_complete : (es : EffectValues) (ts : List Tree) → AreEffects es ts → all_of (map effect_at ts) ≡ Some (values_of es)
  effects_complete no_effects [] s = refl
  effects_complete no_effects (t ∷ ts) s = absurd s
  effects_complete (effect e es) [] s = absurd s
  effects_complete (effect e es) (t ∷ ts) (first, rest) = rw (effect_complete e t first, effects_complete es ts rest) refl

pub effect_reads : Reads IsEffect effect_at
effect_reads = record { sound = effect_sound; complete = λ t x s. effect_complete x t s }

-- a tree spells at most one effect
pub one_effect : (t : Tree) (e f : EffectValue) → IsEffect e t → IsEffect f t → e ≡ f
one_effect t e f first second =
    let same : Some e ≡ Some f = sym (effect_complete e t first) ∙ effect_complete f t second in cc same

-- ---- the effect of an action

whole_of_sound : (t : Tree) (o : Option EffectValue) (x : EffectValue) → effect_at t ≡ o → whole_effect_of t o ≡ Some x → IsWholeEffect x t
whole_of_sound (leaf w) o x is e = inl (effect_sound (leaf w) x (is ∙ e))
whole_of_sound (node no_trees) o x is e = let same : conjunction no_effects ≡ x = cc e in inr (refl, sym same)
whole_of_sound (node (tree t ts)) o x is e = inl (effect_sound (node (tree t ts)) x (is ∙ e))

-- a list without items is no effect
empty_is_none : (x : EffectValue) → IsEffect x (list []) → ⊥
empty_is_none x s = let some = effect_complete x (list []) s in let none = effect_at_list [] in cc

whole_complete : (t : Tree) (x : EffectValue) → IsWholeEffect x t → whole_effect_at t ≡ Some x
whole_complete (leaf w) x (inl s) = effect_complete x (leaf w) s
whole_complete (node no_trees) x (inl s) = absurd (empty_is_none x s)
whole_complete (node (tree t ts)) x (inl s) = effect_complete x (node (tree t ts)) s
whole_complete t x (inr (empty, is)) = ap (λ u. whole_effect_of u (effect_at u)) empty ∙ ap Some (sym is)

pub whole_effect_reads : Reads IsWholeEffect whole_effect_at
whole_effect_reads = record { sound = λ t x e. whole_of_sound t (effect_at t) x refl e; complete = whole_complete }
