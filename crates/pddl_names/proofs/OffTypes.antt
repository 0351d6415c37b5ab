-- Names that are listed with two types: told by the first of each name, and by all that stand before.
use Rattle.std.proofs.Common.{◌≡◌, Bool, true, false, not, ◌&&◌, List, [], ◌∷◌, ◌++◌, refl, sym, ap, ◌∙◌, subst, arith, append_assoc, inl, inr, Contains}
use Rattle.std.specs.Cmp.Lexicographic.{bytes_decides, pointwise_decides, nat_list_eq_equiv}
use Rattle.std.proofs.lemmas.List.Elements.{Contains-append_left, Contains-append_right, Contains-append_cases}
use Rattle.std.proofs.lemmas.List.Folds.{find-append}
use Rattle.pddl_formula.specs.TypedLists.{TypedValue}
use Rattle.pddl_task.specs.Names.{Name, is_named, item_of, same_names, word_if, wrong_words}
use Rattle.pddl_task.specs.Faults.{has_other_type, retyped}
use Rattle.pddl_task.proofs.DistinctNames.{word_none}
use Rattle.pddl_task.proofs.Lists.{append-none, both_nil, bytes_same, has_none, nil_parts}
use Rattle.pddl_faults.proofs.SeenItems.{any_more}
use Rattle.pddl_types.specs.Objects.{is_off, off_types}

-- words of two lists, one behind the other
words-append : {X : Type 0} (wrong : List X → X → Bool) (word : X → Name) (before xs ys : List X)
    → wrong_words wrong word before (xs ++ ys) ≡ wrong_words wrong word before xs ++ wrong_words wrong word (before ++ xs) ys
words-append wrong word before [] ys = ap (λ seen. wrong_words wrong word seen ys) (sym (append-none before))
words-append wrong word before (x ∷ xs) ys = simp (append_assoc, words-append wrong word (before ++ x ∷ []) xs ys)

-- where the first of the name has another type, one before it has
off_is : (seen : List TypedValue) (x : TypedValue) → is_off seen x ≡ true → has_other_type seen x ≡ true
off_is [] x off = cc
off_is (y ∷ seen) x off = grind (arith, off, off_is seen x, nat_list_eq_equiv.symm y.item x.item)

-- words of two lists, each list in front of the same
pub within_both : (xs ys vs zs : List Name) (w : Name) → (Contains xs w → Contains vs w) → (Contains ys w → Contains zs w) → Contains (xs ++ ys) w → Contains (vs ++ zs) w
within_both xs ys vs zs w h k c =
    elim (Contains-append_cases xs ys w c) as (λ _. Contains (vs ++ zs) w) [ inl l ↦ Contains-append_left vs zs w (h l) | inr r ↦ Contains-append_right vs zs w (k r) ]

-- so each word of the one is a word of the other
pub off_within : (seen xs : List TypedValue) (w : Name) → Contains (off_types seen xs) w → Contains (retyped seen xs) w
off_within seen [] w c = c
off_within seen (x ∷ xs) w c =
    within_both (word_if (is_off seen x) x.item) (off_types (seen ++ x ∷ []) xs) (word_if (has_other_type seen x) x.item) (retyped (seen ++ x ∷ []) xs) w
    (own (is_off seen x) (has_other_type seen x) (off_is seen x)) (off_within (seen ++ x ∷ []) xs w) c
  where
    own : (b c : Bool) → (b ≡ true → c ≡ true) → Contains (word_if b x.item) w → Contains (word_if c x.item) w
    own true c then has = subst (λ d. Contains (word_if d x.item) w) (sym (then refl)) has
    own false c then has = absurd (has_none w has)

-- where the first of each name has the type of all others, both tell the same of what is next
abbrev AreOne : List TypedValue → Type 0
AreOne seen = (x : TypedValue) → has_other_type seen x ≡ is_off seen x

one_more : (seen : List TypedValue) (y : TypedValue) → AreOne seen → is_off seen y ≡ false → AreOne (seen ++ y ∷ [])
one_more seen y one right x =
    let same_type = λ (z : TypedValue) (same : not (same_names z.of y.of) ≡ false). (pointwise_decides bytes_decides z.of y.of).0 (grind (arith, same)) in
    grind (arith, any_more (λ z. is_named z.item x && not (same_names z.of x.of)) seen y, one x, right, find-append (is_named x.item) seen (y ∷ []), nat_list_eq_equiv.symm y.item x.item, bytes_same y.item x.item, same_type)

none_off : (seen xs : List TypedValue) → AreOne seen → off_types seen xs ≡ [] → retyped seen xs ≡ []
none_off seen [] one none = refl
none_off seen (x ∷ xs) one none =
    let parts = nil_parts (word_if (is_off seen x) x.item) (off_types (seen ++ x ∷ []) xs) none in
    let right = word_none (is_off seen x) x.item parts.0 in
    both_nil (word_if (has_other_type seen x) x.item) (retyped (seen ++ x ∷ []) xs) (ap (λ b. word_if b x.item) (one x ∙ right)) (none_off (seen ++ x ∷ []) xs (one_more seen x one right) parts.1)

-- none of two lists, one behind the other, has another type than the first of its name where none is off
pub none_retyped : (xs ys : List TypedValue) → off_types [] xs ++ off_types xs ys ≡ [] → retyped [] xs ++ retyped xs ys ≡ []
none_retyped xs ys none = sym (words-append has_other_type item_of [] xs ys) ∙ none_off [] (xs ++ ys) (λ x. refl) (words-append is_off item_of [] xs ys ∙ none)
