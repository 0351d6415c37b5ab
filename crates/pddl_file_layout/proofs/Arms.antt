-- The text of a formula or an effect of the program, and that it is good, by its outermost part.
use Rattle.std.proofs.Common.{◌≡◌, ℕ, ◌-◌, ◌<◌, List, [], ◌∷◌, ◌++◌, map, length, get_or, take, drop, Vec, Box, refl, sym, ap, ap₂, ◌∙◌, append_assoc, codes, arith}
use Rattle.std.specs.Prelude.{true, ◌&&◌}
use Rattle.std.specs.List.{list_all}
use Rattle.std.proofs.lemmas.List.{take_all, length-drop}
use Rattle.pddl_formula.specs.declared.type_names.Typed.{Typed}
use Rattle.pddl_formula.specs.declared.formula.Formula.{Formula}
use Rattle.pddl_formula.specs.declared.term.Term.{Term}
use Rattle.pddl_formula.specs.Terms.{term_view, atom_view}
use Rattle.pddl_formula.specs.declared.term.Atom.{Atom}
use Rattle.pddl_formula.specs.declared.formula.Formula.TheVariants as cases
use Rattle.pddl_formula.specs.declared.formula.Formula.TheVariants.{Equal, Not, Imply, And, Or, Exists, Forall}
use Rattle.pddl_formula.specs.TypedLists.{typed_view}
use Rattle.pddl_formula.specs.Formulas.{FormulaValue, formula_view, formulas_of}
use Rattle.pddl_formula.proofs.Views.{view_atom, view_equal, view_not, view_imply, view_and, view_or, view_exists, view_forall}
use Rattle.pddl_effect.specs.declared.effect.Effect.{Effect}
use Rattle.pddl_effect.specs.declared.amount.Amount.{Amount}
use Rattle.pddl_effect.specs.declared.effect.Effect.TheVariants as outcome
use Rattle.pddl_effect.specs.Effects.{EffectValue, amount_view, effect_view, effects_of}
use Rattle.pddl_effect.proofs.Views as views
use Rattle.pddl_file_layout.proofs.SectionTexts.{both}
use Rattle.pddl_file_layout.specs.FormulaValues.{is_term, is_atom, is_typed, is_formula, are_formulas, is_amount, is_effect, are_effects}
use Rattle.pddl_file_layout.specs.Inner.Texts.{spaced_by, term_text, atom_text, typed_text, variables_text, formula_text, formulas_text, amount_text, effect_text, effects_text}

-- ---- lists of variables

-- what stands before the part of a formula or an effect that binds variables
head_apart : (quantifier variables part : List ℕ) → (quantifier ++ (variables ++ codes " ")) ++ part ≡ quantifier ++ (variables ++ (codes " " ++ part))
head_apart quantifier variables part =
    append_assoc quantifier (variables ++ codes " ") part ∙ ap (λ (x : List ℕ). quantifier ++ x) (append_assoc variables (codes " ") part)

-- those behind the first, as a slice's pattern has them
rest_is : {X : Type 0} (n : ℕ) (xs : List X) → take (length xs - n) (drop n xs) ≡ drop n xs
rest_is n xs = take_all (length xs - n) (drop n xs) (omega (arith, length-drop n xs))

whole_text : {A : Type 0} (xs : List (Typed A)) (x : Typed A) → 0 < length xs → x ≡ get_or xs 0 x
    → codes "(" ++ (typed_text (codes "?") (typed_view x) ++ (spaced_by (typed_text (codes "?")) (map typed_view (drop 1 xs)) ++ codes ")")) ≡ variables_text (map typed_view xs)
whole_text [] x some is = absurd (omega (arith, some))
whole_text {A} (y ∷ ys) x some is = ap (λ (z : Typed A). codes "(" ++ (typed_text (codes "?") (typed_view z) ++ (spaced_by (typed_text (codes "?")) (map typed_view ys) ++ codes ")"))) is

pub variables_cons : {A : Type 0} (xs : List (Typed A)) (x : Typed A) → 0 < length xs → x ≡ get_or xs 0 x
    → codes "(" ++ (typed_text (codes "?") (typed_view x) ++ (spaced_by (typed_text (codes "?")) (map typed_view (take (length xs - 1) (drop 1 xs))) ++ codes ")")) ≡ variables_text (map typed_view xs)
variables_cons {A} xs x some is =
    ap (λ (ys : List (Typed A)). codes "(" ++ (typed_text (codes "?") (typed_view x) ++ (spaced_by (typed_text (codes "?")) (map typed_view ys) ++ codes ")"))) (rest_is 1 xs) ∙ whole_text xs x some is

pub no_variables : {A : Type 0} (xs : List (Typed A)) → length xs < 1 → codes "()" ≡ variables_text (map typed_view xs)
no_variables [] none = refl
no_variables (x ∷ xs) none = absurd (omega (arith, none))

pub none_good : {A : Type 0} (xs : List (Typed A)) → length xs < 1 → list_all is_typed (map typed_view xs) ≡ true
none_good [] none = refl
none_good (x ∷ xs) none = absurd (omega (arith, none))

typed_good : {A : Type 0} (xs ys : List (Typed A)) → xs ≡ ys → list_all is_typed (map typed_view xs) ≡ true → list_all is_typed (map typed_view ys) ≡ true
typed_good {A} xs ys same good = sym (ap (λ (zs : List (Typed A)). list_all is_typed (map typed_view zs)) same) ∙ good

whole_good : {A : Type 0} (xs : List (Typed A)) (x : Typed A) → 0 < length xs → x ≡ get_or xs 0 x → is_typed (typed_view x) ≡ true → list_all is_typed (map typed_view (drop 1 xs)) ≡ true
    → list_all is_typed (map typed_view xs) ≡ true
whole_good [] x some is first rest = absurd (omega (arith, some))
whole_good {A} (y ∷ ys) x some is first rest =
    both (is_typed (typed_view y)) (list_all is_typed (map typed_view ys)) (sym (ap (λ (z : Typed A). is_typed (typed_view z)) is) ∙ first) rest

pub cons_good : {A : Type 0} (xs : List (Typed A)) (x : Typed A) → 0 < length xs → x ≡ get_or xs 0 x → is_typed (typed_view x) ≡ true → list_all is_typed (map typed_view (take (length xs - 1) (drop 1 xs))) ≡ true
    → list_all is_typed (map typed_view xs) ≡ true
cons_good xs x some is first rest = whole_good xs x some is first (typed_good (take (length xs - 1) (drop 1 xs)) (drop 1 xs) (rest_is 1 xs) rest)

-- ---- formulas

formulas_spaced : (fs : List FormulaValue) → formulas_text (formulas_of fs) ≡ spaced_by formula_text fs
formulas_spaced [] = refl
formulas_spaced (f ∷ fs) = ap (λ (x : List ℕ). codes " " ++ (formula_text f ++ x)) (formulas_spaced fs)

formulas_good : (fs : List FormulaValue) → are_formulas (formulas_of fs) ≡ list_all is_formula fs
formulas_good [] = refl
formulas_good (f ∷ fs) = ap (λ b. is_formula f && b) (formulas_good fs)

module _ {A : Type 0} where
  shown : {f g : Formula A} → f ≡ g → formula_text (formula_view g) ≡ formula_text (formula_view f)
  shown e = ap (λ (x : Formula A). formula_text (formula_view x)) (sym e)

  fits : {f g : Formula A} {v : FormulaValue} → f ≡ g → formula_view g ≡ v → is_formula v ≡ true → is_formula (formula_view f) ≡ true
  fits is view good = ap (λ (x : Formula A). is_formula (formula_view x)) is ∙ (ap is_formula view ∙ good)

  pub atom_shown : (f : Formula A) (a : Atom A) → f ≡ cases.Atom a → atom_text (atom_view a) ≡ formula_text (formula_view f)
  atom_shown f a is = ap formula_text (sym (view_atom a)) ∙ shown is

  pub equal_text : (f : Formula A) (x y : Term A) → f ≡ Equal x y → codes "(= " ++ (term_text (term_view x) ++ (codes " " ++ (term_text (term_view y) ++ codes ")"))) ≡ formula_text (formula_view f)
  equal_text f x y is = ap formula_text (sym (view_equal x y)) ∙ shown is

  pub not_text : (f inner : Formula A) (p : Box (Formula A) A) → f ≡ Not p → inner ≡ p.value → codes "(not " ++ (formula_text (formula_view inner) ++ codes ")") ≡ formula_text (formula_view f)
  not_text f inner p is inner_is =
      ap (λ (x : Formula A). codes "(not " ++ (formula_text (formula_view x) ++ codes ")")) inner_is ∙ (ap formula_text (sym (view_not p)) ∙ shown is)

  pub imply_text : (f left right : Formula A) (p q : Box (Formula A) A) → f ≡ Imply p q → left ≡ p.value → right ≡ q.value
      → codes "(imply " ++ (formula_text (formula_view left) ++ (codes " " ++ (formula_text (formula_view right) ++ codes ")"))) ≡ formula_text (formula_view f)
  imply_text f left right p q is left_is right_is =
      ap₂ (λ (x y : Formula A). codes "(imply " ++ (formula_text (formula_view x) ++ (codes " " ++ (formula_text (formula_view y) ++ codes ")")))) left_is right_is
      ∙ (ap formula_text (sym (view_imply p q)) ∙ shown is)

  pub and_text : (f : Formula A) (parts : List (Formula A)) (v : Vec (Formula A) A) → f ≡ And v → parts ≡ v.items → codes "(and" ++ (spaced_by formula_text (map formula_view parts) ++ codes ")") ≡ formula_text (formula_view f)
  and_text f parts v is parts_are =
      ap (λ (x : List (Formula A)). codes "(and" ++ (spaced_by formula_text (map formula_view x) ++ codes ")")) parts_are
      ∙ (ap (λ (x : List ℕ). codes "(and" ++ (x ++ codes ")")) (sym (formulas_spaced (map formula_view v.items))) ∙ (ap formula_text (sym (view_and v)) ∙ shown is))

  pub or_text : (f : Formula A) (parts : List (Formula A)) (v : Vec (Formula A) A) → f ≡ Or v → parts ≡ v.items → codes "(or" ++ (spaced_by formula_text (map formula_view parts) ++ codes ")") ≡ formula_text (formula_view f)
  or_text f parts v is parts_are =
      ap (λ (x : List (Formula A)). codes "(or" ++ (spaced_by formula_text (map formula_view x) ++ codes ")")) parts_are
      ∙ (ap (λ (x : List ℕ). codes "(or" ++ (x ++ codes ")")) (sym (formulas_spaced (map formula_view v.items))) ∙ (ap formula_text (sym (view_or v)) ∙ shown is))

  pub exists_text : (f inner : Formula A) (xs : List (Typed A)) (v : Vec (Typed A) A) (p : Box (Formula A) A) → f ≡ Exists v p → xs ≡ v.items → inner ≡ p.value
      → (codes "(exists " ++ (variables_text (map typed_view xs) ++ codes " ")) ++ (formula_text (formula_view inner) ++ codes ")") ≡ formula_text (formula_view f)
  exists_text f inner xs v p is xs_are inner_is =
      head_apart (codes "(exists ") (variables_text (map typed_view xs)) (formula_text (formula_view inner) ++ codes ")")
      ∙ (ap₂ (λ (x : List (Typed A)) (y : Formula A). codes "(exists " ++ (variables_text (map typed_view x) ++ (codes " " ++ (formula_text (formula_view y) ++ codes ")")))) xs_are inner_is
      ∙ (ap formula_text (sym (view_exists v p)) ∙ shown is))

  pub forall_text : (f inner : Formula A) (xs : List (Typed A)) (v : Vec (Typed A) A) (p : Box (Formula A) A) → f ≡ Forall v p → xs ≡ v.items → inner ≡ p.value
      → (codes "(forall " ++ (variables_text (map typed_view xs) ++ codes " ")) ++ (formula_text (formula_view inner) ++ codes ")") ≡ formula_text (formula_view f)
  forall_text f inner xs v p is xs_are inner_is =
      head_apart (codes "(forall ") (variables_text (map typed_view xs)) (formula_text (formula_view inner) ++ codes ")")
      ∙ (ap₂ (λ (x : List (Typed A)) (y : Formula A). codes "(forall " ++ (variables_text (map typed_view x) ++ (codes " " ++ (formula_text (formula_view y) ++ codes ")")))) xs_are inner_is
      ∙ (ap formula_text (sym (view_forall v p)) ∙ shown is))

  pub atom_good : (f : Formula A) (a : Atom A) → f ≡ cases.Atom a → is_atom (atom_view a) ≡ true → is_formula (formula_view f) ≡ true
  atom_good f a is good = fits is (view_atom a) good

  pub equal_good : (f : Formula A) (x y : Term A) → f ≡ Equal x y → is_term (term_view x) ≡ true → is_term (term_view y) ≡ true → is_formula (formula_view f) ≡ true
  equal_good f x y is left right = fits is (view_equal x y) (both (is_term (term_view x)) (is_term (term_view y)) left right)

  pub not_good : (f inner : Formula A) (p : Box (Formula A) A) → f ≡ Not p → inner ≡ p.value → is_formula (formula_view inner) ≡ true → is_formula (formula_view f) ≡ true
  not_good f inner p is inner_is good = fits is (view_not p) (fits (sym inner_is) refl good)

  pub imply_good : (f left right : Formula A) (p q : Box (Formula A) A) → f ≡ Imply p q → left ≡ p.value → right ≡ q.value → is_formula (formula_view left) ≡ true → is_formula (formula_view right) ≡ true
      → is_formula (formula_view f) ≡ true
  imply_good f left right p q is left_is right_is first second =
      fits is (view_imply p q) (both (is_formula (formula_view p.value)) (is_formula (formula_view q.value)) (fits (sym left_is) refl first) (fits (sym right_is) refl second))

  pub and_good : (f : Formula A) (parts : List (Formula A)) (v : Vec (Formula A) A) → f ≡ And v → parts ≡ v.items → list_all is_formula (map formula_view parts) ≡ true → is_formula (formula_view f) ≡ true
  and_good f parts v is parts_are good =
      fits is (view_and v) (formulas_good (map formula_view v.items) ∙ (ap (λ (x : List (Formula A)). list_all is_formula (map formula_view x)) (sym parts_are) ∙ good))

  pub or_good : (f : Formula A) (parts : List (Formula A)) (v : Vec (Formula A) A) → f ≡ Or v → parts ≡ v.items → list_all is_formula (map formula_view parts) ≡ true → is_formula (formula_view f) ≡ true
  or_good f parts v is parts_are good =
      fits is (view_or v) (formulas_good (map formula_view v.items) ∙ (ap (λ (x : List (Formula A)). list_all is_formula (map formula_view x)) (sym parts_are) ∙ good))

  -- variables that are good, and what they bind
  bound_good : (inner : Formula A) (xs : List (Typed A)) (v : Vec (Typed A) A) (p : Box (Formula A) A) → xs ≡ v.items → inner ≡ p.value → list_all is_typed (map typed_view xs) ≡ true → is_formula (formula_view inner) ≡ true
      → (list_all is_typed (map typed_view v.items) && is_formula (formula_view p.value)) ≡ true
  bound_good inner xs v p xs_are inner_is typed good =
      both (list_all is_typed (map typed_view v.items)) (is_formula (formula_view p.value)) (typed_good xs v.items xs_are typed) (fits (sym inner_is) refl good)

  pub exists_good : (f inner : Formula A) (xs : List (Typed A)) (v : Vec (Typed A) A) (p : Box (Formula A) A) → f ≡ Exists v p → xs ≡ v.items → inner ≡ p.value
      → list_all is_typed (map typed_view xs) ≡ true → is_formula (formula_view inner) ≡ true → is_formula (formula_view f) ≡ true
  exists_good f inner xs v p is xs_are inner_is typed good = fits is (view_exists v p) (bound_good inner xs v p xs_are inner_is typed good)

  pub forall_good : (f inner : Formula A) (xs : List (Typed A)) (v : Vec (Typed A) A) (p : Box (Formula A) A) → f ≡ Forall v p → xs ≡ v.items → inner ≡ p.value
      → list_all is_typed (map typed_view xs) ≡ true → is_formula (formula_view inner) ≡ true → is_formula (formula_view f) ≡ true
  forall_good f inner xs v p is xs_are inner_is typed good = fits is (view_forall v p) (bound_good inner xs v p xs_are inner_is typed good)

-- ---- effects

effects_spaced : (es : List EffectValue) → effects_text (effects_of es) ≡ spaced_by effect_text es
effects_spaced [] = refl
effects_spaced (e ∷ es) = ap (λ (x : List ℕ). codes " " ++ (effect_text e ++ x)) (effects_spaced es)

effects_good : (es : List EffectValue) → are_effects (effects_of es) ≡ list_all is_effect es
effects_good [] = refl
effects_good (e ∷ es) = ap (λ b. is_effect e && b) (effects_good es)

module _ {A : Type 0} where
  effect_shown : {e o : Effect A} → e ≡ o → effect_text (effect_view o) ≡ effect_text (effect_view e)
  effect_shown e = ap (λ (x : Effect A). effect_text (effect_view x)) (sym e)

  pub all_text : (e : Effect A) (parts : List (Effect A)) (v : Vec (Effect A) A) → e ≡ outcome.And v → parts ≡ v.items → codes "(and" ++ (spaced_by effect_text (map effect_view parts) ++ codes ")") ≡ effect_text (effect_view e)
  all_text e parts v is parts_are =
      ap (λ (x : List (Effect A)). codes "(and" ++ (spaced_by effect_text (map effect_view x) ++ codes ")")) parts_are
      ∙ (ap (λ (x : List ℕ). codes "(and" ++ (x ++ codes ")")) (sym (effects_spaced (map effect_view v.items))) ∙ (ap effect_text (sym (views.view_and v)) ∙ effect_shown is))

  pub each_text : (e inner : Effect A) (xs : List (Typed A)) (v : Vec (Typed A) A) (p : Box (Effect A) A) → e ≡ outcome.Forall v p → xs ≡ v.items → inner ≡ p.value
      → (codes "(forall " ++ (variables_text (map typed_view xs) ++ codes " ")) ++ (effect_text (effect_view inner) ++ codes ")") ≡ effect_text (effect_view e)
  each_text e inner xs v p is xs_are inner_is =
      head_apart (codes "(forall ") (variables_text (map typed_view xs)) (effect_text (effect_view inner) ++ codes ")")
      ∙ (ap₂ (λ (x : List (Typed A)) (y : Effect A). codes "(forall " ++ (variables_text (map typed_view x) ++ (codes " " ++ (effect_text (effect_view y) ++ codes ")")))) xs_are inner_is
      ∙ (ap effect_text (sym (views.view_forall v p)) ∙ effect_shown is))

  pub when_text : (e inner : Effect A) (f : Formula A) (p : Box (Effect A) A) → e ≡ outcome.When f p → inner ≡ p.value
      → codes "(when " ++ (formula_text (formula_view f) ++ (codes " " ++ (effect_text (effect_view inner) ++ codes ")"))) ≡ effect_text (effect_view e)
  when_text e inner f p is inner_is =
      ap (λ (y : Effect A). codes "(when " ++ (formula_text (formula_view f) ++ (codes " " ++ (effect_text (effect_view y) ++ codes ")")))) inner_is
      ∙ (ap effect_text (sym (views.view_when f p)) ∙ effect_shown is)

  pub del_text : (e : Effect A) (a : Atom A) → e ≡ outcome.Del a → codes "(not " ++ (atom_text (atom_view a) ++ codes ")") ≡ effect_text (effect_view e)
  del_text e a is = ap effect_text (sym (views.view_del a)) ∙ effect_shown is

  pub add_text : (e : Effect A) (a : Atom A) → e ≡ outcome.Add a → atom_text (atom_view a) ≡ effect_text (effect_view e)
  add_text e a is = ap effect_text (sym (views.view_add a)) ∙ effect_shown is

  pub increase_text : (e : Effect A) (a : Amount A) → e ≡ outcome.Increase a → codes "(increase (total-cost) " ++ (amount_text (amount_view a) ++ codes ")") ≡ effect_text (effect_view e)
  increase_text e a is = ap effect_text (sym (views.view_increase a)) ∙ effect_shown is

  effect_fits : {e o : Effect A} {v : EffectValue} → e ≡ o → effect_view o ≡ v → is_effect v ≡ true → is_effect (effect_view e) ≡ true
  effect_fits is view good = ap (λ (x : Effect A). is_effect (effect_view x)) is ∙ (ap is_effect view ∙ good)

  pub all_good : (e : Effect A) (parts : List (Effect A)) (v : Vec (Effect A) A) → e ≡ outcome.And v → parts ≡ v.items → list_all is_effect (map effect_view parts) ≡ true → is_effect (effect_view e) ≡ true
  all_good e parts v is parts_are good =
      effect_fits is (views.view_and v) (effects_good (map effect_view v.items) ∙ (ap (λ (x : List (Effect A)). list_all is_effect (map effect_view x)) (sym parts_are) ∙ good))

  pub each_good : (e inner : Effect A) (xs : List (Typed A)) (v : Vec (Typed A) A) (p : Box (Effect A) A) → e ≡ outcome.Forall v p → xs ≡ v.items → inner ≡ p.value
      → list_all is_typed (map typed_view xs) ≡ true → is_effect (effect_view inner) ≡ true → is_effect (effect_view e) ≡ true
  each_good e inner xs v p is xs_are inner_is typed good =
      effect_fits is (views.view_forall v p) (both (list_all is_typed (map typed_view v.items)) (is_effect (effect_view p.value)) (typed_good xs v.items xs_are typed) (effect_fits (sym inner_is) refl good))

  pub when_good : (e inner : Effect A) (f : Formula A) (p : Box (Effect A) A) → e ≡ outcome.When f p → inner ≡ p.value → is_formula (formula_view f) ≡ true → is_effect (effect_view inner) ≡ true
      → is_effect (effect_view e) ≡ true
  when_good e inner f p is inner_is condition good =
      effect_fits is (views.view_when f p) (both (is_formula (formula_view f)) (is_effect (effect_view p.value)) condition (effect_fits (sym inner_is) refl good))

  pub add_good : (e : Effect A) (a : Atom A) → e ≡ outcome.Add a → is_atom (atom_view a) ≡ true → is_effect (effect_view e) ≡ true
  add_good e a is good = effect_fits is (views.view_add a) good

  pub del_good : (e : Effect A) (a : Atom A) → e ≡ outcome.Del a → is_atom (atom_view a) ≡ true → is_effect (effect_view e) ≡ true
  del_good e a is good = effect_fits is (views.view_del a) good

  pub increase_good : (e : Effect A) (a : Amount A) → e ≡ outcome.Increase a → is_amount (amount_view a) ≡ true → is_effect (effect_view e) ≡ true
  increase_good e a is good = effect_fits is (views.view_increase a) good
