-- Depths of formulas: a part is less deep than the whole, and an element no deeper than the deepest of its list.
use Rattle.std.proofs.Common.{◌≡◌, ℕ, ◌<◌, ◌≤◌, List, length, get_or, Vec, Box, ap, arith}
use denote.RattleType.{RattleType}
use denote.Param.Laws.{Laws}
use denote.Param.Weighed.{most, at_most}
use Rattle.std.specs.declared.alloc.Allocator.{Ghosts}
use Rattle.pddl_formula.specs.declared.type_names.Typed.{Typed}
use Rattle.pddl_formula.specs.declared.formula.Formula.{Formula}
use Rattle.pddl_formula.specs.declared.formula.Formula.TheVariants.{Not, Imply, And, Or, Exists, Forall}
use Rattle.pddl_formula.specs.declared.formula.Formula.TheFolds as folds
use Rattle.pddl_formula.proofs.formula.Formula.TheLaws as formulas

-- of a whole known to be such, and of what was read of it
pub below : {X Y : Type 0} (depth : X → ℕ) (deep : Y → ℕ) (f whole : X) (inner part : Y) → f ≡ whole → inner ≡ part → deep part < depth whole → deep inner < depth f
below depth deep f whole inner part is inner_is less = omega (arith, ap depth is, ap deep inner_is, less)

pub among : {X : Type 0} (depth : X → ℕ) (xs : List X) (i : ℕ) (x : X) → i < length xs → x ≡ get_or xs i x → depth x ≤ most depth xs
among depth xs i x lt is = omega (arith, ap depth is, at_most depth xs i x lt)

module _ (T : RattleType) (G : Ghosts T.Denot) (laws : Laws T) where
  abbrev depth : Formula T.Denot → ℕ
  depth f = formulas.the_size T G laws f

  pub under_not : (f inner : Formula T.Denot) (p : Box (Formula T.Denot) T.Denot) → f ≡ Not p → inner ≡ p.value → depth inner < depth f
  under_not f inner p is inner_is = below depth depth f (Not p) inner p.value is inner_is (grind (folds.the_lemmas, arith))

  pub under_imply : (f left right : Formula T.Denot) (p q : Box (Formula T.Denot) T.Denot) → f ≡ Imply p q → left ≡ p.value → right ≡ q.value → (depth left < depth f) × (depth right < depth f)
  under_imply f left right p q is left_is right_is =
      (below depth depth f (Imply p q) left p.value is left_is (grind (folds.the_lemmas, arith)), below depth depth f (Imply p q) right q.value is right_is (grind (folds.the_lemmas, arith)))

  pub under_and : (f : Formula T.Denot) (parts : List (Formula T.Denot)) (v : Vec (Formula T.Denot) T.Denot) → f ≡ And v → parts ≡ v.items → most depth parts < depth f
  under_and f parts v is parts_are = below depth (most depth) f (And v) parts v.items is parts_are (grind (folds.the_lemmas, arith))

  pub under_or : (f : Formula T.Denot) (parts : List (Formula T.Denot)) (v : Vec (Formula T.Denot) T.Denot) → f ≡ Or v → parts ≡ v.items → most depth parts < depth f
  under_or f parts v is parts_are = below depth (most depth) f (Or v) parts v.items is parts_are (grind (folds.the_lemmas, arith))

  pub under_exists : (f inner : Formula T.Denot) (v : Vec (Typed T.Denot) T.Denot) (p : Box (Formula T.Denot) T.Denot) → f ≡ Exists v p → inner ≡ p.value → depth inner < depth f
  under_exists f inner v p is inner_is = below depth depth f (Exists v p) inner p.value is inner_is (grind (folds.the_lemmas, arith))

  pub under_forall : (f inner : Formula T.Denot) (v : Vec (Typed T.Denot) T.Denot) (p : Box (Formula T.Denot) T.Denot) → f ≡ Forall v p → inner ≡ p.value → depth inner < depth f
  under_forall f inner v p is inner_is = below depth depth f (Forall v p) inner p.value is inner_is (grind (folds.the_lemmas, arith))
