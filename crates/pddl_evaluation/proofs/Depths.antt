-- Depths of conditions and changes: a part is less deep than the whole, and an element no deeper than the deepest of its list.
use Rattle.std.proofs.Common.{◌≡◌, ℕ, ◌+◌, ◌*◌, ◌<◌, ◌≤◌, List, length, get_or, Vec, Box, ap, arith}
use denote.RattleType.{RattleType}
use denote.Param.Laws.{Laws}
use denote.Param.Weighed.{most, at_most}
use Rattle.std.specs.declared.alloc.Allocator.{Ghosts}
use Rattle.pddl_compiled.specs.declared.compiled.Condition.{Condition}
use Rattle.pddl_compiled.specs.declared.compiled.Condition.TheVariants.{Not, Imply, And, Or, Exists, Forall}
use Rattle.pddl_compiled.specs.declared.compiled.Condition.TheFolds as folds
use Rattle.pddl_compiled.proofs.compiled.Condition.TheLaws as conditions
use Rattle.pddl_compiled.specs.declared.compiled.Change.{Change}
use Rattle.pddl_compiled.specs.declared.compiled.Change.TheVariants as outcome
use Rattle.pddl_compiled.specs.declared.compiled.Change.TheFolds as change_folds
use Rattle.pddl_compiled.proofs.compiled.Change.TheLaws as changes

-- of a whole known to be such, and of what was read of it
below : {X Y : Type 0} (depth : X → ℕ) (deep : Y → ℕ) (f whole : X) (inner part : Y) → f ≡ whole → inner ≡ part → deep part < depth whole → deep inner < depth f
below depth deep f whole inner part is inner_is less = omega (arith, ap depth is, ap deep inner_is, less)

pub among : {X : Type 0} (depth : X → ℕ) (xs : List X) (i : ℕ) (x : X) → i < length xs → x ≡ get_or xs i x → depth x ≤ most depth xs
among depth xs i x lt is = omega (arith, ap depth is, at_most depth xs i x lt)

-- what a call in the cycle is measured by falls: from a whole to a part, to a list of parts or to a part for each object, and from these to a part
pub to_part : (part whole t : ℕ) → part < whole → 2 * whole + 0 ≡ t → 2 * part + 0 < t
to_part part whole t less is = omega (arith, less, is)

pub to_parts : (part whole t : ℕ) → part < whole → 2 * whole + 0 ≡ t → 2 * part + 1 < t
to_parts part whole t less is = omega (arith, less, is)

pub from_parts : (part parts t : ℕ) → part ≤ parts → 2 * parts + 1 ≡ t → 2 * part + 0 < t
from_parts part parts t most is = omega (arith, most, is)

pub from_each : (part t : ℕ) → 2 * part + 1 ≡ t → 2 * part + 0 < t
from_each part t is = omega (arith, is)

module _ (T : RattleType) (G : Ghosts T.Denot) (laws : Laws T) where
  -- ---- conditions

  abbrev depth : Condition T.Denot → ℕ
  depth f = conditions.the_size T G laws f

  pub under_not : (f inner : Condition T.Denot) (p : Box (Condition T.Denot) T.Denot) → f ≡ Not p → inner ≡ p.value → depth inner < depth f
  under_not f inner p is inner_is = below depth depth f (Not p) inner p.value is inner_is (grind (folds.the_lemmas, arith))

  pub under_imply : (f left right : Condition T.Denot) (p q : Box (Condition T.Denot) T.Denot) → f ≡ Imply p q → left ≡ p.value → right ≡ q.value → (depth left < depth f) × (depth right < depth f)
  under_imply f left right p q is left_is right_is =
      (below depth depth f (Imply p q) left p.value is left_is (grind (folds.the_lemmas, arith)), below depth depth f (Imply p q) right q.value is right_is (grind (folds.the_lemmas, arith)))

  pub under_and : (f : Condition T.Denot) (parts : List (Condition T.Denot)) (v : Vec (Condition T.Denot) T.Denot) → f ≡ And v → parts ≡ v.items → most depth parts < depth f
  under_and f parts v is parts_are = below depth (most depth) f (And v) parts v.items is parts_are (grind (folds.the_lemmas, arith))

  pub under_or : (f : Condition T.Denot) (parts : List (Condition T.Denot)) (v : Vec (Condition T.Denot) T.Denot) → f ≡ Or v → parts ≡ v.items → most depth parts < depth f
  under_or f parts v is parts_are = below depth (most depth) f (Or v) parts v.items is parts_are (grind (folds.the_lemmas, arith))

  pub under_exists : (f inner : Condition T.Denot) (v : Vec ℕ T.Denot) (p : Box (Condition T.Denot) T.Denot) → f ≡ Exists v p → inner ≡ p.value → depth inner < depth f
  under_exists f inner v p is inner_is = below depth depth f (Exists v p) inner p.value is inner_is (grind (folds.the_lemmas, arith))

  pub under_forall : (f inner : Condition T.Denot) (v : Vec ℕ T.Denot) (p : Box (Condition T.Denot) T.Denot) → f ≡ Forall v p → inner ≡ p.value → depth inner < depth f
  under_forall f inner v p is inner_is = below depth depth f (Forall v p) inner p.value is inner_is (grind (folds.the_lemmas, arith))

  -- ---- changes

  abbrev change_depth : Change T.Denot → ℕ
  change_depth e = changes.the_size T G laws e

  pub under_all : (e : Change T.Denot) (parts : List (Change T.Denot)) (v : Vec (Change T.Denot) T.Denot) → e ≡ outcome.And v → parts ≡ v.items → most change_depth parts < change_depth e
  under_all e parts v is parts_are = below change_depth (most change_depth) e (outcome.And v) parts v.items is parts_are (grind (change_folds.the_lemmas, arith))

  pub under_each : (e inner : Change T.Denot) (v : Vec ℕ T.Denot) (p : Box (Change T.Denot) T.Denot) → e ≡ outcome.Forall v p → inner ≡ p.value → change_depth inner < change_depth e
  under_each e inner v p is inner_is = below change_depth change_depth e (outcome.Forall v p) inner p.value is inner_is (grind (change_folds.the_lemmas, arith))

  pub under_when : (e inner : Change T.Denot) (f : Condition T.Denot) (p : Box (Change T.Denot) T.Denot) → e ≡ outcome.When f p → inner ≡ p.value → change_depth inner < change_depth e
  under_when e inner f p is inner_is = below change_depth change_depth e (outcome.When f p) inner p.value is inner_is (grind (change_folds.the_lemmas, arith))
