-- Depths of effects: a part is less deep than the whole.
use Rattle.std.proofs.Common.{◌≡◌, ℕ, ◌<◌, Vec, Box, refl, arith}
use denote.RattleType.{RattleType}
use denote.Param.Laws.{Laws}
use denote.Param.Weighed.{most}
use Rattle.std.specs.declared.alloc.Allocator.{Ghosts}
use Rattle.pddl_formula.specs.declared.type_names.Typed.{Typed}
use Rattle.pddl_formula.specs.declared.formula.Formula.{Formula}
use Rattle.pddl_formula.proofs.Depths.{below}
use Rattle.pddl_effect.specs.declared.effect.Effect.{Effect}
use Rattle.pddl_effect.specs.declared.effect.Effect.TheVariants as outcome
use Rattle.pddl_effect.specs.declared.effect.Effect.TheFolds as effect_folds
use Rattle.pddl_effect.proofs.effect.Effect.TheLaws as effects

module _ (T : RattleType) (G : Ghosts T.Denot) (laws : Laws T) where
  abbrev effect_depth : Effect T.Denot → ℕ
  effect_depth e = effects.the_size T G laws e

  pub under_all : (e : Effect T.Denot) (v : Vec (Effect T.Denot) T.Denot) → e ≡ outcome.And v → most effect_depth v.items < effect_depth e
  under_all e v is = below effect_depth (most effect_depth) e (outcome.And v) v.items v.items is refl (grind (effect_folds.the_lemmas, arith))

  pub under_each : (e inner : Effect T.Denot) (v : Vec (Typed T.Denot) T.Denot) (p : Box (Effect T.Denot) T.Denot) → e ≡ outcome.Forall v p → inner ≡ p.value → effect_depth inner < effect_depth e
  under_each e inner v p is inner_is = below effect_depth effect_depth e (outcome.Forall v p) inner p.value is inner_is (grind (effect_folds.the_lemmas, arith))

  pub under_when : (e inner : Effect T.Denot) (f : Formula T.Denot) (p : Box (Effect T.Denot) T.Denot) → e ≡ outcome.When f p → inner ≡ p.value → effect_depth inner < effect_depth e
  under_when e inner f p is inner_is = below effect_depth effect_depth e (outcome.When f p) inner p.value is inner_is (grind (effect_folds.the_lemmas, arith))
