-- Sums and products of sizes can be capped part by part.
use Rattle.std.proofs.Common.{◌≡◌, ℕ, zero, suc, ◌*◌, List, [], ◌∷◌, ap, arith}
use Rattle.pddl_formula.specs.TypedLists.{TypedValue}
use Rattle.pddl_task.specs.Names.{Name}
use Rattle.pddl_task.specs.GroundSize.{capped, quantifier_size}

pub capped_product : (n a b : ℕ) → capped a ≡ capped b → capped (n * a) ≡ capped (n * b)
capped_product zero a b same = omega arith
capped_product (suc n) a b same = grind (arith, same, ap (λ m. capped (suc n * m)))

pub quantified : (count : List Name → ℕ) (xs : List TypedValue) (b n : ℕ) → b ≡ capped n → capped (quantifier_size count xs b) ≡ capped (quantifier_size count xs n)
quantified count [] b n is = omega (arith, is)
quantified count (x ∷ xs) b n is = let part = capped_product (count x.of) _ _ (quantified count xs b n is) in omega (arith, part)
