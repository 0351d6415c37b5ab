-- The least atom that a set has in common with itself is its least.
use Rattle.std.proofs.Common.{◌≡◌, Bool, true, false, ◌&&◌, Option, None, Some, MatchOption, sym, ◌∙◌, refl}
use Rattle.std.specs.Prelude.{IfSome}
use Rattle.pddl_state.specs.Atoms.{AtomValue}
use Rattle.pddl_state.specs.AtomSets.{AreDisjoint, IsLowerBound, intersection}
use Rattle.pddl_judge.specs.Verdicts.{IsLeast}

twice : (b : Bool) → (b && b) ≡ b
twice true = refl
twice false = refl

pub least_of_itself : (o : Option AtomValue) (t s : AtomValue → Bool) → ((x : AtomValue) → t x ≡ s x) → MatchOption o (AreDisjoint t t) (λ x. intersection t t x ≡ true) → IfSome o (λ x. IsLowerBound x (intersection t t)) → MatchOption o ((x : AtomValue) → s x ≡ false) (λ x. IsLeast x s)
least_of_itself None t s same none least = λ x. sym (same x) ∙ (sym (twice (t x)) ∙ none x)
least_of_itself (Some a) t s same common least = record {
  is_in = sym (same a) ∙ (sym (twice (t a)) ∙ common);
  least = λ y on. least y (twice (t y) ∙ (same y ∙ on));
}
