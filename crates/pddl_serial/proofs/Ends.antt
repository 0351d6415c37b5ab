-- A list of steps runs to its end or fails at one place.
use Rattle.std.proofs.Common.{◌≡◌, ℕ, zero, suc, Bool, List, [], ◌∷◌, refl, sym, ap, ◌∙◌}
use Rattle.std.proofs.lemmas.Bool.{true≢false}
use Rattle.pddl_happenings.specs.Accepted.{after}
use Rattle.pddl_happenings.specs.Serialisations.{FailsAt, RunsSerially}
use Rattle.pddl_happenings.specs.Steps.{Step}

pub runs_or_fails : {A : Type 0} (p : ℕ → Step A) (s : A → Bool) (order : List ℕ) (place : ℕ) → RunsSerially p s order → FailsAt p s order place → ⊥
runs_or_fails p s [] place runs fails = fails
runs_or_fails p s (k ∷ ks) zero runs fails = true≢false (sym runs.0 ∙ fails)
runs_or_fails p s (k ∷ ks) (suc place) runs fails = runs_or_fails p (after p s (k ∷ [])) ks place runs.1 fails.1

pub one_place : {A : Type 0} (p : ℕ → Step A) (s : A → Bool) (order : List ℕ) (one other : ℕ) → FailsAt p s order one → FailsAt p s order other → one ≡ other
one_place p s [] one other f g = absurd f
one_place p s (k ∷ ks) zero zero f g = refl
one_place p s (k ∷ ks) zero (suc other) f g = absurd (true≢false (sym g.0 ∙ f))
one_place p s (k ∷ ks) (suc one) zero f g = absurd (true≢false (sym f.0 ∙ g))
one_place p s (k ∷ ks) (suc one) (suc other) f g = ap suc (one_place p (after p s (k ∷ [])) ks one other f.1 g.1)
