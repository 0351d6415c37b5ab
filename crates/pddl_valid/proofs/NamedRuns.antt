-- Serial runs of steps by numbers are those of the same steps by names.
use Rattle.std.proofs.Common.{◌≡◌, ℕ, zero, suc, Bool, List, [], ◌∷◌, sym, ◌∙◌, subst}
use Rattle.pddl_happenings.specs.Accepted.{after}
use Rattle.pddl_happenings.specs.NamedSteps.{DoAsNamed, by_name}
use Rattle.pddl_happenings.specs.Serialisations.{RunsSerially, FailsAt}
use Rattle.pddl_happenings.specs.Steps.{Step}
use Rattle.pddl_happenings.proofs.NamedRuns.{end_alike}

module _ {A B : Type 0} (number : B → A) (p : ℕ → Step A) (q : ℕ → Step B) (same : DoAsNamed number p q) where
  next : (s : A → Bool) (k : ℕ) → by_name number (after p s (k ∷ [])) ≡ after q (by_name number s) (k ∷ [])
  next s k = end_alike number p q same s ((k ∷ []) ∷ [])

  pub runs_named : (s : A → Bool) (order : List ℕ) → RunsSerially p s order → RunsSerially q (by_name number s) order
  runs_named s [] runs = tt
  runs_named s (k ∷ ks) runs = (sym ((same k).ready s) ∙ runs.0, subst (λ t. RunsSerially q t ks) (next s k) (runs_named (after p s (k ∷ [])) ks runs.1))

  pub fails_named : (s : A → Bool) (order : List ℕ) (place : ℕ) → FailsAt p s order place → FailsAt q (by_name number s) order place
  fails_named s [] place fails = fails
  fails_named s (k ∷ ks) zero fails = sym ((same k).ready s) ∙ fails
  fails_named s (k ∷ ks) (suc place) fails =
      (sym ((same k).ready s) ∙ fails.0, subst (λ t. FailsAt q t ks place) (next s k) (fails_named (after p s (k ∷ [])) ks place fails.1))
