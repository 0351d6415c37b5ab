-- Moments in rising order, and what holds of each of some numbers.
use Rattle.std.proofs.Common.{◌≡◌, ℕ, Bool, true, false, List, [], ◌∷◌, refl, eqb, subst}
use Rattle.std.specs.List.{IsDistinct, AllByRecursion}
use Rattle.std.specs.Ordering.{nat_cmp, eq_by_cmp}
use Rattle.std.proofs.lemmas.Bool.{eqb-true}
use Rattle.std.specs.Cmp.{unsigned_tied}
use Rattle.std.proofs.lemmas.Map.Keys.{IsDistinct-from_sorted}
use Rattle.pddl_happenings.specs.Happenings.{AreMoments}

pub all_weaker : (P Q : ℕ → Type 0) → ((k : ℕ) → P k → Q k) → (ks : List ℕ) → AllByRecursion P ks → AllByRecursion Q ks
all_weaker P Q f [] all = tt
all_weaker P Q f (k ∷ ks) all = (f k all.0, all_weaker P Q f ks all.1)

pub unequal : (h k : ℕ) → (h ≡ k → ⊥) → eqb h k ≡ false
unequal h k off = elim (eqb h k) as (λ b. eqb h k ≡ b → b ≡ false) [ true ↦ λ e. absurd (off (eqb-true h k e)) | false ↦ λ _. refl ] refl

-- moments in rising order are distinct
pub moments_once : (ms moments : List ℕ) → AreMoments ms moments → IsDistinct eqb moments
moments_once ms moments are =
    let ties : ◌≡◌ {A = ℕ → ℕ → Bool} (eq_by_cmp nat_cmp) eqb = λ i q k. unsigned_tied q k i in
    subst (λ e. IsDistinct e moments) ties (IsDistinct-from_sorted nat_cmp moments are.rising)
