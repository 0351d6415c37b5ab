-- What holds of values that were both made.
use Rattle.std.proofs.Common.{◌≡◌, sym, subst}
use Rattle.std.specs.Prelude.{Result, Ok, Err, IfOk}
use Rattle.pddl_build.specs.Results.{both_made}

pub first_of_both : {T U E : Type 0} (first : Result T E) (second : Result U E) (P : T → Type 0) → IfOk first P → IfOk (both_made first second) (λ x. P x.0)
first_of_both (Ok y) (Ok z) P holds = holds
first_of_both (Ok y) (Err e) P holds = tt
first_of_both (Err e) second P holds = tt

pub second_of_both : {T U E : Type 0} (first : Result T E) (second : Result U E) (P : U → Type 0) → IfOk second P → IfOk (both_made first second) (λ x. P x.1)
second_of_both (Ok y) (Ok z) P holds = holds
second_of_both (Ok y) (Err e) P holds = tt
second_of_both (Err e) second P holds = tt

-- what holds of the first where it was made holds of it, and of the second likewise
pub first_made : {T U E : Type 0} (first : Result T E) (second : Result U E) (x : T × U) (P : T → Type 0) → Ok x ≡ both_made first second → IfOk first P → P x.0
first_made first second x P is holds = subst (λ r. IfOk r (λ z. P z.0)) (sym is) (first_of_both first second P holds)

pub second_made : {T U E : Type 0} (first : Result T E) (second : Result U E) (x : T × U) (P : U → Type 0) → Ok x ≡ both_made first second → IfOk second P → P x.1
second_made first second x P is holds = subst (λ r. IfOk r (λ z. P z.1)) (sym is) (second_of_both first second P holds)
