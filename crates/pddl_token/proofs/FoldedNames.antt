-- Names are in lower case.
use Rattle.std.proofs.Common.{◌≡◌, ℕ, true, List, [], ◌∷◌, refl, ap, ◌∙◌, arith}
use Rattle.std.specs.Prelude.{Some}
use Rattle.std.specs.List.{list_all}
use Rattle.std.specs.Char.{to_ascii_lowercase}
use Rattle.std.proofs.lemmas.Bool.Decides.{nat_tests}
use Rattle.pddl_token.proofs.Tests.{both_true}
use Rattle.pddl_token.specs.Names.{folded, is_first_byte, is_later_byte, is_name, name_of}

later_folded : (b : ℕ) → is_later_byte b ≡ true → to_ascii_lowercase b ≡ b
later_folded b e = grind (arith, nat_tests, e)

first_folded : (b : ℕ) → is_first_byte b ≡ true → to_ascii_lowercase b ≡ b
first_folded b e = grind (arith, nat_tests, e)

all_folded : (bytes : List ℕ) → list_all is_later_byte bytes ≡ true → folded bytes ≡ bytes
all_folded [] e = refl
all_folded (b ∷ bytes) e =
    let parts = both_true (is_later_byte b) (list_all is_later_byte bytes) e in
    ap (λ (x : ℕ). x ∷ folded bytes) (later_folded b parts.0) ∙ ap (λ (t : List ℕ). b ∷ t) (all_folded bytes parts.1)

pub name_folded : (name : List ℕ) → is_name name ≡ true → folded name ≡ name
name_folded [] e = refl
name_folded (b ∷ bytes) e =
    let parts = both_true (is_first_byte b) (list_all is_later_byte bytes) e in
    ap (λ (x : ℕ). x ∷ folded bytes) (first_folded b parts.0) ∙ ap (λ (t : List ℕ). b ∷ t) (all_folded bytes parts.1)

-- a name spells itself
pub name_of_name : (name : List ℕ) → is_name name ≡ true → name_of name ≡ Some name
name_of_name name e = rw (name_folded name e, e) refl
