-- Names and their numbers, where the tables have the names.
use Rattle.std.proofs.Common.{◌≡◌, ◌+◌, true, false, not, ◌||◌, cond, List, [], ◌∷◌, refl, sym, ap, ◌∙◌, arith, eqb, eq-eqb, bytes_eq}
use Rattle.std.proofs.lemmas.Bool.{eqb-true}
use Rattle.pddl_task.specs.Names.{Name, is_in, number_in}
use Rattle.pddl_task.proofs.Lists.{bytes_same, same_bytes}
use Rattle.pddl_task.proofs.Numbers.{both_ways}

-- a name of the table has a number of its own
pub same_number : (names : List Name) (n m : Name) → is_in names n ≡ true → number_in names m ≡ number_in names n → m ≡ n
same_number [] n m h e = cc
same_number (x ∷ xs) n m h e =
    elim (bytes_eq n x) as (λ b. bytes_eq n x ≡ b → (b || is_in xs n) ≡ true → number_in (x ∷ xs) m ≡ cond (not b) (1 + number_in xs n) 0 → m ≡ n) [
      | true ↦ λ p _ q. elim (bytes_eq m x) as (λ b. bytes_eq m x ≡ b → cond (not b) (1 + number_in xs m) 0 ≡ 0 → m ≡ n) [
        | true ↦ λ r _. bytes_same m x r ∙ sym (bytes_same n x p)
        | false ↦ λ _ z. absurd (omega arith)
      ] refl q
      | false ↦ λ _ k q. elim (bytes_eq m x) as (λ b. bytes_eq m x ≡ b → cond (not b) (1 + number_in xs m) 0 ≡ 1 + number_in xs n → m ≡ n) [
        | true ↦ λ _ z. absurd (omega arith)
        | false ↦ λ _ z. same_number xs n m k (omega arith)
      ] refl q
    ] refl h e

-- objects that are known are told apart by their numbers
pub apart : (names : List Name) (a b : Name) → is_in names b ≡ true → eqb (number_in names a) (number_in names b) ≡ bytes_eq a b
apart names a b known = both_ways _ _
    (λ e. same_bytes a b (same_number names b a known (eqb-true (number_in names a) (number_in names b) e)))
    (λ e. eq-eqb (number_in names a) (number_in names b) (ap (number_in names) (bytes_same a b e)))

pub apart_left : (names : List Name) (a b : Name) → is_in names a ≡ true → eqb (number_in names a) (number_in names b) ≡ bytes_eq a b
apart_left names a b known = both_ways _ _
    (λ e. same_bytes a b (sym (same_number names a b known (sym (eqb-true (number_in names a) (number_in names b) e)))))
    (λ e. eq-eqb (number_in names a) (number_in names b) (ap (number_in names) (bytes_same a b e)))
