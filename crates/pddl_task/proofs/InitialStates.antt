-- What holds of `:init` in linked files: no atom holds and fails, and a function of objects has one value.
use Rattle.std.proofs.Common.{◌≡◌, ℕ, Bool, true, false, not, ◌&&◌, ◌||◌, ◌==◌, List, [], ◌∷◌, ◌++◌, refl, sym, ap, ◌∙◌, arith, bytes_eq, ◌⊎◌, inl, inr}
use Rattle.std.specs.Prelude.{Contains}
use Rattle.std.specs.List.{list_any}
use Rattle.std.specs.Cmp.Lexicographic.{pointwise}
use Rattle.std.proofs.lemmas.List.Elements.{Contains-append_left, Contains-push}
use Rattle.pddl_domain.specs.Domains.{DomainValue}
use Rattle.pddl_problem.specs.Inits.{GroundValue, InitValue, holds, fails, value}
use Rattle.pddl_problem.specs.Problems.{ProblemValue}
use Rattle.pddl_task.specs.Names.{Name, word_if}
use Rattle.pddl_task.specs.Places.{total_cost}
use Rattle.pddl_task.specs.Faults.{same_ground, init_name, contradicts, clashing, revalues, starts_above_zero, wrong_values}
use Rattle.pddl_task.specs.Linked.{IsLinked}
use Rattle.pddl_task.proofs.Lists.{any_none, both_nil, and_both, none_left, nil_parts, has_cases, has_none, same_bytes}
use Rattle.pddl_task.proofs.DistinctNames.{word_none}

-- ---- items that clash with none before them

module _ (clash : InitValue → InitValue → Bool) where
  clash_free : (seen is : List InitValue) → clashing clash seen is ≡ [] → (i j : InitValue) → Contains seen i → Contains is j → clash j i ≡ false
  clash_free seen [] h i j before has = absurd (has_none j has)
  clash_free seen (k ∷ is) h i j before has =
      let parts = nil_parts (word_if (list_any (clash k) seen) (init_name k)) (clashing clash (seen ++ k ∷ []) is) h in
      elim (has_cases k is j has) as (λ _. clash j i ≡ false) [
        | inl same ↦ ap (λ l. clash l i) (sym same) ∙ any_none (clash k) seen i (word_none (list_any (clash k) seen) (init_name k) parts.0) before
        | inr later ↦ clash_free (seen ++ k ∷ []) is parts.1 i j (Contains-append_left seen (k ∷ []) i before) later
      ]

  -- of two items, they are one, or one of them does not clash with the other
  pub pair_free : (seen is : List InitValue) → clashing clash seen is ≡ [] → (i j : InitValue) → Contains is i → Contains is j → (i ≡ j) ⊎ ((clash i j ≡ false) ⊎ (clash j i ≡ false))
  pair_free seen [] h i j first second = absurd (has_none i first)
  pair_free seen (k ∷ is) h i j first second =
      let rest = (nil_parts (word_if (list_any (clash k) seen) (init_name k)) (clashing clash (seen ++ k ∷ []) is) h).1 in
      elim (has_cases k is i first) as (λ _. (i ≡ j) ⊎ ((clash i j ≡ false) ⊎ (clash j i ≡ false))) [
        | inl here ↦ elim (has_cases k is j second) as (λ _. (i ≡ j) ⊎ ((clash i j ≡ false) ⊎ (clash j i ≡ false))) [
          | inl there ↦ inl (sym here ∙ there)
          | inr later ↦ inr (inr (ap (clash j) (sym here) ∙ clash_free (seen ++ k ∷ []) is rest k j (Contains-push seen k) later))
        ]
        | inr after ↦ elim (has_cases k is j second) as (λ _. (i ≡ j) ⊎ ((clash i j ≡ false) ⊎ (clash j i ≡ false))) [
          | inl there ↦ inr (inl (ap (clash i) (sym there) ∙ clash_free (seen ++ k ∷ []) is rest k i (Contains-push seen k) after))
          | inr later ↦ pair_free (seen ++ k ∷ []) is rest i j after later
        ]
      ]

-- ---- facts

same_names_self : (ns : List Name) → pointwise bytes_eq ns ns ≡ true
same_names_self [] = refl
same_names_self (n ∷ ns) = and_both (bytes_eq n n) (pointwise bytes_eq ns ns) (same_bytes n n refl) (same_names_self ns)

same_ground_self : (f : GroundValue) → same_ground f f ≡ true
same_ground_self f = and_both (bytes_eq f.name f.name) (pointwise bytes_eq f.objects f.objects) (same_bytes f.name f.name refl) (same_names_self f.objects)

not_both : (b : Bool) → b ≡ true → b ≡ false → ⊥
not_both true h k = cc
not_both false h k = cc

is_holds : InitValue → Bool
is_holds (holds f) = true
is_holds (fails f) = false
is_holds (value f n) = false

other_kind : (f g : GroundValue) → holds f ≡ fails g → ⊥
unfolding is_holds
other_kind f g h = not_both (is_holds (fails g)) (sym (ap is_holds h)) refl

pub no_fact_fails : (d : DomainValue) (p : ProblemValue) → IsLinked d p → (f : GroundValue) → Contains p.init (holds f) → Contains p.init (fails f) → ⊥
no_fact_fails d p linked f first second =
    elim (pair_free contradicts [] p.init linked.1.1.1.1.1.1.1.1.1.0 (holds f) (fails f) first second) as (λ _. ⊥) [
      | inl same ↦ other_kind f f same
      | inr apart ↦ elim apart as (λ _. ⊥) [ inl here ↦ not_both (same_ground f f) (same_ground_self f) here | inr there ↦ not_both (same_ground f f) (same_ground_self f) there ]
    ]

-- ---- values

no_word_of_two : (a b : Bool) (w : Name) → word_if (a || b) w ≡ [] → word_if b w ≡ []
no_word_of_two true b w h = cc
no_word_of_two false b w h = h

values_clash_free : (seen is : List InitValue) → wrong_values seen is ≡ [] → clashing revalues seen is ≡ []
values_clash_free seen [] h = refl
values_clash_free seen (i ∷ is) h =
    let parts = nil_parts (word_if (starts_above_zero i || list_any (revalues i) seen) (init_name i)) (wrong_values (seen ++ i ∷ []) is) h in
    both_nil (word_if (list_any (revalues i) seen) (init_name i)) (clashing revalues (seen ++ i ∷ []) is)
    (no_word_of_two (starts_above_zero i) (list_any (revalues i) seen) (init_name i) parts.0) (values_clash_free (seen ++ i ∷ []) is parts.1)

none_above_zero : (seen is : List InitValue) → wrong_values seen is ≡ [] → (i : InitValue) → Contains is i → starts_above_zero i ≡ false
none_above_zero seen [] h i has = absurd (has_none i has)
none_above_zero seen (k ∷ is) h i has =
    let parts = nil_parts (word_if (starts_above_zero k || list_any (revalues k) seen) (init_name k)) (wrong_values (seen ++ k ∷ []) is) h in
    elim (has_cases k is i has) as (λ _. starts_above_zero i ≡ false) [
      | inl same ↦ ap starts_above_zero (sym same) ∙ none_left (starts_above_zero k) (list_any (revalues k) seen) (word_none (starts_above_zero k || list_any (revalues k) seen) (init_name k) parts.0)
      | inr later ↦ none_above_zero (seen ++ k ∷ []) is parts.1 i later
    ]

equal_where : (b : Bool) (m n : ℕ) → b ≡ true → (b && not (m == n)) ≡ false → m ≡ n
equal_where b m n h k = grind arith

number_in : InitValue → ℕ
number_in (holds f) = 0
number_in (fails f) = 0
number_in (value f n) = n

one_number : (f g : GroundValue) (m n : ℕ) → value f m ≡ value g n → m ≡ n
unfolding number_in
one_number f g m n h = ap number_in h

pub costs_are_single : (d : DomainValue) (p : ProblemValue) → IsLinked d p → (f : GroundValue) (m n : ℕ) → Contains p.init (value f m) → Contains p.init (value f n) → m ≡ n
costs_are_single d p linked f m n first second =
    elim (pair_free revalues [] p.init (values_clash_free [] p.init linked.1.1.1.1.1.1.1.1.1.1.1.0) (value f m) (value f n) first second) as (λ _. m ≡ n) [
      | inl same ↦ one_number f f m n same
      | inr apart ↦ elim apart as (λ _. m ≡ n) [ inl here ↦ equal_where (same_ground f f) m n (same_ground_self f) here | inr there ↦ sym (equal_where (same_ground f f) n m (same_ground_self f) there) ]
    ]

pub total_starts_at_zero : (d : DomainValue) (p : ProblemValue) → IsLinked d p → (f : GroundValue) (n : ℕ) → f.name ≡ total_cost → Contains p.init (value f n) → n ≡ 0
total_starts_at_zero d p linked f n named has =
    equal_where (bytes_eq f.name total_cost) n 0 (same_bytes f.name total_cost named) (none_above_zero [] p.init linked.1.1.1.1.1.1.1.1.1.1.1.0 (value f n) has)
