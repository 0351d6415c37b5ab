-- Faults that stand, and the lowest of them.
use Rattle.std.proofs.Common.{◌≡◌, ◌≤◌, ℕ, zero, suc, List, [], ◌∷◌, ◌++◌, map, refl, sym, ap, ◌∙◌, arith, subst, ◌⊎◌, inl, inr}
use Rattle.std.specs.Prelude.{Contains}
use Rattle.std.proofs.lemmas.Bool.{cases_lt}
use Rattle.std.proofs.lemmas.List.Elements.{Contains-append_left}
use Rattle.pddl_domain.specs.Domains.{DomainValue}
use Rattle.pddl_problem.specs.Problems.{ProblemValue}
use Rattle.pddl_task.specs.Names.{Name}
use Rattle.pddl_task.specs.Linked.{Fault, FaultRule, rules, domain_fault, fault_in, domain_faults, faults, NoneStands, Stands, IsLowest, IsLinked, IsGood}

-- ---- at most one number

pub one_lowest : (fs : List Fault) (n m : ℕ) (v w : Name) → IsLowest fs n v → IsLowest fs m w → n ≡ m
one_lowest fs n m v w a b =
    let low = a.lowest m w b.stands in
    let high = b.lowest n v a.stands in
    omega (arith, low, high)

-- ---- one or none

none_at : (fs : List Fault) (f : Fault) → NoneStands fs → Contains fs f → f.words ≡ []
none_at [] f none c = absurd (omega (arith, c.1))
none_at (g ∷ fs) f none (zero, low, is) = ap (λ h. h.words) (sym is) ∙ none.0
none_at (g ∷ fs) f none (suc i, low, is) = none_at fs f none.1 (i, omega arith, is)

nothing_in : (words : List Name) (w : Name) → words ≡ [] → Contains words w → ⊥
nothing_in [] w h c = omega (arith, c.1)
nothing_in (v ∷ words) w h c = cc

pub none_stand : (fs : List Fault) (n : ℕ) (w : Name) → NoneStands fs → Stands fs n w → ⊥
none_stand fs n w none s = nothing_in s.0.words w (none_at fs s.0 none s.1) s.3

stands_later : (f : Fault) (fs : List Fault) (n : ℕ) (w : Name) → Stands fs n w → Stands (f ∷ fs) n w
stands_later f fs n w s = (s.0, (suc s.1.0, omega (arith, s.1.1), s.1.2), s.2, s.3)

-- the faults that stand in the list are the first and those behind it
stands_cases : (f : Fault) (fs : List Fault) (n : ℕ) (w : Name) → Stands (f ∷ fs) n w → ((f.number ≡ n) × Contains f.words w) ⊎ Stands fs n w
stands_cases f fs n w (g, (zero, low, is), number, has) = inl (ap (λ h. h.number) is ∙ number, subst (λ h. Contains h.words w) (sym is) has)
stands_cases f fs n w (g, (suc i, low, is), number, has) = inr (g, (i, omega arith, is), number, has)

pub lowest_here : (f : Fault) (fs : List Fault) (w : Name) → Contains f.words w → ((m : ℕ) (v : Name) → Stands fs m v → f.number ≤ m) → IsLowest (f ∷ fs) f.number w
lowest_here f fs w has below = record {
  stands = (f, (0, omega arith, refl), refl, has);
  lowest = λ m v s. elim (stands_cases f fs m v s) as (λ _. f.number ≤ m) [ inl here ↦ omega (arith, here.0) | inr later ↦ below m v later ];
}

pub lowest_later : (f : Fault) (fs : List Fault) (n : ℕ) (w : Name) → IsLowest fs n w → ((v : Name) → Contains f.words v → n ≤ f.number) → IsLowest (f ∷ fs) n w
lowest_later f fs n w later above = record {
  stands = stands_later f fs n w later.stands;
  lowest = λ m v s. elim (stands_cases f fs m v s) as (λ _. n ≤ m) [ inl here ↦ let low = above v here.1 in omega (arith, low, here.0) | inr s' ↦ later.lowest m v s' ];
}

-- the fault in front stands
lowest_of_two : (f : Fault) (fs : List Fault) (v : Name) → Contains f.words v → NoneStands fs ⊎ ((n : ℕ) × (w : Name) × IsLowest fs n w) → (n : ℕ) × (w : Name) × IsLowest (f ∷ fs) n w
lowest_of_two f fs v has (inl none) = (f.number, v, lowest_here f fs v has (λ m w s. absurd (none_stand fs m w none s)))
lowest_of_two f fs v has (inr low) =
    elim (cases_lt low.0 f.number) as (λ _. (n : ℕ) × (w : Name) × IsLowest (f ∷ fs) n w) [
      | inl before ↦ (low.0, low.1, lowest_later f fs low.0 low.1 low.2 (λ u c. omega (arith, before)))
      | inr behind ↦ (f.number, v, lowest_here f fs v has (λ m w s. let up = low.2.lowest m w s in omega (arith, up, behind)))
    ]

with_front : (f : Fault) (fs : List Fault) (words : List Name) → f.words ≡ words → NoneStands fs ⊎ ((n : ℕ) × (w : Name) × IsLowest fs n w) → NoneStands (f ∷ fs) ⊎ ((n : ℕ) × (w : Name) × IsLowest (f ∷ fs) n w)
with_front f fs [] is (inl none) = inl (is, none)
with_front f fs [] is (inr low) = inr (low.0, low.1, lowest_later f fs low.0 low.1 low.2 (λ u c. absurd (nothing_in f.words u is c)))
with_front f fs (v ∷ words) is rest = inr (lowest_of_two f fs v (subst (λ ws. Contains ws v) (sym is) (0, omega arith, refl)) rest)

-- either none stands, or one is the lowest
pub lowest_or_none : (fs : List Fault) → NoneStands fs ⊎ ((n : ℕ) × (w : Name) × IsLowest fs n w)
lowest_or_none [] = inl tt
lowest_or_none (f ∷ fs) = with_front f fs f.words refl (lowest_or_none fs)

pub none_is_lowest : (fs : List Fault) (n : ℕ) (w : Name) → NoneStands fs → IsLowest fs n w → ⊥
none_is_lowest fs n w none low = none_stand fs n w none low.stands

-- the first that stands, where numbers rise
pub first_is_lowest : (before : List Fault) (f : Fault) (after : List Fault) (w : Name) → NoneStands before → Contains f.words w
    → ((g : Fault) → Contains after g → f.number ≤ g.number) → IsLowest (before ++ f ∷ after) f.number w
first_is_lowest [] f after w none has above = lowest_here f after w has (λ m v s. let low = above s.0 s.1 in omega (arith, low, s.2))
first_is_lowest (g ∷ before) f after w none has above =
    lowest_later g (before ++ f ∷ after) f.number w (first_is_lowest before f after w none.1 has above) (λ v c. absurd (nothing_in g.words v none.0 c))

-- ---- the faults of a domain among those of a domain and a problem

-- what rules find in a domain alone, they find in it and any problem
stands_with : (d : DomainValue) (p : ProblemValue) (rs : List FaultRule) (n : ℕ) (w : Name) → Stands (map (domain_fault d) rs) n w → Stands (map (fault_in d p) rs) n w
stands_with d p [] n w s = absurd (omega (arith, s.1.1))
stands_with d p (r ∷ rs) n w s =
    elim (stands_cases (domain_fault d r) (map (domain_fault d) rs) n w s) as (λ _. Stands (map (fault_in d p) (r ∷ rs)) n w) [
      | inl here ↦ (fault_in d p r, (0, omega arith, refl), here.0, Contains-append_left (r.in_domain d) (r.in_problem d p) w here.1)
      | inr later ↦ stands_later (fault_in d p r) (map (fault_in d p) rs) n w (stands_with d p rs n w later)
    ]

-- a fault of the domain alone is one of the domain and any problem
pub domain_fault_stands : (d : DomainValue) (p : ProblemValue) (n : ℕ) (w : Name) → Stands (domain_faults d) n w → Stands (faults d p) n w
domain_fault_stands d p = stands_with d p rules

none_from : (fs : List Fault) → ((n : ℕ) (w : Name) → Stands fs n w → ⊥) → NoneStands fs
none_from fs never =
    elim (lowest_or_none fs) as (λ _. NoneStands fs) [ inl none ↦ none | inr low ↦ absurd (never low.0 low.1 low.2.stands) ]

-- so the domain of a linked pair is good alone
pub linked_is_good : (d : DomainValue) (p : ProblemValue) → IsLinked d p → IsGood d
linked_is_good d p linked = none_from (domain_faults d) (λ n w s. none_stand (faults d p) n w linked (domain_fault_stands d p n w s))
