-- When a domain and a problem are linked, and which fault is answered where they are not (own).
use Rattle.std.specs.Prelude.{◌≡◌, ◌≤◌, ℕ, List, [], ◌∷◌, ◌++◌, map, Contains}
use Rattle.std.specs.List.{AllByRecursion, flat_map}
use Rattle.pddl_domain.specs.Domains.{DomainValue}
use Rattle.pddl_problem.specs.Problems.{ProblemValue}
use Rattle.pddl_task.specs.Names.{Name}
use Rattle.pddl_task.specs.Places.{Place, domain_places, problem_places}
use Rattle.pddl_task.specs.Settings.{Setting, in_domain, in_problem}
use Rattle.pddl_task.specs.Faults.{domain_names, types_twice, type_cycles, unknown_types, domain_typed, problem_typed, domain_repeats, problem_repeats, object_types, unknown_at, arity_at, misfit_at, contradictions, fraction_at, cost_values, object_fluents, other_metrics, large_goals}

-- a fault: its number and its words, one for each place where it stands
pub record Fault : Type 0 where
  pub number : ℕ
  pub words : List Name

abbrev pub fault : ℕ → List Name → Fault
fault n words = record { number = n; words = words }

-- the rule of a fault: its number, its words in a domain, and those that a problem with the domain adds
pub record FaultRule : Type 0 where
  pub number : ℕ
  pub in_domain : DomainValue → List Name
  pub in_problem : DomainValue → ProblemValue → List Name

-- a rule that a domain alone can break
abbrev pub of_domain : ℕ → (DomainValue → List Name) → FaultRule
of_domain n words = record { number = n; in_domain = words; in_problem = λ d p. [] }

-- a rule that a problem alone can break
abbrev pub of_problem : ℕ → (DomainValue → ProblemValue → List Name) → FaultRule
of_problem n words = record { number = n; in_domain = λ d. []; in_problem = words }

-- a rule that both can break
abbrev pub of_both : ℕ → (DomainValue → List Name) → (DomainValue → ProblemValue → List Name) → FaultRule
of_both n words more = record { number = n; in_domain = words; in_problem = more }

-- a rule on what stands in places, as it is read in a domain and in a problem
abbrev pub of_places : ℕ → (Setting → Place → List Name) → FaultRule
of_places n words_at = of_both n (λ d. flat_map (words_at (in_domain d)) (domain_places d)) (λ d p. flat_map (words_at (in_problem d p)) (problem_places p))

-- the rules, by their numbers
abbrev pub rules : List FaultRule
rules =
    of_problem 20 domain_names ∷
    of_domain 21 types_twice ∷
    of_domain 22 type_cycles ∷
    of_both 23 (λ d. unknown_types d (domain_typed d)) (λ d p. unknown_types d (problem_typed p)) ∷
    of_both 24 domain_repeats problem_repeats ∷
    of_both 25 (λ d. object_types d.constants) (λ d p. object_types p.objects) ∷
    of_places 26 unknown_at ∷
    of_places 27 arity_at ∷
    of_places 28 misfit_at ∷
    of_problem 29 (λ d p. contradictions p) ∷
    of_places 30 (λ s. fraction_at) ∷
    of_problem 31 (λ d p. cost_values p) ∷
    of_domain 32 object_fluents ∷
    of_problem 33 (λ d p. other_metrics p.metric) ∷
    of_problem 35 large_goals ∷ []

-- the fault of a rule in a domain alone
abbrev pub domain_fault : DomainValue → FaultRule → Fault
domain_fault d r = fault r.number (r.in_domain d)

-- the fault of a rule in a domain and a problem
abbrev pub fault_in : DomainValue → ProblemValue → FaultRule → Fault
fault_in d p r = fault r.number (r.in_domain d ++ r.in_problem d p)

-- the faults of a domain alone
abbrev pub domain_faults : DomainValue → List Fault
domain_faults d = map (domain_fault d) rules

-- the faults of a domain and a problem
abbrev pub faults : DomainValue → ProblemValue → List Fault
faults d p = map (fault_in d p) rules

-- none of the faults stands
abbrev pub NoneStands : List Fault → Type 0
NoneStands fs = AllByRecursion (λ f. f.words ≡ []) fs

-- the fault of this number stands, with this word
abbrev pub Stands : List Fault → ℕ → Name → Type 0
Stands fs n word = (f : Fault) × Contains fs f × (f.number ≡ n) × Contains f.words word

-- so it does, and no fault of a lower number stands
pub record IsLowest (fs : List Fault) (n : ℕ) (word : Name) : Type 0 where
  pub stands : Stands fs n word
  pub lowest : (m : ℕ) (other : Name) → Stands fs m other → n ≤ m

-- a domain and a problem are linked where none of their faults stands
abbrev pub IsLinked : DomainValue → ProblemValue → Type 0
IsLinked d p = NoneStands (faults d p)

-- a domain is good alone where none of its faults stands
abbrev pub IsGood : DomainValue → Type 0
IsGood d = NoneStands (domain_faults d)
