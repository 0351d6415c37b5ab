-- The canonical tree of a problem spells it.
use Rattle.std.proofs.Common.{◌≡◌, ℕ, true, ◌&&◌, List, [], ◌∷◌, ◌++◌, map, refl, sym, ap, ◌∙◌, subst, codes, inl, inr, append-nil, arith}
use Rattle.std.specs.Prelude.{nat_le, Option, Some, None, option_to_list}
use Rattle.std.specs.List.{flat_map, list_all}
use Rattle.std.proofs.lemmas.Bool.{leb-true}
use Rattle.pddl_token.specs.Number.{largest}
use Rattle.pddl_token.specs.Trees.{Tree, Placed, erased}
use Rattle.pddl_token.proofs.NumberTexts.{reads_as_it}
use Rattle.pddl_token.specs.Names.{is_name}
use Rattle.pddl_token.specs.TreeWords.{list, IsWord, SpellsName, Each}
use Rattle.pddl_formula.specs.Reserved.{is_predicate}
use Rattle.pddl_formula.specs.TypedLists.{TypedValue}
use Rattle.pddl_formula.specs.Formulas.{FormulaValue}
use Rattle.pddl_sections.specs.Sections.{AnyOf, AllOf, Fits}
use Rattle.pddl_sections.specs.Files.{IsTitle}
use Rattle.pddl_file.specs.declared.keyword.SectionKeyword.{SectionKeyword}
use Rattle.pddl_file.specs.declared.keyword.SectionKeyword.TheVariants as keys
use Rattle.pddl_file.specs.Keywords.{IsHeaded}
use Rattle.pddl_file.specs.Flags.{IsFlag}
use Rattle.pddl_problem.specs.declared.problem.Direction.{Direction}
use Rattle.pddl_problem.specs.declared.problem.Direction.TheVariants as directions
use Rattle.pddl_problem.specs.Inits.{GroundValue, InitValue, holds, fails, value, MetricValue, IsFact, IsGroundFunction, IsInit, direction_word}
use Rattle.pddl_problem.specs.Problems.{ProblemValue}
use Rattle.pddl_problem_reader.specs.ProblemTexts.{Part, domain, requirements, objects, init, goal, metric, domains_in, requirements_in, objects_in, init_in, goals_in, metrics_in, part_key, IsPart, problem_rules, required, AreProblem}
use Rattle.pddl_file_layout.specs.FormulaValues.{is_typed, is_formula}
use Rattle.pddl_file_layout.specs.FormulaTrees.{name_tree, number_tree, equal_sign, typed_trees, formula_tree}
use Rattle.pddl_file_layout.specs.Inner.PartLists.{part_list}
use Rattle.pddl_file_layout.specs.DomainLayout.{keyword_tree, flag_tree, section_trees}
use Rattle.pddl_file_layout.specs.ProblemLayout.{is_fact, is_ground_function, is_init, is_metric, is_problem, ground_tree, init_tree, metric_trees, problem_sections, problem_tree}
use Rattle.pddl_file_layout.proofs.Assembling.{each_append, adds_nothing, adds_its_own, Rising, never_repeats, rising_part, opened_as}
use Rattle.pddl_file_layout.proofs.FormulaTreeLaws.{and_parts, spells_name, each_of, spells_predicate, spells_names, spells_formula}
use Rattle.pddl_file_layout.proofs.DomainTreeLaws.{spells_flag}

-- ---- items of `:init`

spells_fact : (f : GroundValue) → is_fact f ≡ true → IsFact f (ground_tree f)
spells_fact f h =
    let p = and_parts (is_predicate f.name) (list_all is_name f.objects) h in
    (name_tree f.name, map name_tree f.objects, refl, spells_predicate f.name p.0, each_of is_name SpellsName name_tree spells_name f.objects p.1)

spells_ground : (f : GroundValue) → is_ground_function f ≡ true → IsGroundFunction f (ground_tree f)
spells_ground f h =
    let p = and_parts (is_name f.name) (list_all is_name f.objects) h in
    inr (name_tree f.name, map name_tree f.objects, refl, spells_name f.name p.0, each_of is_name SpellsName name_tree spells_name f.objects p.1)

spells_init : (x : InitValue) → is_init x ≡ true → IsInit x (init_tree x)
spells_init (holds f) h = spells_fact f h
spells_init (fails f) h = (name_tree (codes "not"), ground_tree f, refl, (refl, refl), spells_fact f h)
spells_init (value f n) h =
    let p = and_parts (is_ground_function f) (nat_le n largest) h in
    (equal_sign, ground_tree f, number_tree n, refl, refl, spells_ground f p.0, (refl, (reads_as_it n (leb-true n largest p.1)).1))

direction_spelled : (d : Direction) → IsWord (direction_word d) (name_tree (direction_word d))
direction_spelled directions.Minimize = (refl, refl)
direction_spelled directions.Maximize = (refl, refl)

-- ---- sections

abbrev metric_parts : Option MetricValue → List Part
metric_parts None = []
metric_parts (Some m) = metric m ∷ []

-- the sections of a problem in their canonical order
abbrev parts_of : ProblemValue → List Part
parts_of p =
    domain p.domain ∷ (part_list requirements p.requirements ++ (part_list objects p.objects ++ (init p.init ∷ goal p.goal ∷ metric_parts p.metric)))

requirements_fit : (flags : List (List ℕ)) → list_all is_name flags ≡ true → Each IsPart (part_list requirements flags) (section_trees (codes ":requirements") (map flag_tree flags))
requirements_fit [] h = tt
requirements_fit (n ∷ ns) h = ((map flag_tree (n ∷ ns), (keyword_tree (codes ":requirements"), refl, (refl, refl)), each_of is_name IsFlag flag_tree spells_flag (n ∷ ns) h), tt)

objects_fit : (xs : List TypedValue) → list_all is_typed xs ≡ true → Each IsPart (part_list objects xs) (section_trees (codes ":objects") (typed_trees name_tree xs))
objects_fit [] h = tt
objects_fit (x ∷ xs) h = ((typed_trees name_tree (x ∷ xs), (keyword_tree (codes ":objects"), refl, (refl, refl)), spells_names (x ∷ xs) h), tt)

metric_fits : (m : Option MetricValue) → is_metric m ≡ true → Each IsPart (metric_parts m) (metric_trees m)
metric_fits None h = tt
metric_fits (Some m) h = (
  (
    name_tree (direction_word m.direction) ∷ ground_tree m.function ∷ [],
    (keyword_tree (codes ":metric"), refl, (refl, refl)),
    (name_tree (direction_word m.direction), ground_tree m.function, refl, direction_spelled m.direction, spells_ground m.function h),
  ),
  tt,
)

parts_keyed : (parts : List Part) (ts : List Tree) → Each IsPart parts ts → Each IsHeaded (map part_key parts) ts
parts_keyed [] [] each = tt
parts_keyed [] (t ∷ ts) each = absurd each
parts_keyed (x ∷ parts) [] each = absurd each
parts_keyed (x ∷ parts) (t ∷ ts) ((us, section, content), rest) = ((us, section), parts_keyed parts ts rest)

-- the canonical order
abbrev rank : SectionKeyword → ℕ
rank keys.Domain = 0
rank keys.Requirements = 1
rank keys.Objects = 2
rank keys.Init = 3
rank keys.Goal = 4
rank keys.Metric = 5
rank key = 6

metric_rises : (m : Option MetricValue) → Rising rank 5 (map part_key (metric_parts m))
metric_rises None = tt
metric_rises (Some m) = (omega arith, inl (tt, tt))

parts_rise : (p : ProblemValue) → Rising rank 0 (map part_key (parts_of p))
parts_rise p = (
  omega arith,
  inl (
    tt,
    rising_part rank part_key requirements keys.Requirements (λ xs. refl) tt 1 p.requirements _ (omega arith)
        (rising_part rank part_key objects keys.Objects (λ xs. refl) tt 2 p.objects _ (omega arith)
        (omega arith, inl (tt, (omega arith, inl (tt, metric_rises p.metric))))),
  ),
)

-- the parts of a problem that the program can hold
pub record IsGood (p : ProblemValue) : Type 0 where
  pub named : is_name p.name ≡ true
  pub of_domain : is_name p.domain ≡ true
  pub flags : list_all is_name p.requirements ≡ true
  pub objects : list_all is_typed p.objects ≡ true
  pub inits : list_all is_init p.init ≡ true
  pub goal : is_formula p.goal ≡ true
  pub metric : is_metric p.metric ≡ true

pub good_parts : (p : ProblemValue) → is_problem p ≡ true → IsGood p
good_parts p h =
    let a = and_parts ((is_name p.name && is_name p.domain) && (list_all is_name p.requirements && list_all is_typed p.objects)) ((list_all is_init p.init && is_formula p.goal) && is_metric p.metric) h in
    let b = and_parts (is_name p.name && is_name p.domain) (list_all is_name p.requirements && list_all is_typed p.objects) a.0 in
    let c = and_parts (is_name p.name) (is_name p.domain) b.0 in
    let d = and_parts (list_all is_name p.requirements) (list_all is_typed p.objects) b.1 in
    let e = and_parts (list_all is_init p.init && is_formula p.goal) (is_metric p.metric) a.1 in
    let f = and_parts (list_all is_init p.init) (is_formula p.goal) e.0 in
    record { named = c.0; of_domain = c.1; flags = d.0; objects = d.1; inits = f.0; goal = f.1; metric = e.1 }

parts_fit : (p : ProblemValue) → IsGood p → Each IsPart (parts_of p) (problem_sections p)
parts_fit p good = (
  (name_tree p.domain ∷ [], (keyword_tree (codes ":domain"), refl, (refl, refl)), (name_tree p.domain, refl, spells_name p.domain good.of_domain)),
  each_append IsPart (part_list requirements p.requirements) _ (section_trees (codes ":requirements") (map flag_tree p.requirements)) _ (requirements_fit p.requirements good.flags)
      (each_append IsPart (part_list objects p.objects) _ (section_trees (codes ":objects") (typed_trees name_tree p.objects)) _ (objects_fit p.objects good.objects) (
        (map init_tree p.init, (keyword_tree (codes ":init"), refl, (refl, refl)), each_of is_init IsInit init_tree spells_init p.init good.inits),
        (
          (formula_tree p.goal ∷ [], (keyword_tree (codes ":goal"), refl, (refl, refl)), (formula_tree p.goal, refl, inl (spells_formula p.goal good.goal))),
          metric_fits p.metric good.metric,
        ),
      )),
)

sections_fit : (p : ProblemValue) → IsGood p → Fits problem_rules (parts_of p) (problem_sections p)
sections_fit p good =
    let each = parts_fit p good in
    let keyed = parts_keyed (parts_of p) (problem_sections p) each in
    record {
      each = each;
      once = λ before t after e repeats. never_repeats rank 0 (map part_key (parts_of p)) (problem_sections p) keyed (parts_rise p) before t after e repeats.0 repeats.1 repeats.2 repeats.3;
    }

-- ---- the whole

any_right : {A : Type 0} (Holds : A → Type 0) (xs ys : List A) → AnyOf Holds ys → AnyOf Holds (xs ++ ys)
any_right Holds [] ys any = any
any_right Holds (x ∷ xs) ys any = inr (any_right Holds xs ys any)

-- behind the sections that may be absent
abbrev last_sections : ProblemValue → List Tree
last_sections p = list (keyword_tree (codes ":init") ∷ map init_tree p.init) ∷ list (keyword_tree (codes ":goal") ∷ formula_tree p.goal ∷ []) ∷ metric_trees p.metric

in_last : (p : ProblemValue) (k : SectionKeyword) → AnyOf (IsHeaded k) (last_sections p) → AnyOf (IsHeaded k) (problem_sections p)
in_last p k any =
    inr (any_right (IsHeaded k) (section_trees (codes ":requirements") (map flag_tree p.requirements)) _
    (any_right (IsHeaded k) (section_trees (codes ":objects") (typed_trees name_tree p.objects)) (last_sections p) any))

all_stand : (p : ProblemValue) → AllOf (λ k. AnyOf (IsHeaded k) (problem_sections p)) required
all_stand p = (
  inl (name_tree p.domain ∷ [], (keyword_tree (codes ":domain"), refl, (refl, refl))),
  (
    in_last p keys.Init (inl (map init_tree p.init, (keyword_tree (codes ":init"), refl, (refl, refl)))),
    (in_last p keys.Goal (inr (inl (formula_tree p.goal ∷ [], (keyword_tree (codes ":goal"), refl, (refl, refl))))), tt),
  ),
)

metric_adds_nothing : {X : Type 0} (add : Part → List X) → ((m : MetricValue) → add (metric m) ≡ []) → (m : Option MetricValue) → flat_map add (metric_parts m) ≡ []
metric_adds_nothing add none None = refl
metric_adds_nothing {X = X} add none (Some m) = ap (λ (xs : List X). xs ++ []) (none m)

metric_adds : (m : Option MetricValue) → flat_map metrics_in (metric_parts m) ≡ option_to_list m
metric_adds None = refl
metric_adds (Some m) = refl

title_is : (p : ProblemValue) → is_name p.name ≡ true → (t : Tree) → t ≡ list (name_tree (codes "problem") ∷ name_tree p.name ∷ []) → IsTitle (codes "problem") p.name t
title_is p h t e = (name_tree (codes "problem"), name_tree p.name, e, (refl, refl), spells_name p.name h)

-- Items that are the canonical tree of a problem spell it.
pub problem_spelled : (p : ProblemValue) (items : List Placed) → IsGood p → map erased items ≡ problem_tree p ∷ [] → AreProblem p items
problem_spelled p items good e =
    let title : Tree = list (name_tree (codes "problem") ∷ name_tree p.name ∷ []) in
    let (sections, opened, trees) = opened_as (codes "problem") p.name (problem_sections p) title items e (title_is p good.named) in
    record {
      parts = parts_of p;
      file = record {
        sections = sections;
        opened = opened;
        fits = subst (Fits problem_rules (parts_of p)) (sym trees) (sections_fit p good);
        complete = subst (λ ts. AllOf (λ k. AnyOf (IsHeaded k) ts) required) (sym trees) (all_stand p);
      };
      domain_is = ap (λ (xs : List (List ℕ)). p.domain ∷ xs)
          (adds_nothing domains_in requirements (λ xs. refl) p.requirements _ ∙ (adds_nothing domains_in objects (λ xs. refl) p.objects _ ∙ metric_adds_nothing domains_in (λ m. refl) p.metric));
      requirements_are = sym (adds_its_own requirements_in requirements (λ xs. refl) p.requirements _
          ∙ (ap (λ (xs : List (List ℕ)). p.requirements ++ xs) (adds_nothing requirements_in objects (λ xs. refl) p.objects _ ∙ metric_adds_nothing requirements_in (λ m. refl) p.metric)
          ∙ append-nil p.requirements));
      objects_are = sym (adds_nothing objects_in requirements (λ xs. refl) p.requirements _ ∙ (adds_its_own objects_in objects (λ xs. refl) p.objects _
          ∙ (ap (λ (xs : List TypedValue). p.objects ++ xs) (metric_adds_nothing objects_in (λ m. refl) p.metric) ∙ append-nil p.objects)));
      init_is = sym (adds_nothing init_in requirements (λ xs. refl) p.requirements _ ∙ (adds_nothing init_in objects (λ xs. refl) p.objects _
          ∙ (ap (λ (xs : List InitValue). p.init ++ xs) (metric_adds_nothing init_in (λ m. refl) p.metric) ∙ append-nil p.init)));
      goal_is = adds_nothing goals_in requirements (λ xs. refl) p.requirements _ ∙ (adds_nothing goals_in objects (λ xs. refl) p.objects _
          ∙ ap (λ (xs : List FormulaValue). p.goal ∷ xs) (metric_adds_nothing goals_in (λ m. refl) p.metric));
      metric_is = adds_nothing metrics_in requirements (λ xs. refl) p.requirements _ ∙ (adds_nothing metrics_in objects (λ xs. refl) p.objects _ ∙ metric_adds p.metric);
    }
