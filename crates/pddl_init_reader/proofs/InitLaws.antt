-- Items of `:init` and metrics are read as they are spelled.
use Rattle.std.proofs.Common.{◌≡◌, ℕ, List, [], ◌∷◌, map, refl, ap, ◌∙◌, subst, codes, inl, inr}
use Rattle.std.specs.Prelude.{Some, option_map}
use Rattle.pddl_token.specs.Trees.{Tree, leaf, node, list_of}
use Rattle.pddl_token.specs.TreeWords.{list, SpellsName, IsWord, Each}
use Rattle.pddl_items.specs.Inner.TreeReading.{name_at, is_word_at, all_of}
use Rattle.pddl_token.proofs.Options.{map_some, bind_some, test_cases}
use Rattle.pddl_items.proofs.TreeLists.{list_of_trees_of, trees_of_list_of}
use Rattle.pddl_items.proofs.Readers.{Reads, name_reads, word_sound, each_sound, each_complete}
use Rattle.pddl_formula_reader.specs.declared.head.Head.{Head}
use Rattle.pddl_formula_reader.specs.declared.head.Head.TheVariants as heads
use Rattle.pddl_formula.specs.Terms.{IsPredicate}
use Rattle.pddl_formula_reader.specs.Inner.Reading.{predicate_at, head_at, only}
use Rattle.pddl_formula_reader.proofs.TermLaws.{predicate_reads}
use Rattle.pddl_formula_reader.proofs.HeadLaws.{HeadIs, head_sound, head_of_word, head_of_equal, head_of_other}
use Rattle.pddl_formula_reader.proofs.FormulaLaws.{only_sound, reads_each}
use Rattle.pddl_effect_reader.specs.Inner.EffectReading.{call_at, number_at}
use Rattle.pddl_effect_reader.proofs.AmountLaws.{call_sound, call_complete, number_reads}
use Rattle.pddl_problem.specs.declared.problem.Direction.{Direction}
use Rattle.pddl_problem.specs.declared.problem.Direction.TheVariants as directions
use Rattle.pddl_problem.specs.Inits.{GroundValue, InitValue, holds, fails, value, MetricValue, IsFact, IsGroundFunction, IsInit, direction_word, AreMetric}
use Rattle.pddl_init_reader.specs.Inner.InitReading.{fact_of, fact_of_list, fact_at, ground_call, ground_function_at, value_of, init_by, init_of_list, init_at, direction_at, metric_of}

-- ---- facts

fact_of_sound : (head : Tree) (ts : List Tree) (f : GroundValue) → fact_of head ts ≡ Some f → IsPredicate f.name head × Each SpellsName f.objects ts
fact_of_sound head ts f e =
    let make : List ℕ → List (List ℕ) → GroundValue = λ p xs. record { name = p; objects = xs } in
    let b = bind_some (λ p. option_map (make p) (all_of (map name_at ts))) (predicate_at head) f e in
    let m = map_some (make b.0) (all_of (map name_at ts)) f b.2 in
    subst (λ (v : GroundValue). IsPredicate v.name head × Each SpellsName v.objects ts) m.2
    (predicate_reads.sound head b.0 b.1, each_sound SpellsName name_at name_reads ts m.0 m.1)

fact_of_complete : (head : Tree) (ts : List Tree) (f : GroundValue) → IsPredicate f.name head → Each SpellsName f.objects ts → fact_of head ts ≡ Some f
fact_of_complete head ts f spelled each = rw (predicate_reads.complete head f.name spelled, each_complete SpellsName name_at name_reads ts f.objects each) refl

fact_list_sound : (ts : List Tree) (f : GroundValue) → fact_of_list ts ≡ Some f → IsFact f (list ts)
fact_list_sound [] f e = absurd (cc)
fact_list_sound (head ∷ ts) f e = let h = fact_of_sound head ts f e in (head, ts, refl, h.0, h.1)

fact_sound : (t : Tree) (f : GroundValue) → fact_at t ≡ Some f → IsFact f t
fact_sound (leaf w) f e = absurd (cc)
fact_sound (node ts) f e = subst (λ us. IsFact f (node us)) (trees_of_list_of ts) (fact_list_sound (list_of ts) f e)

fact_complete : (t : Tree) (f : GroundValue) → IsFact f t → fact_at t ≡ Some f
fact_complete t f (head, ts, is, spelled, each) =
    ap fact_at is ∙ (ap fact_of_list (list_of_trees_of (head ∷ ts)) ∙ fact_of_complete head ts f spelled each)

pub fact_reads : Reads IsFact fact_at
fact_reads = record { sound = fact_sound; complete = fact_complete }

-- ---- functions of objects

ground_sound : (t : Tree) (f : GroundValue) → ground_function_at t ≡ Some f → IsGroundFunction f t
ground_sound t f e =
    let m = map_some ground_call (call_at name_at t) f e in
    subst (λ v. IsGroundFunction v t) m.2 (call_sound SpellsName name_at name_reads t m.0.0 m.0.1 m.1)

ground_complete : (t : Tree) (f : GroundValue) → IsGroundFunction f t → ground_function_at t ≡ Some f
ground_complete t f is = ap (option_map ground_call) (call_complete SpellsName name_at name_reads t f.name f.objects is)

pub ground_reads : Reads IsGroundFunction ground_function_at
ground_reads = record { sound = ground_sound; complete = ground_complete }

-- ---- items of `:init`

value_sound : (head : Tree) (ts : List Tree) (x : InitValue) → HeadIs heads.Equal head → value_of ts ≡ Some x → IsInit x (list (head ∷ ts))
value_sound head [] x is e = absurd (cc)
value_sound head (g ∷ []) x is e = absurd (cc)
value_sound head (g ∷ t ∷ []) x is e =
    let b = bind_some (λ f. option_map (value f) (number_at t)) (ground_function_at g) x e in
    let m = map_some (value b.0) (number_at t) x b.2 in
    subst (λ y. IsInit y (list (head ∷ g ∷ t ∷ []))) m.2 (head, g, t, refl, is, ground_reads.sound g b.0 b.1, number_reads.sound t m.0 m.1)
value_sound head (g ∷ t ∷ u ∷ ts) x is e = absurd (cc)

by_head_sound : (k : Head) (head : Tree) (ts : List Tree) (x : InitValue) → HeadIs k head → init_by k head ts ≡ Some x → IsInit x (list (head ∷ ts))
by_head_sound heads.Name head ts x is e =
    let m = map_some holds (fact_of head ts) x e in
    subst (λ y. IsInit y (list (head ∷ ts))) m.2 (fact_list_sound (head ∷ ts) m.0 m.1)
by_head_sound heads.Not head ts x is e =
    let m = map_some fails (only (map fact_at ts)) x e in
    let o = only_sound IsFact fact_at ts m.0 (reads_each IsFact fact_at fact_reads.sound ts) m.1 in
    subst (λ y. IsInit y (list (head ∷ ts))) m.2 (head, o.0, ap (λ us. list (head ∷ us)) o.1, is, o.2)
by_head_sound heads.Equal head ts x is e = value_sound head ts x is e
by_head_sound heads.And head ts x is e = absurd (cc)
by_head_sound heads.Or head ts x is e = absurd (cc)
by_head_sound heads.Imply head ts x is e = absurd (cc)
by_head_sound heads.Exists head ts x is e = absurd (cc)
by_head_sound heads.Forall head ts x is e = absurd (cc)
by_head_sound heads.When head ts x is e = absurd (cc)
by_head_sound heads.Increase head ts x is e = absurd (cc)
by_head_sound heads.Nothing head ts x is e = absurd (cc)

init_list_sound : (ts : List Tree) (x : InitValue) → init_of_list ts ≡ Some x → IsInit x (list ts)
init_list_sound [] x e = absurd (cc)
init_list_sound (head ∷ ts) x e = by_head_sound (head_at head) head ts x (head_sound head) e

init_sound : (t : Tree) (x : InitValue) → init_at t ≡ Some x → IsInit x t
init_sound (leaf w) x e = absurd (cc)
init_sound (node ts) x e = subst (λ us. IsInit x (node us)) (trees_of_list_of ts) (init_list_sound (list_of ts) x e)

-- an item that is a list with this head
init_list : (t head : Tree) (ts : List Tree) (k : Head) → t ≡ list (head ∷ ts) → head_at head ≡ k → init_at t ≡ init_by k head ts
init_list t head ts k is at = ap init_at is ∙ (ap init_of_list (list_of_trees_of (head ∷ ts)) ∙ ap (λ h. init_by h head ts) at)

init_complete : (t : Tree) (x : InitValue) → IsInit x t → init_at t ≡ Some x
init_complete t (holds f) (head, ts, is, (name, free), each) =
    init_list t head ts heads.Name is (head_of_other f.name head name.1 free) ∙ ap (option_map holds) (fact_of_complete head ts f (name, free) each)
init_complete t (fails f) (head, x, is, word, fact) =
    init_list t head (x ∷ []) heads.Not is (head_of_word (codes "not") head word) ∙ ap (option_map fails) (fact_reads.complete x f fact)
init_complete t (value f n) (head, g, x, is, sign, ground, number) =
    init_list t head (g ∷ x ∷ []) heads.Equal is (head_of_equal head sign) ∙ rw (ground_reads.complete g f ground, number_reads.complete x n number) refl

pub init_reads : Reads IsInit init_at
init_reads = record { sound = init_sound; complete = init_complete }

-- ---- metrics

direction_sound : (t : Tree) (d : Direction) → direction_at t ≡ Some d → IsWord (direction_word d) t
direction_sound t d e =
    elim (test_cases (is_word_at (codes "minimize") t) _ _ _ e) [
      | inl h ↦ (let is : directions.Minimize ≡ d = cc (h.1) in subst (λ k. IsWord (direction_word k) t) is (word_sound (codes "minimize") t h.0))
      | inr g ↦
          elim (test_cases (is_word_at (codes "maximize") t) _ _ _ g.1) [
            | inl h ↦ (let is : directions.Maximize ≡ d = cc (h.1) in subst (λ k. IsWord (direction_word k) t) is (word_sound (codes "maximize") t h.0))
            | inr h ↦ absurd (cc (h.1))
          ]
    ]

direction_complete : (t : Tree) (d : Direction) → IsWord (direction_word d) t → direction_at t ≡ Some d
direction_complete (leaf w) directions.Minimize (kind, is) = rw (kind, is) refl
direction_complete (leaf w) directions.Maximize (kind, is) = rw (kind, is) refl
direction_complete (node ts) directions.Minimize none = absurd none
direction_complete (node ts) directions.Maximize none = absurd none

abbrev metric : Direction → GroundValue → MetricValue
metric d f = record { direction = d; function = f }

pub metric_sound : (ts : List Tree) (m : MetricValue) → metric_of ts ≡ Some m → AreMetric m ts
metric_sound [] m e = absurd (cc)
metric_sound (first ∷ []) m e = absurd (cc)
metric_sound (first ∷ second ∷ []) m e =
    let b = bind_some (λ d. option_map (metric d) (ground_function_at second)) (direction_at first) m e in
    let g = map_some (metric b.0) (ground_function_at second) m b.2 in
    subst (λ v. AreMetric v (first ∷ second ∷ [])) g.2 (first, second, refl, direction_sound first b.0 b.1, ground_reads.sound second g.0 g.1)
metric_sound (first ∷ second ∷ third ∷ ts) m e = absurd (cc)

pub metric_complete : (ts : List Tree) (m : MetricValue) → AreMetric m ts → metric_of ts ≡ Some m
metric_complete ts m (first, second, is, word, function) =
    ap metric_of is ∙ rw (direction_complete first m.direction word, ground_reads.complete second m.function function) refl
