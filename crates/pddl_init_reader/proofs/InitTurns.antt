-- Items of `:init` and metrics, in the words of the code.
use Rattle.std.proofs.Common.{◌≡◌, ℕ, ◌≤◌, ◌<◌, List, [], ◌∷◌, map, Option, Some, None, length, get_or, drop, refl, sym, ap, ◌∙◌, arith}
use Rattle.std.specs.Prelude.{option_map, option_and_then}
use Rattle.std.specs.Option.{option_zip}
use Rattle.pddl_items.specs.declared.item.Item.{Item}
use Rattle.pddl_token.specs.Trees.{Tree}
use Rattle.pddl_token.specs.TreeWords.{list}
use Rattle.pddl_items.specs.ItemTrees.{item_tree, item_trees}
use Rattle.pddl_items.specs.Inner.TreeReading.{name_at, all_of}
use Rattle.pddl_items.proofs.TreeLists.{list_of_trees_of}
use Rattle.pddl_formula_reader.proofs.TurnsOfFormulas.{made_of_two}
use Rattle.pddl_effect_reader.specs.Inner.EffectReading.{call_of_list, number_at}
use Rattle.pddl_problem.specs.declared.problem.Direction.{Direction}
use Rattle.pddl_problem.specs.Inits.{GroundValue, value, MetricValue}
use Rattle.pddl_init_reader.specs.Inner.InitReading.{fact_of_list, fact_at, ground_call, ground_function_at, value_of, init_of_list, init_at, direction_at, metric_of}

pub fact_at_list : (ts : List Tree) → fact_at (list ts) ≡ fact_of_list ts
fact_at_list ts = ap fact_of_list (list_of_trees_of ts)

pub ground_at_list : (ts : List Tree) → ground_function_at (list ts) ≡ option_map ground_call (call_of_list name_at ts)
ground_at_list ts = ap (λ us. option_map ground_call (call_of_list name_at us)) (list_of_trees_of ts)

pub init_at_list : (ts : List Tree) → init_at (list ts) ≡ init_of_list ts
init_at_list ts = ap init_of_list (list_of_trees_of ts)

-- ---- a head, and names of objects behind it

abbrev pub grounded : Option (List ℕ) → Option (List (List ℕ)) → Option GroundValue
grounded name objects = option_and_then (λ n. option_map (λ xs. record { name = n; objects = xs }) objects) name

pub called : (name : Option (List ℕ)) (objects : Option (List (List ℕ))) → option_map ground_call (option_and_then (λ f. option_map (λ xs. (f, xs)) objects) name) ≡ grounded name objects
called None objects = refl
called (Some f) None = refl
called (Some f) (Some xs) = refl

module _ {A : Type 0} (read : Tree → Option (List ℕ)) (of_list : List Tree → Option GroundValue)
    (of_head : (head : Tree) (ts : List Tree) → of_list (head ∷ ts) ≡ grounded (read head) (all_of (map name_at ts))) where
  headed : (xs : List (Item A)) (head : Item A) → 1 ≤ length xs → head ≡ get_or xs 0 head
      → grounded (read (item_tree head)) (all_of (map name_at (item_trees (drop 1 xs)))) ≡ of_list (item_trees xs)
  headed [] head some is = absurd (omega (arith, some))
  headed (x ∷ xs) head some is = ap (λ h. grounded (read (item_tree h)) (all_of (map name_at (item_trees xs)))) is ∙ sym (of_head (item_tree x) (item_trees xs))

  module _ (xs : List (Item A)) (head : Item A) (some : 1 ≤ length xs) (is : head ≡ get_or xs 0 head) where
    pub head_fails : None ≡ read (item_tree head) → None ≡ of_list (item_trees xs)
    head_fails none = ap (λ n. grounded n (all_of (map name_at (item_trees (drop 1 xs))))) none ∙ headed xs head some is

    -- what the objects behind this head say
    pub by_objects : (name : List ℕ) → Some name ≡ read (item_tree head) → (rest : List (Item A)) → rest ≡ drop 1 xs
        → (objects : Option (List (List ℕ))) → objects ≡ all_of (map name_at (item_trees rest))
        → option_map (λ ns. record { name = name; objects = ns }) objects ≡ of_list (item_trees xs)
    by_objects name named rest behind objects reads =
        ap (option_map (λ ns. record { name = name; objects = ns })) (reads ∙ ap (λ ys. all_of (map name_at (item_trees ys))) behind)
        ∙ ap (λ n. grounded n (all_of (map name_at (item_trees (drop 1 xs))))) named ∙ headed xs head some is

-- ---- lists of two

-- a value that is its own view
pub own_view : {T : Type 0} (o p : Option T) → o ≡ p → option_map (λ x. x) o ≡ p
own_view None p is = is
own_view (Some x) p is = is

abbrev pub metric_by : Direction → GroundValue → MetricValue
metric_by d f = record { direction = d; function = f }

module _ {A : Type 0} where
  pub value_is : (xs : List (Item A)) (x y : Item A) → 2 ≤ length xs → length xs < 3 → x ≡ get_or xs 0 x → y ≡ get_or xs 1 y
      → value_of (item_trees xs) ≡ option_map (λ q. value q.0 q.1) (option_zip (ground_function_at (item_tree x)) (number_at (item_tree y)))
  value_is [] x y low high first second = absurd (omega (arith, low))
  value_is (u ∷ []) x y low high first second = absurd (omega (arith, low))
  value_is (u ∷ v ∷ []) x y low high first second = rw (first, second) (made_of_two value (ground_function_at (item_tree u)) (number_at (item_tree v)))
  value_is (u ∷ v ∷ w ∷ xs) x y low high first second = absurd (omega (arith, high))

  pub metric_is : (xs : List (Item A)) (x y : Item A) → 2 ≤ length xs → length xs < 3 → x ≡ get_or xs 0 x → y ≡ get_or xs 1 y
      → metric_of (item_trees xs) ≡ option_map (λ q. metric_by q.0 q.1) (option_zip (direction_at (item_tree x)) (ground_function_at (item_tree y)))
  metric_is [] x y low high first second = absurd (omega (arith, low))
  metric_is (u ∷ []) x y low high first second = absurd (omega (arith, low))
  metric_is (u ∷ v ∷ []) x y low high first second = rw (first, second) (made_of_two metric_by (direction_at (item_tree u)) (ground_function_at (item_tree v)))
  metric_is (u ∷ v ∷ w ∷ xs) x y low high first second = absurd (omega (arith, high))
