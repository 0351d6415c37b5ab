-- The fields of an action, read one after the other, are those that are read all together.
use Rattle.std.proofs.Common.{◌≡◌, ℕ, ◌<◌, ◌≤◌, ◌==◌, Bool, List, [], ◌∷◌, length, drop, get_or, refl, sym, ap, ◌∙◌, arith}
use Rattle.std.specs.Bool.{then_some}
use Rattle.std.specs.Prelude.{Option, Some, None, option_map, option_and_then}
use Rattle.std.specs.List.{flat_map}
use Rattle.std.specs.Option.{option_zip}
use Rattle.pddl_items.specs.declared.item.Item.{Item}
use Rattle.pddl_token.specs.Trees.{Tree}
use Rattle.pddl_items.specs.ItemTrees.{item_tree, item_trees}
use Rattle.pddl_items.specs.Inner.TreeReading.{both, name_at}
use Rattle.pddl_formula.specs.TypedLists.{TypedValue}
use Rattle.pddl_formula.specs.Formulas.{FormulaValue, conjunction, no_formulas}
use Rattle.pddl_effect.specs.Effects.{EffectValue, conjunction as all_effects, no_effects}
use Rattle.pddl_domain.specs.Actions.{ActionValue, Field, parameters, precondition, effect, parameters_in, preconditions_in, effects_in}
use Rattle.pddl_declaration_reader.specs.Inner.ActionReading.{field_at, fields_at, only_or, assembled, action_of}
use Rattle.pddl_declaration_reader.specs.Inner.Slots.{SlotValues, no_slots, after_field, slots_from, given_or, action_by}

-- ---- all fields together

-- what a slot has, before the fields that follow
abbrev behind : {X : Type 0} → Option X → List X → List X
behind None xs = xs
behind (Some x) xs = x ∷ xs

-- the action of this name, these slots and the fields that follow
abbrev assembled_behind : List ℕ → Option (List TypedValue) → Option FormulaValue → Option EffectValue → List Field → Option ActionValue
assembled_behind n o p q fields =
    option_and_then (λ xs. option_and_then (λ f. option_map (λ e. record { name = n; parameters = xs; precondition = f; effect = e })
    (only_or (all_effects no_effects) (behind q (flat_map effects_in fields))))
    (only_or (conjunction no_formulas) (behind p (flat_map preconditions_in fields))))
    (only_or [] (behind o (flat_map parameters_in fields)))

none_then : {X Y : Type 0} (o : Option X) → ◌≡◌ {A = Option Y} None (option_and_then (λ x. None) o)
none_then None = refl
none_then (Some x) = refl

none_twice : {X Y Z : Type 0} (o : Option X) (p : Option Y) → ◌≡◌ {A = Option Z} None (option_and_then (λ x. option_and_then (λ y. None) p) o)
none_twice None p = refl
none_twice (Some x) p = none_then p

only_given : {X : Type 0} (default : X) (o : Option X) → only_or default (behind o []) ≡ Some (given_or default o)
only_given default None = refl
only_given default (Some x) = refl

module _ (name : List ℕ) where
  -- the slots
  abbrev slots : Option (List TypedValue) → Option FormulaValue → Option EffectValue → SlotValues
  slots o p q = record { lists = o; conditions = p; outcomes = q }

  -- no field follows
  no_more_fields : (o : Option (List TypedValue)) (p : Option FormulaValue) (q : Option EffectValue) → Some (action_by name (slots o p q)) ≡ assembled_behind name o p q []
  no_more_fields o p q = rw (only_given [] o, only_given (conjunction no_formulas) p, only_given (all_effects no_effects) q) refl

  -- the next field fills its slot
  list_on : (xs : List TypedValue) (p : Option FormulaValue) (q : Option EffectValue) (fields : Option (List Field))
      → option_and_then (assembled_behind name (Some xs) p q) fields ≡ option_and_then (assembled_behind name None p q) (both (Some (parameters xs)) fields)
  list_on xs p q None = refl
  list_on xs p q (Some fields) = refl

  condition_on : (o : Option (List TypedValue)) (f : FormulaValue) (q : Option EffectValue) (fields : Option (List Field))
      → option_and_then (assembled_behind name o (Some f) q) fields ≡ option_and_then (assembled_behind name o None q) (both (Some (precondition f)) fields)
  condition_on o f q None = refl
  condition_on o f q (Some fields) = refl

  effect_on : (o : Option (List TypedValue)) (p : Option FormulaValue) (e : EffectValue) (fields : Option (List Field))
      → option_and_then (assembled_behind name o p (Some e)) fields ≡ option_and_then (assembled_behind name o p None) (both (Some (effect e)) fields)
  effect_on o p e None = refl
  effect_on o p e (Some fields) = refl

  -- its slot is full
  list_twice : (xs ys : List TypedValue) (p : Option FormulaValue) (q : Option EffectValue) (fields : Option (List Field))
      → None ≡ option_and_then (assembled_behind name (Some xs) p q) (both (Some (parameters ys)) fields)
  list_twice xs ys p q None = refl
  list_twice xs ys p q (Some fields) = refl

  condition_twice : (o : Option (List TypedValue)) (f g : FormulaValue) (q : Option EffectValue) (fields : Option (List Field))
      → None ≡ option_and_then (assembled_behind name o (Some f) q) (both (Some (precondition g)) fields)
  condition_twice o f g q None = refl
  condition_twice o f g q (Some fields) = none_then (only_or [] (behind o (flat_map parameters_in fields)))

  effect_twice : (o : Option (List TypedValue)) (p : Option FormulaValue) (e d : EffectValue) (fields : Option (List Field))
      → None ≡ option_and_then (assembled_behind name o p (Some e)) (both (Some (effect d)) fields)
  effect_twice o p e d None = refl
  effect_twice o p e d (Some fields) =
      none_twice (only_or [] (behind o (flat_map parameters_in fields))) (only_or (conjunction no_formulas) (behind p (flat_map preconditions_in fields)))

  -- these slots, then these trees
  abbrev Reads : Option (List TypedValue) → Option FormulaValue → Option EffectValue → List Tree → Type 0
  Reads o p q ts = option_map (action_by name) (slots_from (slots o p q) ts) ≡ option_and_then (assembled_behind name o p q) (fields_at ts)

  one_more : (ts : List Tree) → ((o : Option (List TypedValue)) (p : Option FormulaValue) (q : Option EffectValue) → Reads o p q ts)
      → (o : Option (List TypedValue)) (p : Option FormulaValue) (q : Option EffectValue) (field : Option Field)
      → option_map (action_by name) (option_and_then (λ next. slots_from next ts) (after_field (slots o p q) field))
      ≡ option_and_then (assembled_behind name o p q) (both field (fields_at ts))
  one_more ts others o p q None = refl
  one_more ts others None p q (Some (parameters xs)) = others (Some xs) p q ∙ list_on xs p q (fields_at ts)
  one_more ts others (Some ys) p q (Some (parameters xs)) = list_twice ys xs p q (fields_at ts)
  one_more ts others o None q (Some (precondition f)) = others o (Some f) q ∙ condition_on o f q (fields_at ts)
  one_more ts others o (Some g) q (Some (precondition f)) = condition_twice o g f q (fields_at ts)
  one_more ts others o p None (Some (effect e)) = others o p (Some e) ∙ effect_on o p e (fields_at ts)
  one_more ts others o p (Some d) (Some (effect e)) = effect_twice o p d e (fields_at ts)

  one_by_one : (ts : List Tree) (o : Option (List TypedValue)) (p : Option FormulaValue) (q : Option EffectValue) → Reads o p q ts
  unfolding slots_from
  one_by_one [] o p q = no_more_fields o p q
  one_by_one (key ∷ []) o p q = refl
  one_by_one (key ∷ t ∷ ts) o p q = one_more ts (one_by_one ts) o p q (field_at key t)

  by_slots : (ts : List Tree) → option_map (action_by name) (slots_from no_slots ts) ≡ option_and_then (assembled name) (fields_at ts)
  by_slots ts = one_by_one ts None None None

-- ---- one field after the other

-- the first two items are a field
first_field : {A : Type 0} (s : SlotValues) (xs : List (Item A)) (key t : Item A) → 2 ≤ length xs → key ≡ get_or xs 0 key → t ≡ get_or xs 1 t
    → slots_from s (item_trees xs) ≡ option_and_then (λ next. slots_from next (item_trees (drop 2 xs))) (after_field s (field_at (item_tree key) (item_tree t)))
unfolding slots_from
first_field s [] key t two first second = absurd (omega (arith, two))
first_field s (x ∷ []) key t two first second = absurd (omega (arith, two))
first_field s (x ∷ y ∷ xs) key t two first second = rw (first, second) refl

-- no two items are left
few_left : {A : Type 0} (s : SlotValues) (xs : List (Item A)) (empty : Bool) → length xs < 2 → empty ≡ (length xs == 0) → then_some empty s ≡ slots_from s (item_trees xs)
unfolding slots_from
few_left s [] empty few is = rw is refl
few_left s (x ∷ []) empty few is = rw is refl
few_left s (x ∷ y ∷ xs) empty few is = absurd (omega (arith, few))

module _ {A : Type 0} (s : SlotValues) (xs : List (Item A)) (whole : Option SlotValues) (so_far : slots_from s (item_trees xs) ≡ whole) where
  module _ (key t : Item A) (two : 2 ≤ length xs) (first : key ≡ get_or xs 0 key) (second : t ≡ get_or xs 1 t) where
    pub fields_on : (next : SlotValues) (rest : List (Item A)) → Some next ≡ after_field s (field_at (item_tree key) (item_tree t)) → rest ≡ drop 2 xs
        → slots_from next (item_trees rest) ≡ whole
    fields_on next rest e is =
        ap (λ ys. slots_from next (item_trees ys)) is ∙ ap (option_and_then (λ n. slots_from n (item_trees (drop 2 xs)))) e ∙ sym (first_field s xs key t two first second) ∙ so_far

    pub fields_stop : None ≡ after_field s (field_at (item_tree key) (item_tree t)) → None ≡ whole
    fields_stop e = ap (option_and_then (λ n. slots_from n (item_trees (drop 2 xs)))) e ∙ sym (first_field s xs key t two first second) ∙ so_far

  pub fields_end : (empty : Bool) → length xs < 2 → empty ≡ (length xs == 0) → then_some empty s ≡ whole
  fields_end empty few is = few_left s xs empty few is ∙ so_far

-- ---- the action

zipped : (o : Option (List ℕ)) (slots : Option SlotValues) → option_map (λ q. action_by q.0 q.1) (option_zip o slots) ≡ option_and_then (λ n. option_map (action_by n) slots) o
zipped None slots = refl
zipped (Some n) None = refl
zipped (Some n) (Some s) = refl

by_both : (o : Option (List ℕ)) (ts : List Tree) → option_and_then (λ n. option_map (action_by n) (slots_from no_slots ts)) o ≡ option_and_then (λ n. option_and_then (assembled n) (fields_at ts)) o
by_both None ts = refl
by_both (Some n) ts = by_slots n ts

titled_by : {A : Type 0} (xs rest : List (Item A)) (title : Item A) → 1 ≤ length xs → title ≡ get_or xs 0 title → rest ≡ drop 1 xs
    → option_and_then (λ n. option_and_then (assembled n) (fields_at (item_trees rest))) (name_at (item_tree title)) ≡ action_of (item_trees xs)
titled_by [] rest title le is behind = absurd (omega (arith, le))
titled_by (x ∷ xs) rest title le is behind = rw (is, behind) refl

-- the name and the slots that the items give
pub titled : {A : Type 0} (xs rest : List (Item A)) (title : Item A) → 1 ≤ length xs → title ≡ get_or xs 0 title → rest ≡ drop 1 xs → (both : Option (List ℕ × SlotValues))
    → both ≡ option_zip (name_at (item_tree title)) (slots_from no_slots (item_trees rest)) → option_map (λ q. action_by q.0 q.1) both ≡ action_of (item_trees xs)
titled xs rest title le is behind both e =
    ap (option_map (λ q. action_by q.0 q.1)) e ∙ zipped (name_at (item_tree title)) (slots_from no_slots (item_trees rest))
    ∙ by_both (name_at (item_tree title)) (item_trees rest) ∙ titled_by xs rest title le is behind
