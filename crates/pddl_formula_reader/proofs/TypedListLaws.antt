-- The readers of types and typed lists read what is spelled, and nothing else.
use Rattle.std.proofs.Common.{◌≡◌, ◌≢◌, ℕ, Bool, true, false, List, [], ◌∷◌, ◌++◌, map, refl, sym, ap, ap₂, ◌∙◌, subst, codes, append_assoc, append-nil, inl, inr}
use Rattle.std.specs.Prelude.{Option, Some, option_map, option_and_then}
use Rattle.std.specs.Str.{bytes_eq}
use Rattle.pddl_token.specs.Trees.{Tree, leaf, node, list_of}
use Rattle.pddl_token.specs.TreeWords.{list, IsWord, IsDash, SpellsName, SpellsVariable, Each}
use Rattle.pddl_items.specs.Inner.TreeReading.{name_at, variable_at, is_word_at, is_dash, all_of}
use Rattle.pddl_token.proofs.Options.{map_some, bind_some, if_some, unless_some, test_cases}
use Rattle.pddl_items.proofs.TreeLists.{list_of_trees_of, trees_of_list_of}
use Rattle.pddl_items.proofs.Readers.{Reads, name_reads, variable_reads, equal_bytes, other_bytes, word_sound, word_complete, dash_sound, dash_complete, each_sound, each_complete}
use Rattle.pddl_formula.specs.Reserved.{type_name_of, type_of}
use Rattle.pddl_formula.specs.TypedLists.{WithType, TypedValue, IsTypeName, IsType, primitive, either, OfType, IsGroup, IsTypedList, untyped, typed, object, AreTypedNames, AreTypedVariables, IsVariableList, of_type}
use Rattle.pddl_formula_reader.specs.Inner.Reading.{type_name_at, either_of, type_at, nonempty, typed_from, typed_list, typed_names, typed_variables, variables_at}

-- ---- types

type_name_sound : (t : Tree) (n : List ℕ) → type_name_at t ≡ Some n → IsTypeName n t
type_name_sound t n e =
    let h = bind_some type_name_of (name_at t) n e in
    let g = unless_some (bytes_eq h.0 (codes "either")) (Some h.0) n h.2 in
    let same : h.0 ≡ n = cc (g.1) in
    (subst (λ m. SpellsName m t) same (name_reads.sound t h.0 h.1), λ is. let yes : bytes_eq h.0 (codes "either") ≡ true = equal_bytes h.0 (codes "either") (same ∙ is) in cc (g.0))

type_name_complete : (t : Tree) (n : List ℕ) → IsTypeName n t → type_name_at t ≡ Some n
type_name_complete t n (spelled, other) = rw (name_reads.complete t n spelled, other_bytes n (codes "either") other) refl

pub type_name_reads : Reads IsTypeName type_name_at
type_name_reads = record { sound = type_name_sound; complete = type_name_complete }

either_is : (ns : List (List ℕ)) (head : Tree) (ts : List Tree) (m : List (List ℕ)) → type_of ns ≡ Some m → IsWord (codes "either") head → Each IsTypeName ns ts → IsType m (list (head ∷ ts))
either_is [] head ts m e is each = absurd (cc)
either_is (n ∷ ns) head ts m e is each = let same : n ∷ ns ≡ m = cc in subst (λ k. IsType k (list (head ∷ ts))) same (either head ts refl is each)

either_sound : (ts : List Tree) (ns : List (List ℕ)) → either_of ts ≡ Some ns → IsType ns (list ts)
either_sound [] ns e = absurd (cc)
either_sound (head ∷ ts) ns e =
    let g = if_some (is_word_at (codes "either") head) (option_and_then type_of (all_of (map type_name_at ts))) ns e in
    let b = bind_some type_of (all_of (map type_name_at ts)) ns g.1 in
    either_is b.0 head ts ns b.2 (word_sound (codes "either") head g.0) (each_sound IsTypeName type_name_at type_name_reads ts b.0 b.1)

primitive_sound : (t : Tree) (ns : List (List ℕ)) → option_map (λ n. n ∷ []) (type_name_at t) ≡ Some ns → IsType ns t
primitive_sound t ns e =
    let h = map_some (λ n. n ∷ []) (type_name_at t) ns e in
    subst (λ ms. IsType ms t) h.2 (primitive (type_name_reads.sound t h.0 h.1))

type_sound : (t : Tree) (ns : List (List ℕ)) → type_at t ≡ Some ns → IsType ns t
type_sound (leaf w) ns e = primitive_sound (leaf w) ns e
type_sound (node ts) ns e = subst (λ us. IsType ns (node us)) (trees_of_list_of ts) (either_sound (list_of ts) ns e)

primitive_complete : (t : Tree) (n : List ℕ) → IsTypeName n t → type_at t ≡ Some (n ∷ [])
primitive_complete (leaf w) n is = ap (option_map (λ m. m ∷ [])) (type_name_reads.complete (leaf w) n is)
primitive_complete (node ts) n ((good, none), other) = absurd none

type_complete : {t : Tree} {ns : List (List ℕ)} → IsType ns t → type_at t ≡ Some ns
type_complete {t = t} (primitive {n = n} is) = primitive_complete t n is
type_complete (either {n = n} {ns = ns} head ts is word each) =
    ap type_at is ∙ (ap either_of (list_of_trees_of (head ∷ ts))
    ∙ rw (word_complete (codes "either") head word, each_complete IsTypeName type_name_at type_name_reads ts (n ∷ ns) each) refl)

pub type_reads : Reads IsType type_at
type_reads = record { sound = type_sound; complete = λ t ns s. type_complete s }

-- ---- typed lists

nonempty_is : {A : Type 0} (xs ys : List A) → nonempty xs ≡ Some ys → (xs ≡ ys) × (ys ≢ [])
nonempty_is [] ys e = absurd (cc)
nonempty_is (x ∷ xs) ys e = let same : x ∷ xs ≡ ys = cc in (same, λ none. cc)

-- Items and types that are read as they are spelled; what spells an item is no dash.
pub record Readable {X T : Type 0} (IsItem : X → Tree → Type 0) (IsTypeOf : T → Tree → Type 0) (read_item : Tree → Option X) (read_type : Tree → Option T) : Type 0 where
  pub items : Reads IsItem read_item
  pub types : Reads IsTypeOf read_type
  pub no_dash : (t : Tree) (x : X) → IsItem x t → is_dash t ≡ false

module _ {X T : Type 0} (IsItem : X → Tree → Type 0) (IsTypeOf : T → Tree → Type 0) (read_item : Tree → Option X) (read_type : Tree → Option T)
    (readable : Readable IsItem IsTypeOf read_item read_type) (default : T) where
  abbrev From : List (WithType X T) → List X → Bool → List Tree → Option (List (WithType X T))
  From = typed_from read_item read_type default

  abbrev Listed : List (WithType X T) → List Tree → Type 0
  Listed = IsTypedList IsItem IsTypeOf default

  -- items of one type, by the trees of the items
  of_type_each : (group : List X) (type : T) (ts : List Tree) → Each IsItem group ts → Each (OfType IsItem type) (of_type group type) ts
  of_type_each [] type [] e = tt
  of_type_each [] type (t ∷ ts) e = absurd e
  of_type_each (x ∷ xs) type [] e = absurd e
  of_type_each (x ∷ xs) type (t ∷ ts) e = ((e.0, refl), of_type_each xs type ts e.1)

  each_push : (group : List X) (ts : List Tree) (x : X) (t : Tree) → Each IsItem group ts → IsItem x t → Each IsItem (group ++ x ∷ []) (ts ++ t ∷ [])
  each_push [] [] x t e is = (is, tt)
  each_push [] (u ∷ ts) x t e is = absurd e
  each_push (y ∷ ys) [] x t e is = absurd e
  each_push (y ∷ ys) (u ∷ ts) x t e is = (e.0, each_push ys ts x t e.1 is)

  -- a group of items, a dash, a type, and the rest of the list
  group_typed : (group : List X) (type : T) (gs : List Tree) (dash t : Tree) (after : List Tree) (ys : List (WithType X T))
      → group ≢ [] → Each IsItem group gs → IsDash dash → IsTypeOf type t → Listed ys after → Listed (of_type group type ++ ys) (gs ++ dash ∷ t ∷ after)
  group_typed [] type gs dash t after ys some each d s more = absurd (some refl)
  group_typed (x ∷ xs) type gs dash t after ys some each d s more =
      typed (of_type (x ∷ xs) type) ys (gs ++ dash ∷ t ∷ []) after refl (sym (append_assoc gs (dash ∷ t ∷ []) after))
      (record { value = type; items = gs; dash = dash; type = t; trees_are = refl; some = λ none. absurd (cc (none)); each = of_type_each (x ∷ xs) type gs each; is_dash = d; is_type = s }) more

  mutual
    unfolding typed_from

    -- what is read behind a group of items
    after_items : (ts gs : List Tree) (found xs : List (WithType X T)) (group : List X) → Each IsItem group gs
        → From found group false ts ≡ Some xs → (ys : List (WithType X T)) × (xs ≡ found ++ ys) × Listed ys (gs ++ ts)
    after_items [] gs found xs group each e =
        let done : found ++ of_type group default ≡ xs = cc in
        (of_type group default, sym done, untyped (subst (Each (OfType IsItem default) (of_type group default)) (sym (append-nil gs)) (of_type_each group default gs each)))
    after_items (t ∷ ts) gs found xs group each e =
        elim (test_cases (is_dash t) _ _ _ e) [
          | inl h ↦
              let b = bind_some (λ g. From found g true ts) (nonempty group) xs h.1 in
              let s = nonempty_is group b.0 b.1 in
              let some : group ≢ [] = λ none. s.1 (sym s.0 ∙ none) in
              after_dash ts gs t found xs group each (dash_sound t h.0) some (ap (λ g. From found g true ts) s.0 ∙ b.2)
          | inr h ↦
              let b = bind_some (λ x. From found (group ++ x ∷ []) false ts) (read_item t) xs h.1 in
              let r = after_items ts (gs ++ t ∷ []) found xs (group ++ b.0 ∷ []) (each_push group gs b.0 t each (readable.items.sound t b.0 b.1)) b.2 in
              (r.0, r.1, subst (Listed r.0) (append_assoc gs (t ∷ []) ts) r.2)
        ]

    -- what is read behind a group of items and a dash
    after_dash : (ts gs : List Tree) (dash : Tree) (found xs : List (WithType X T)) (group : List X) → Each IsItem group gs → IsDash dash → group ≢ []
        → From found group true ts ≡ Some xs → (ys : List (WithType X T)) × (xs ≡ found ++ ys) × Listed ys (gs ++ dash ∷ ts)
    after_dash [] gs dash found xs group each d some e = absurd (cc)
    after_dash (t ∷ ts) gs dash found xs group each d some e =
        let b = bind_some (λ type. From (found ++ of_type group type) [] false ts) (read_type t) xs e in
        let r = after_items ts [] (found ++ of_type group b.0) xs [] tt b.2 in
        (of_type group b.0 ++ r.0, r.1 ∙ append_assoc found (of_type group b.0) r.0, group_typed group b.0 gs dash t ts r.0 some each d (readable.types.sound t b.0 b.1) r.2)

  abbrev items_of : List (WithType X T) → List X
  items_of = map (λ x. x.item)

  of_type_items : (type : T) (xs : List (WithType X T)) (ts : List Tree) → Each (OfType IsItem type) xs ts → of_type (items_of xs) type ≡ xs
  of_type_items type [] ts e = refl
  of_type_items type (x ∷ xs) [] e = absurd e
  of_type_items type (x ∷ xs) (t ∷ ts) e =
      ap₂ (λ (y : WithType X T) (ys : List (WithType X T)). y ∷ ys) (ap (λ u. let y : WithType X T = record { item = x.item; of = u } in y) (sym e.0.1)) (of_type_items type xs ts e.1)

  -- items go into the group, one by one
  gather : (type : T) (xs : List (WithType X T)) (items rest : List Tree) (found : List (WithType X T)) (group : List X) → Each (OfType IsItem type) xs items
      → From found group false (items ++ rest) ≡ From found (group ++ items_of xs) false rest
  unfolding typed_from
  gather type [] [] rest found group e = ap (λ g. From found g false rest) (sym (append-nil group))
  gather type [] (t ∷ ts) rest found group e = absurd e
  gather type (x ∷ xs) [] rest found group e = absurd e
  gather type (x ∷ xs) (t ∷ ts) rest found group e =
      rw (readable.no_dash t x.item e.0.0, readable.items.complete t x.item e.0.0)
      (gather type xs ts rest found (group ++ x.item ∷ []) e.1 ∙ ap (λ g. From found g false rest) (append_assoc group (x.item ∷ []) (items_of xs)))

  -- a group is read whole
  group_read : (group : List (WithType X T)) (ts after : List Tree) (found : List (WithType X T)) → IsGroup IsItem IsTypeOf group ts → From found [] false (ts ++ after) ≡ From (found ++ group) [] false after
  unfolding typed_from
  group_read [] ts after found g = absurd (g.some refl)
  group_read (x ∷ xs) ts after found g =
      ap (From found [] false) (ap (λ us. us ++ after) g.trees_are ∙ append_assoc g.items (g.dash ∷ g.type ∷ []) after)
      ∙ (gather g.value (x ∷ xs) g.items (g.dash ∷ g.type ∷ after) found [] g.each
      ∙ rw (dash_complete g.dash g.is_dash, readable.types.complete g.type g.value g.is_type, of_type_items g.value (x ∷ xs) g.items g.each) refl)

  complete_from : {xs : List (WithType X T)} {ts : List Tree} → Listed xs ts → (found : List (WithType X T)) → From found [] false ts ≡ Some (found ++ xs)
  unfolding typed_from
  complete_from {xs = xs} {ts = ts} (untyped e) found =
      ap (From found [] false) (sym (append-nil ts)) ∙ (gather default xs ts [] found [] e ∙ ap (λ ys. Some (found ++ ys)) (of_type_items default xs ts e))
  complete_from (typed group ys ts after is spelled g more) found =
      ap (From found [] false) spelled ∙ (group_read group ts after found g
      ∙ (complete_from more (found ++ group) ∙ ap Some (append_assoc found group ys ∙ ap (λ zs. found ++ zs) (sym is))))

  pub list_sound : (ts : List Tree) (xs : List (WithType X T)) → typed_list read_item read_type default ts ≡ Some xs → Listed xs ts
  list_sound ts xs e = let r = after_items ts [] [] xs [] tt e in subst (λ ys. Listed ys ts) (sym r.1) r.2

  pub list_complete : (ts : List Tree) (xs : List (WithType X T)) → Listed xs ts → typed_list read_item read_type default ts ≡ Some xs
  list_complete ts xs s = complete_from s []

-- ---- typed names and variables

name_no_dash : (t : Tree) (n : List ℕ) → SpellsName n t → is_dash t ≡ false
name_no_dash (leaf w) n (good, (kind, is)) = rw kind refl
name_no_dash (node ts) n (good, none) = absurd none

variable_no_dash : (t : Tree) (n : List ℕ) → SpellsVariable n t → is_dash t ≡ false
variable_no_dash (leaf w) n (good, kind, spelled) = rw kind refl
variable_no_dash (node ts) n none = absurd none

pub readable_names : Readable SpellsName IsType name_at type_at
readable_names = record { items = name_reads; types = type_reads; no_dash = name_no_dash }

pub readable_variables : Readable SpellsVariable IsType variable_at type_at
readable_variables = record { items = variable_reads; types = type_reads; no_dash = variable_no_dash }

pub names_sound : (ts : List Tree) (xs : List TypedValue) → typed_names ts ≡ Some xs → AreTypedNames xs ts
names_sound = list_sound SpellsName IsType name_at type_at readable_names object

pub names_complete : (ts : List Tree) (xs : List TypedValue) → AreTypedNames xs ts → typed_names ts ≡ Some xs
names_complete = list_complete SpellsName IsType name_at type_at readable_names object

pub variables_sound : (ts : List Tree) (xs : List TypedValue) → typed_variables ts ≡ Some xs → AreTypedVariables xs ts
variables_sound = list_sound SpellsVariable IsType variable_at type_at readable_variables object

pub variables_complete : (ts : List Tree) (xs : List TypedValue) → AreTypedVariables xs ts → typed_variables ts ≡ Some xs
variables_complete = list_complete SpellsVariable IsType variable_at type_at readable_variables object

variable_list_sound : (t : Tree) (xs : List TypedValue) → variables_at t ≡ Some xs → IsVariableList xs t
variable_list_sound (leaf w) xs e = absurd (cc)
variable_list_sound (node ts) xs e = (list_of ts, ap (λ us. node us) (sym (trees_of_list_of ts)), variables_sound (list_of ts) xs e)

variable_list_complete : (t : Tree) (xs : List TypedValue) → IsVariableList xs t → variables_at t ≡ Some xs
variable_list_complete t xs (ts, is, listed) = ap variables_at is ∙ (ap typed_variables (list_of_trees_of ts) ∙ variables_complete ts xs listed)

pub variables_reads : Reads IsVariableList variables_at
variables_reads = record { sound = variable_list_sound; complete = variable_list_complete }
