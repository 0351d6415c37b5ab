-- One turn of the reading of a typed list, whatever it lists.
use Rattle.std.proofs.Common.{◌≡◌, ℕ, ◌+◌, ◌<◌, ◌≤◌, true, false, List, [], ◌∷◌, ◌++◌, length, get_or, drop, refl, sym, ap, ◌∙◌, arith}
use Rattle.std.specs.Prelude.{Bool, Option, Some, None, Result, Ok, Err, IfOk, MatchResult, option_map}
use Rattle.std.specs.Bool.{then_some}
use Rattle.pddl_build.specs.Results.{PushesFound}
use Rattle.pddl_build.proofs.Parts.{pushed_some, pushed_none}
use Rattle.pddl_items.specs.declared.item.Item.{Item}
use Rattle.pddl_token.specs.Trees.{Tree}
use Rattle.pddl_items.specs.ItemTrees.{item_tree, item_trees}
use Rattle.pddl_items.specs.Inner.TreeReading.{is_dash}
use Rattle.pddl_formula.specs.TypedLists.{WithType, of_type}
use Rattle.pddl_formula_reader.specs.Inner.Reading.{nonempty, typed_from}
use Rattle.pddl_formula_reader.proofs.Turns.{trees_from, trees_end}

nonempty_some : {X : Type 0} (group : List X) → 0 < length group → nonempty group ≡ Some group
nonempty_some [] some = absurd (omega (arith, some))
nonempty_some (x ∷ xs) some = refl

-- ---- a group that gets its type, if there is one

module _ {X T E : Type 0} (old new : List (WithType X T)) (group : List X) where
  abbrev pub Adds : Result (Option T) E → Result Bool E → Type 0
  Adds types right = MatchResult types (λ type. IfOk right (λ b. then_some b new ≡ option_map (λ t. old ++ of_type group t) type)) (λ e. right ≡ Err e)

  pub added_some : (types : Result (Option T) E) (read : Option T) → IfOk types (λ type. type ≡ read) → Adds types (Ok true)
      → (type : T) × (read ≡ Some type) × (new ≡ old ++ of_type group type)
  added_some (Ok None) read is adds = absurd (cc)
  added_some (Ok (Some t)) read is adds = (t, sym is, cc)
  added_some (Err e) read is adds = absurd (cc)

  pub added_none : (types : Result (Option T) E) (read : Option T) → IfOk types (λ type. type ≡ read) → Adds types (Ok false) → read ≡ None
  added_none (Ok None) read is adds = sym is
  added_none (Ok (Some t)) read is adds = absurd (cc)
  added_none (Err e) read is adds = absurd (cc)

  pub added_last : (types : Result (Option T) E) (right : Result Bool E) (type : T) → IfOk types (λ o. o ≡ Some type) → Adds types right
      → IfOk right (λ b. then_some b new ≡ Some (old ++ of_type group type))
  added_last (Ok o) (Ok b) type is adds = rw is at adds
  added_last (Ok o) (Err e) type is adds = tt
  added_last (Err e) right type is adds = rw adds tt

-- ---- turns

module _ {X T : Type 0} (read_item : Tree → Option X) (read_type : Tree → Option T) (default : T) where
  module _ (found : List (WithType X T)) (group : List X) (t : Tree) (ts : List Tree) where
    type_missing : read_type t ≡ None → typed_from read_item read_type default found group true (t ∷ ts) ≡ None
    unfolding typed_from
    type_missing e = rw e refl

    type_found : (type : T) → read_type t ≡ Some type
        → typed_from read_item read_type default found group true (t ∷ ts) ≡ typed_from read_item read_type default (found ++ of_type group type) [] false ts
    unfolding typed_from
    type_found type e = rw e refl

    dash_first : is_dash t ≡ true → group ≡ [] → typed_from read_item read_type default found group false (t ∷ ts) ≡ None
    unfolding typed_from
    dash_first e empty = rw (e, empty) refl

    dash_after : is_dash t ≡ true → nonempty group ≡ Some group
        → typed_from read_item read_type default found group false (t ∷ ts) ≡ typed_from read_item read_type default found group true ts
    unfolding typed_from
    dash_after e some = rw (e, some) refl

    item_missing : is_dash t ≡ false → read_item t ≡ None → typed_from read_item read_type default found group false (t ∷ ts) ≡ None
    unfolding typed_from
    item_missing e none = rw (e, none) refl

    item_found : (x : X) → is_dash t ≡ false → read_item t ≡ Some x
        → typed_from read_item read_type default found group false (t ∷ ts) ≡ typed_from read_item read_type default found (group ++ x ∷ []) false ts
    unfolding typed_from
    item_found x e some = rw (e, some) refl

  -- the same at a place among the items
  module _ {A : Type 0} (xs : List (Item A)) (i : ℕ) (d : Item A) (below : i < length xs) (found : List (WithType X T)) (group : List X) (whole : Option (List (WithType X T))) where
    pub type_fails : typed_from read_item read_type default found group true (item_trees (drop i xs)) ≡ whole
        → read_type (item_tree (get_or xs i d)) ≡ None → None ≡ whole
    type_fails so_far e =
        sym (type_missing found group _ _ e) ∙ ap (typed_from read_item read_type default found group true) (sym (trees_from xs i d below)) ∙ so_far

    pub type_done : (type : T) → typed_from read_item read_type default found group true (item_trees (drop i xs)) ≡ whole
        → read_type (item_tree (get_or xs i d)) ≡ Some type
        → typed_from read_item read_type default (found ++ of_type group type) [] false (item_trees (drop (i + 1) xs)) ≡ whole
    type_done type so_far e =
        sym (type_found found group _ _ type e) ∙ ap (typed_from read_item read_type default found group true) (sym (trees_from xs i d below)) ∙ so_far

    pub dash_fails : typed_from read_item read_type default found group false (item_trees (drop i xs)) ≡ whole
        → is_dash (item_tree (get_or xs i d)) ≡ true → group ≡ [] → None ≡ whole
    dash_fails so_far e empty =
        sym (dash_first found group _ _ e empty) ∙ ap (typed_from read_item read_type default found group false) (sym (trees_from xs i d below)) ∙ so_far

    pub dash_done : typed_from read_item read_type default found group false (item_trees (drop i xs)) ≡ whole
        → is_dash (item_tree (get_or xs i d)) ≡ true → 0 < length group
        → typed_from read_item read_type default found group true (item_trees (drop (i + 1) xs)) ≡ whole
    dash_done so_far e some =
        sym (dash_after found group _ _ e (nonempty_some group some)) ∙ ap (typed_from read_item read_type default found group false) (sym (trees_from xs i d below)) ∙ so_far

    pub item_fails : typed_from read_item read_type default found group false (item_trees (drop i xs)) ≡ whole
        → is_dash (item_tree (get_or xs i d)) ≡ false → read_item (item_tree (get_or xs i d)) ≡ None → None ≡ whole
    item_fails so_far e none =
        sym (item_missing found group _ _ e none) ∙ ap (typed_from read_item read_type default found group false) (sym (trees_from xs i d below)) ∙ so_far

    pub item_done : (x : X) → typed_from read_item read_type default found group false (item_trees (drop i xs)) ≡ whole
        → is_dash (item_tree (get_or xs i d)) ≡ false → read_item (item_tree (get_or xs i d)) ≡ Some x
        → typed_from read_item read_type default found (group ++ x ∷ []) false (item_trees (drop (i + 1) xs)) ≡ whole
    item_done x so_far e some =
        sym (item_found found group _ _ x e some) ∙ ap (typed_from read_item read_type default found group false) (sym (trees_from xs i d below)) ∙ so_far

  -- the same as the code reads it
  module _ {A E : Type 0} (xs : List (Item A)) (i : ℕ) (item : Item A) (below : i < length xs) (is : item ≡ get_or xs i item)
      (found : List (WithType X T)) (group : List X) (whole : Option (List (WithType X T))) where
    pub type_stops : (types : Result (Option T) E) (new : List (WithType X T)) → typed_from read_item read_type default found group true (item_trees (drop i xs)) ≡ whole
        → IfOk types (λ type. type ≡ read_type (item_tree item)) → Adds found new group types (Ok false) → None ≡ whole
    type_stops types new so_far reads adds =
        type_fails xs i item below found group whole so_far (ap (λ j. read_type (item_tree j)) (sym is) ∙ added_none found new group types (read_type (item_tree item)) reads adds)

    pub type_adds : (types : Result (Option T) E) (new : List (WithType X T)) (left : List X) → typed_from read_item read_type default found group true (item_trees (drop i xs)) ≡ whole
        → IfOk types (λ type. type ≡ read_type (item_tree item)) → Adds found new group types (Ok true) → left ≡ []
        → typed_from read_item read_type default new left false (item_trees (drop (i + 1) xs)) ≡ whole
    type_adds types new left so_far reads adds empty =
        let (type, some, put) = added_some found new group types (read_type (item_tree item)) reads adds in
        rw (put, empty) (type_done xs i item below found group whole type so_far (ap (λ j. read_type (item_tree j)) (sym is) ∙ some))

    pub item_stops : (value : Result (Option X) E) (new : List X) → typed_from read_item read_type default found group false (item_trees (drop i xs)) ≡ whole
        → is_dash (item_tree (get_or xs i item)) ≡ false → IfOk value (λ x. x ≡ read_item (item_tree item)) → PushesFound group value new (Ok false) → None ≡ whole
    item_stops value new so_far dash reads pushes =
        let (none, kept) = pushed_none group value new pushes in
        item_fails xs i item below found group whole so_far dash (ap (λ j. read_item (item_tree j)) (sym is) ∙ sym (rw none at reads))

    pub item_adds : (value : Result (Option X) E) (new : List X) → typed_from read_item read_type default found group false (item_trees (drop i xs)) ≡ whole
        → is_dash (item_tree (get_or xs i item)) ≡ false → IfOk value (λ x. x ≡ read_item (item_tree item)) → PushesFound group value new (Ok true)
        → typed_from read_item read_type default found new false (item_trees (drop (i + 1) xs)) ≡ whole
    item_adds value new so_far dash reads pushes =
        let (x, some, put) = pushed_some group value new pushes in
        rw put (item_done xs i item below found group whole x so_far dash (ap (λ j. read_item (item_tree j)) (sym is) ∙ sym (rw some at reads)))

  -- behind the last item
  module _ {A : Type 0} (xs : List (Item A)) (i : ℕ) (past : length xs ≤ i) (found : List (WithType X T)) (group : List X) (whole : Option (List (WithType X T))) where
    pub end_fails : typed_from read_item read_type default found group true (item_trees (drop i xs)) ≡ whole → None ≡ whole
    unfolding typed_from
    end_fails so_far = ap (typed_from read_item read_type default found group true) (sym (trees_end xs i past)) ∙ so_far

    pub end_done : typed_from read_item read_type default found group false (item_trees (drop i xs)) ≡ whole → Some (found ++ of_type group default) ≡ whole
    unfolding typed_from
    end_done so_far = ap (typed_from read_item read_type default found group false) (sym (trees_end xs i past)) ∙ so_far
