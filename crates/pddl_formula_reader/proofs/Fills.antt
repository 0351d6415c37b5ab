-- Lists that are filled with a value of each item.
use Rattle.std.proofs.Common.{◌≡◌, ℕ, ◌+◌, ◌<◌, ◌≤◌, Bool, true, false, List, [], ◌∷◌, ◌++◌, Vec, length, get_or, drop, map, refl, sym, subst, ap, ◌∙◌, true≢false}
use Rattle.std.specs.Prelude.{Option, Some, None, Result, Ok, Err, IfOk, IsOkAnd, option_map, option_and_then}
use Rattle.std.proofs.lemmas.List.{map_push}
use Rattle.std.specs.Bool.{then_some}
use Rattle.pddl_formula.specs.Reserved.{type_of}
use Rattle.pddl_build.specs.Results.{right_of, PushesFound, Pushed}
use Rattle.pddl_build.proofs.Parts.{pushed_some, pushed_none}
use Rattle.pddl_items.specs.declared.item.Item.{Item}
use Rattle.pddl_token.specs.Trees.{Tree}
use Rattle.pddl_items.specs.ItemTrees.{item_tree, item_trees}
use Rattle.pddl_items.specs.Inner.TreeReading.{all_of}
use Rattle.pddl_items.proofs.Fronts.{with_front, front_none}
use Rattle.pddl_formula_reader.proofs.Turns.{each_on, each_stop, each_end}

-- the list, seen as one of X, is filled with the value of the item at this place
module _ {A T X E : Type 0} (view : List T → List X) (one : T → X) (joins : (ts : List T) (x : T) → view (ts ++ x ∷ []) ≡ view ts ++ one x ∷ [])
    (read : Tree → Option X) (xs : List (Item A)) (i : ℕ) (item : Item A) (below : i < length xs) (there : item ≡ get_or xs i item)
    (old new : List T) (whole : Option (List X)) (so_far : with_front (view old) (all_of (map read (item_trees (drop i xs)))) ≡ whole)
    (value : Result (Option T) E) (reads : IfOk value (λ v. option_map one v ≡ read (item_tree item))) where
  pub fill_on : PushesFound old value new (Ok true) → with_front (view new) (all_of (map read (item_trees (drop (i + 1) xs)))) ≡ whole
  fill_on pushes =
      let (x, is, put) = pushed_some old value new pushes in
      each_on read xs i item (view old) whole below (view new) (one x) so_far ((rw is at reads) ∙ ap (λ j. read (item_tree j)) there) (ap view put ∙ joins old x)

  pub fill_stop : PushesFound old value new (Ok false) → None ≡ whole
  fill_stop pushes =
      let (is, kept) = pushed_none old value new pushes in
      each_stop read xs i item (view old) whole below so_far ((rw is at reads) ∙ ap (λ j. read (item_tree j)) there)

-- a list that was filled from nothing, if that went right
pub filled : {T A X E : Type 0} (view : List T → List X) (list : Vec T A) (right : Result Bool E) (read : Option (List X)) (before : List T)
    → view before ≡ [] → IfOk right (λ b. then_some b (view list.items) ≡ with_front (view before) read)
    → IfOk (right_of list right) (λ found. option_map (λ v. view v.items) found ≡ read)
filled view list (Ok true) read before none is = is ∙ (ap (λ front. with_front front read) none ∙ front_none read)
filled view list (Ok false) read before none is = is ∙ (ap (λ front. with_front front read) none ∙ front_none read)
filled view list (Err e) read before none is = tt

-- ---- lists that are handed from turn to turn

-- items that are read as values of X, each of which is seen in a T
module _ {A T B X : Type 0} (view : T → X) (read : Tree → Option X) (xs : List (Item A)) (whole : Option (List X)) where
  -- what was read before this place, if it was, and what is left give the whole
  abbrev pub SoFar : ℕ → Option (Vec T B) → Type 0
  SoFar i list = option_and_then (λ v. with_front (map view v.items) (all_of (map read (item_trees (drop i xs))))) list ≡ whole

  -- the value of this item is put behind those before it
  pub fill_next : {E : Type 0} (i : ℕ) (item : Item A) → i < length xs → item ≡ get_or xs i item → (list : Result (Option (Vec T B)) E) (value : Result (Option T) E) (new : Result (Option (Vec T B)) E)
      → IfOk list (SoFar i) → IfOk value (λ v. option_map view v ≡ read (item_tree item)) → Pushed list value new → IfOk new (SoFar (i + 1))
  fill_next i item below there (Ok (Some v)) (Ok (Some x)) (Ok (Some n)) so_far reads put =
      let items : n.items ≡ v.items ++ x ∷ [] = cc put in
      each_on read xs i item (map view v.items) whole below (map view n.items) (view x) so_far (reads ∙ ap (λ j. read (item_tree j)) there) (ap (map view) items ∙ map_push view v.items x)
  fill_next i item below there (Ok (Some v)) (Ok (Some x)) (Ok None) so_far reads put = absurd (cc)
  fill_next i item below there (Ok (Some v)) (Ok (Some x)) (Err e) so_far reads put = tt
  fill_next i item below there (Ok (Some v)) (Ok None) new so_far reads put =
      rw put (each_stop read xs i item (map view v.items) whole below so_far (reads ∙ ap (λ j. read (item_tree j)) there))
  fill_next i item below there (Ok (Some v)) (Err e) new so_far reads put = rw put tt
  fill_next i item below there (Ok None) value new so_far reads put = rw put so_far
  fill_next i item below there (Err e) value new so_far reads put = rw put tt

  -- behind the last item it is the whole
  pub fill_end : {E : Type 0} (i : ℕ) → length xs ≤ i → (list : Result (Option (Vec T B)) E) → IfOk list (SoFar i) → IfOk list (λ v. option_map (λ w. map view w.items) v ≡ whole)
  fill_end i past (Ok (Some v)) so_far = each_end read xs i (map view v.items) whole past so_far
  fill_end i past (Ok None) so_far = so_far
  fill_end i past (Err e) so_far = tt

-- ---- a list of one name, and the type that it is

module _ {A : Type 0} (list : Vec (List ℕ) A) (old : List (List ℕ)) (none : old ≡ []) (names : Option (Vec (List ℕ) A)) where
  abbrev type : Option (List (List ℕ))
  type = option_and_then type_of (option_map (λ v. v.items) names)

  type_is : {E : Type 0} (value : Result (Option (List ℕ)) E) (right : Result Bool E) → PushesFound old value list.items right → right_of list right ≡ Ok names → IsOkAnd value (λ n. type ≡ option_map (λ t. t ∷ []) n)
  type_is (Ok (Some x)) (Ok true) put is =
      subst (λ r. IfOk r (λ o. option_and_then type_of (option_map (λ v. v.items) o) ≡ Some (x ∷ []))) is (ap type_of (put.0 ∙ ap (λ l. l ++ x ∷ []) none))
  type_is (Ok (Some x)) (Ok false) put is = absurd (true≢false (sym put.1))
  type_is (Ok (Some x)) (Err e) put is = absurd (cc (is))
  type_is (Ok None) right put is = subst (λ r. IfOk r (λ o. option_and_then type_of (option_map (λ v. v.items) o) ≡ None)) (sym (ap (right_of list) put.1) ∙ is) refl
  type_is (Err e) right put is = absurd (cc (sym (ap (right_of list) put.1) ∙ is))

  pub one_type : {E F : Type 0} (value : Result (Option (List ℕ)) E) (right : Result Bool E) (found : Result (Option (List (List ℕ))) F) → PushesFound old value list.items right → right_of list right ≡ Ok names
      → IfOk found (λ t. t ≡ type) → IfOk found (λ t. IsOkAnd value (λ n. t ≡ option_map (λ t. t ∷ []) n))
  one_type (Ok n) right (Ok t) put is same = same ∙ type_is (Ok n) right put is
  one_type (Err e) right (Ok t) put is same = type_is (Err e) right put is
  one_type value right (Err e) put is same = tt

-- what is said of a value, of what it is known to be
pub of_known : {X Y E F : Type 0} (h : X → Y) (value : Result X E) (made : Result Y F) (x : X) → IfOk value (λ v. v ≡ x) → IfOk made (λ m. IsOkAnd value (λ v. m ≡ h v)) → IfOk made (λ m. m ≡ h x)
of_known h (Ok v) (Ok m) x is same = same ∙ ap h is
of_known h (Err e) (Ok m) x is same = absurd same
of_known h value (Err e) x is same = tt
