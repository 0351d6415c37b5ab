-- The conditions of quantifiers and of formulas in turn, and the changes of effects, as the code makes them.
use Rattle.std.proofs.Common.{◌≡◌, ℕ, ◌+◌, ◌<◌, ◌≤◌, Bool, true, false, cond, List, [], ◌∷◌, ◌++◌, map, drop, length, get_or, reverse, sym, ap, ◌∙◌, subst, Vec}
use Rattle.std.specs.Prelude.{Result, Ok, Err, IfOk, IsOkAnd}
use Rattle.std.proofs.lemmas.List.{drop_more, drop_all}
use Rattle.pddl_formula.specs.declared.type_names.Typed.{Typed}
use Rattle.pddl_formula.specs.TypedLists.{TypedValue, typed_view}
use Rattle.pddl_task.specs.Names.{Name}
use Rattle.pddl_compiled.specs.Tables.{Tables}
use Rattle.pddl_compiled.specs.Compiler.{ScopeValue, binder_of, wrapped, nested}
use Rattle.pddl_compiled.specs.Compiler as compiler
use Rattle.pddl_compiled.specs.Scopes.{slot_view, range_items}
use Rattle.pddl_compiled.specs.declared.scope.Slot.{Slot}
use Rattle.pddl_compiled.proofs.Binders.{weaker, made_known, onto_reversed, pushed, finished}

-- ---- by values

-- ranges and what stands inside them, where they are those of the variables
pub bound_right : {K : Type 0} (node : List ℕ → K → K) (nothing : K) (t : Tables) (xs : List TypedValue) (body : ScopeValue → K) (scope : ScopeValue) (ranges : List (List ℕ)) (slots : List (Name × compiler.Slot)) (closed : Bool) (inner : K)
    → slots ≡ reverse (binder_of t.range xs).slots → ranges ≡ (binder_of t.range xs).ranges → closed ≡ (binder_of t.range xs).closed → inner ≡ cond closed nothing (body (slots ++ scope))
    → wrapped node ranges inner ≡ nested node nothing t xs body scope
bound_right node nothing t xs body scope ranges slots closed inner turned same shut is =
    ap (λ rs. wrapped node rs inner) same
    ∙ ap (wrapped node (binder_of t.range xs).ranges) (is ∙ (ap (λ b. cond b nothing (body (slots ++ scope))) shut
    ∙ ap (λ l. cond (binder_of t.range xs).closed nothing (body l)) (ap (λ l. l ++ scope) turned ∙ onto_reversed (binder_of t.range xs).slots scope)))

-- a quantifier's nodes around what stands inside them, which failed or is what the quantifier's body is
module _ {K C : Type 0} (view : C → K) (nothing : K) (body : ScopeValue → K) (scope : ScopeValue) (slots : List Slot) (closed : Bool) where
  abbrev IsInside : C → Type 0
  IsInside i = view i ≡ cond closed nothing (body (map slot_view slots ++ scope))

  pub inside_closed : {E : Type 0} (inner made : Result C E) → closed ≡ true → inner ≡ made → IfOk made (λ i. view i ≡ nothing) → IfOk inner IsInside
  inside_closed inner made on is known =
      subst (λ r. IfOk r IsInside) (sym is) (weaker _ _ (λ i h. h ∙ ap (λ b. cond b nothing (body (map slot_view slots ++ scope))) (sym on)) made known)

  pub inside_open : {E : Type 0} (inner made : Result C E) (held : List Slot) → held ≡ slots → closed ≡ false → inner ≡ made → IfOk made (λ i. view i ≡ body (map slot_view held ++ scope)) → IfOk inner IsInside
  inside_open inner made held kept off is known =
      subst (λ r. IfOk r IsInside) (sym is) (weaker _ _ (λ i h. h ∙ (ap (λ l. body (map slot_view l ++ scope)) kept ∙ ap (λ b. cond b nothing (body (map slot_view slots ++ scope))) (sym off))) made known)

  pub around_right : {E A B : Type 0} (node : List ℕ → K → K) (t : Tables) (items : List (Typed A)) (ranges : List (Vec ℕ B))
      → map slot_view slots ≡ reverse (binder_of t.range (map typed_view items)).slots → map range_items ranges ≡ (binder_of t.range (map typed_view items)).ranges → closed ≡ (binder_of t.range (map typed_view items)).closed → (inner made : Result C E) → IfOk inner IsInside → IfOk made (λ c. IsOkAnd inner (λ i. view c ≡ wrapped node (map range_items ranges) (view i))) → IfOk made (λ c. view c ≡ nested node nothing t (map typed_view items) body scope)
  around_right node t items ranges turned found shut =
      made_known _ _ _ (λ i c inside outside. outside ∙ bound_right node nothing t (map typed_view items) body scope (map range_items ranges) (map slot_view slots) closed (view i) turned found shut inside)

-- ---- what is left of a list

pub one_item : {X Y Z E : Type 0} (f : X → Z) (h : Y → Z) (before old new : List X) (made : Result X E) (all xs : List Y) (i : ℕ) (y : Y) → IsOkAnd made (λ x. new ≡ old ++ x ∷ []) → IfOk made (λ x. f x ≡ h y) → xs ≡ all → i < length xs → y ≡ get_or xs i y
    → map f old ++ map h (drop i all) ≡ map f before ++ map h all → map f new ++ map h (drop (i + 1) all) ≡ map f before ++ map h all
one_item f h before old new (Ok x) all xs i y grown is same low at so_far =
    pushed f old new x (map h (drop (i + 1) all)) (map h (drop i all)) (map f before ++ map h all) grown
    (ap (λ l. map h (drop i l)) (sym same) ∙ (ap (map h) (drop_more xs i y low) ∙ (ap (λ z. h z ∷ map h (drop (i + 1) xs)) (sym at) ∙ (ap (λ z. z ∷ map h (drop (i + 1) xs)) (sym is) ∙ ap (λ l. f x ∷ map h (drop (i + 1) l)) same)))) so_far
one_item f h before old new (Err e) all xs i y grown is same low at so_far = absurd grown

pub no_item : {X Y Z : Type 0} (f : X → Z) (h : Y → Z) (before old : List X) (all xs : List Y) (i : ℕ) → xs ≡ all → length xs ≤ i → map f old ++ map h (drop i all) ≡ map f before ++ map h all → map f old ≡ map f before ++ map h all
no_item f h before old all xs i same end so_far =
    finished f old (map h (drop i all)) (map f before ++ map h all) (ap (λ l. map h (drop i l)) (sym same) ∙ ap (map h) (drop_all i xs end)) so_far
