-- Types of items of a list, and of neighbours that share one.
use Rattle.std.proofs.Common.{◌≡◌, ◌<◌, ℕ, List, map, length, get_or, slice_get, option_map, Some, refl, sym, ap, ◌∙◌, subst}
use Rattle.std.proofs.lemmas.Option.{slice_get-map, slice_get_read}
use Rattle.pddl_formula.specs.TypedLists.{WithType, TypedValue, typed_view}
use Rattle.pddl_formula.specs.Groups.{HaveOneType}
use Rattle.pddl_formula.specs.declared.type_names.Typed.{Typed}

-- what holds of the type of an item holds of that of the next, where the two have one type
pub of_next : {X T : Type 0} (P : T → Type 0) (xs : List (WithType X T)) (i j : ℕ) → HaveOneType xs i j → ((x : WithType X T) → slice_get xs i ≡ Some x → P x.of)
    → (y : WithType X T) → slice_get xs j ≡ Some y → P y.of
of_next {X} {T} P xs i j one known y at =
    let same : one.1 ≡ y = cc in
    subst P (one.4 ∙ ap (λ (z : WithType X T). z.of) same) (known one.0 one.2)

-- an item that is read has the type of what is seen at its place
pub type_at : {A : Type 0} (xs given : List (Typed A)) (i : ℕ) (t : Typed A) (x : TypedValue) → given ≡ xs → i < length xs → t ≡ get_or given i t → slice_get (map typed_view xs) i ≡ Some x
    → (get_or given i t).types ≡ x.of
type_at xs given i t x same lt is at =
    let here : slice_get xs i ≡ Some t = slice_get_read xs (length xs) i t refl lt (is ∙ ap (λ l. get_or l i t) same) in
    let seen : Some (typed_view t) ≡ Some x = ap (option_map typed_view) (sym here) ∙ sym (slice_get-map typed_view xs i) ∙ at in
    let view : typed_view t ≡ x = cc in
    ap (λ (u : Typed _). u.types) (sym is) ∙ ap (λ (z : TypedValue). z.of) view
