-- Variables in scope with the numbers of their types, the innermost first.
use Rattle.std.specs.Prelude.{◌≡◌, ℕ, suc, List, [], ◌∷◌, map, length, cond, unwrap_or, bytes_eq}
use Rattle.std.specs.Borrow.{Bor}
use Rattle.std.specs.Map.{lookup}
use Rattle.pddl_formula.specs.TypedLists.{TypedValue, typed_view}
use Rattle.pddl_task.specs.Names.{Name, is_named}
use Rattle.pddl_names.specs.declared.scope.Bound.{Bound}

-- a variable with the number of its type
abbrev pub entry_of : {A : _} → Bound A → TypedValue × ℕ
entry_of b = (typed_view b.variable.now, b.number)

-- the variables, without the numbers of their types
abbrev pub bound_in : List (TypedValue × ℕ) → List TypedValue
bound_in es = map (λ e. e.0) es

-- the number of the innermost of a name, and how many are in scope up to it; twice 0 where none of the name is
abbrev pub innermost_of : Name → List (TypedValue × ℕ) → ℕ × ℕ
innermost_of n [] = (0, 0)
innermost_of n (e ∷ es) = cond (is_named n e.0) (e.1, suc (length es)) (innermost_of n es)

-- the latter alone
abbrev pub depth_of : Name → List (TypedValue × ℕ) → ℕ
depth_of n es = (innermost_of n es).1

-- each knows the innermost of its name among those before it, which it hides
abbrev pub AreHidden : {A : _} → List (Bound A) → Type 0
AreHidden [] = Unit
AreHidden (b ∷ bs) = (b.hidden ≡ innermost_of b.variable.now.name (map entry_of bs)) × AreHidden bs

-- so it does, and a table has the innermost of each name
pub record IsScope {A : Type 0} (bs : List (Bound A)) (table : List (Bor Name × (ℕ × ℕ))) : Type 0 where
  pub hidden : AreHidden bs
  pub innermost : (n : Name) → unwrap_or (lookup (λ k. bytes_eq n k.now) table) (0, 0) ≡ innermost_of n (map entry_of bs)

-- the variables of a list are entered one after another
abbrev pub entered : List TypedValue → List ℕ → List (TypedValue × ℕ) → List (TypedValue × ℕ)
entered [] numbers es = es
entered (x ∷ xs) [] es = es
entered (x ∷ xs) (n ∷ numbers) es = entered xs numbers ((x, n) ∷ es)
