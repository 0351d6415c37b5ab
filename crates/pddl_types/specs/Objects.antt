-- Objects by name, as they are listed one after another. Own.
use Rattle.std.specs.Prelude.{◌≡◌, ℕ, Bool, false, not, List, Option, Some, None, ⊤, find, map, All}
use Rattle.std.specs.Option.{option_map_or}
use Rattle.std.specs.Borrow.{Bor}
use Rattle.pddl_formula.specs.TypedLists.{TypedValue}
use Rattle.pddl_formula.specs.declared.type_names.Typed.{Typed}
use Rattle.pddl_task.specs.Names.{Name, item_of, is_named, same_names, firsts, wrong_words}
use Rattle.pddl_types.specs.KnownNames.{object_in}
use Rattle.pddl_types.specs.Told.{ToldValue, IsAt}
use Rattle.pddl_types.specs.declared.listed.Listed.{Listed}

-- the type of what is typed, where there is one, is told at a number
abbrev pub IsAtOf : ToldValue → Option TypedValue → Option ℕ → Type 0
IsAtOf told None None = ⊤
IsAtOf told (Some x) (Some number) = IsAt told x.of number
IsAtOf told _ _ = ⊥

-- the first of its name has another type
abbrev pub is_off : List TypedValue → TypedValue → Bool
is_off before x = option_map_or (λ y. not (same_names y.of x.of)) (find (is_named x.item) before) false

-- of names with types behind others, each whose first has another type
abbrev pub off_types : List TypedValue → List TypedValue → List Name
off_types = wrong_words is_off item_of

-- an object stands under its name, and its type is told at the number that is held with it
abbrev pub IsObjectAt : {A : _} → ToldValue → List ℕ × (Bor (Typed A) × ℕ) → Type 0
IsObjectAt told e = (e.1.0.now.name ≡ e.0) × IsAt told e.1.0.now.types e.1.1

-- of what was seen, each name is listed at its first place, with what it names and the number of its type
pub record AreSeen {A B : Type 0} (told : ToldValue) (seen : List TypedValue) (listed : Listed A B) : Type 0 where
  pub objects : map object_in listed.objects.entries ≡ firsts seen
  pub each : All (IsObjectAt told) listed.objects.entries
