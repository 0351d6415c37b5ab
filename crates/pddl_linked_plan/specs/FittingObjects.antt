-- Whether the objects of a step, by their numbers, fit its parameters.
use Rattle.std.specs.Prelude.{ℕ, Bool, false, not, ◌||◌, List, ◌∷◌}
use Rattle.std.specs.List.{slice_get}
use Rattle.std.specs.Option.{option_map_or}
use Rattle.pddl_formula.specs.TypedLists.{TypedValue}
use Rattle.pddl_task.specs.Names.{Name}
use Rattle.pddl_task.specs.Types.{pairs, fits}
use Rattle.pddl_task.specs.Tasks.{TaskValue}

-- the object of a number fits a type
abbrev pub fits_number : TaskValue → ℕ → List Name → Bool
fits_number task number types = option_map_or (λ o. fits (pairs task.types) o.of types) (slice_get task.objects number) false

-- some object of these numbers does not fit its parameter
abbrev pub some_unfit : TaskValue → List ℕ → List TypedValue → Bool
some_unfit task (number ∷ numbers) (x ∷ xs) = not (fits_number task number x.of) || some_unfit task numbers xs
some_unfit task _ _ = false
