-- Whether the objects of a step fit the parameters of its action, one after another.
use Rattle.std.proofs.Common.{◌≡◌, ◌<◌, ◌≤◌, ℕ, ◌+◌, Bool, true, false, List, [], map, length, get_or, min, sym, arith}
use Rattle.std.specs.Prelude.{Some}
use Rattle.std.specs.List.{slice_get}
use Rattle.std.proofs.lemmas.Option.{slice_get-get_or, get_or_from_slice_get}
use Rattle.pddl_formula.specs.TypedLists.{TypedValue}
use Rattle.pddl_task.specs.Tasks.{TaskValue}
use Rattle.pddl_linked_plan.specs.FittingObjects.{fits_number, some_unfit}
use Rattle.pddl_linked_plan.proofs.NumberedObjects.{IsLeft, unfit_there, fits_there, all_fit}

module _ (task : TaskValue) (numbers : List ℕ) (xs : List TypedValue) (i last : ℕ) (end : last ≡ min (length numbers) (length xs)) (so_far : IsLeft task numbers xs i) where
  -- there is a parameter at a place
  module _ (fitting : Bool) (low : i < last) (is : (x : TypedValue) → slice_get xs i ≡ Some x → fitting ≡ fits_number task (get_or numbers i 0) x.of) where
    abbrev x : TypedValue
    x = get_or xs i (record { item = []; of = [] })

    there : slice_get xs i ≡ Some x
    there = slice_get-get_or xs i (record { item = []; of = [] }) (omega (arith, end, low))

    at : x ≡ get_or xs i x
    at = sym (get_or_from_slice_get xs i x x there)

    -- its object does not fit
    pub parameter_unfit : fitting ≡ false → true ≡ some_unfit task numbers xs
    parameter_unfit off = unfit_there task numbers xs i last x fitting end low at (is x there) off so_far

    -- it does
    pub parameter_fits : fitting ≡ true → IsLeft task numbers xs (i + 1)
    parameter_fits on = fits_there task numbers xs i last x fitting end low at (is x there) on so_far

  -- there is none any more
  pub parameters_fit : last ≤ i → false ≡ some_unfit task numbers xs
  parameters_fit past = all_fit task numbers xs i last end past so_far
