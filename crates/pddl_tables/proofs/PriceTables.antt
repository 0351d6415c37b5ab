-- A table of costs that is filled from the last item of `:init` to the first.
use Rattle.std.proofs.Common.{◌≡◌, ◌<◌, ℕ, ◌+◌, ◌/◌, cond, List, ◌∷◌, map, length, get_or, drop, Option, Some, Result, Ok, Err, IfOk, OnOk, refl, sym, ap, ◌∙◌, add-one, drop-cons}
use Rattle.std.specs.List.{filter_map}
use Rattle.std.specs.Map.{lookup}
use Rattle.std.specs.Result.{result_and}
use Rattle.pddl_problem.specs.Inits.{GroundValue, InitValue, holds, fails, value}
use Rattle.pddl_task.specs.Faults.{billion}
use Rattle.pddl_task.specs.Tasks.{TaskValue, cost_in, object_names, function_names}
use Rattle.pddl_state.specs.Atoms.{AtomValue, atom_eq}
use Rattle.pddl_compiled.specs.Tables.{number_atom}
use Rattle.pddl_tables.specs.Prices.{numbered_cost, price_before}

module _ (task : TaskValue) where
  abbrev number : GroundValue → AtomValue
  number g = number_atom (function_names task) (object_names task) g

  -- the costs that items give
  abbrev pub given : List InitValue → AtomValue → Option ℕ
  given items call = lookup (atom_eq call) (map (numbered_cost task) (filter_map cost_in items))

  one_more : (item : InitValue) (items : List InitValue) (old : AtomValue → Option ℕ) (call : AtomValue) → old call ≡ given items call → price_before task item old call ≡ given (item ∷ items) call
  one_more (holds f) items old call h = h
  one_more (fails f) items old call h = h
  one_more (value f n) items old call h = ap (λ o. cond (atom_eq call (number f)) (Some (n / billion)) o) h

  -- the item in front of those whose costs stand in the table
  pub one_earlier : {X : Type 0} (view : X → InitValue) (xs : List X) (i j : ℕ) (x : X) (old new : AtomValue → Option ℕ) → i < length xs → x ≡ get_or xs i x → j ≡ i + 1
      → ((call : AtomValue) → old call ≡ given (map view (drop j xs)) call) → ((call : AtomValue) → new call ≡ price_before task (view x) old call)
      → (call : AtomValue) → new call ≡ given (map view (drop i xs)) call
  one_earlier view xs i j x old new h at next held added = λ call.
      added call ∙ one_more (view x) (map view (drop j xs)) old call (held call) ∙ ap (λ ys. given (map view ys) call) (sym front)
    where
      behind : drop i xs ≡ get_or xs i x ∷ drop (i + 1) xs
      behind = rw (add-one, drop-cons xs i x h) refl

      front : drop i xs ≡ x ∷ drop j xs
      front = behind ∙ ap (λ y. y ∷ drop (i + 1) xs) (sym at) ∙ ap (λ k. x ∷ drop k xs) (sym next)

-- what a pass tells where it went right holds of what is answered behind it
pub behind : {T E : Type 0} (r : Result (Unit {0}) E) (answer : T) (P : T → Type 0) (Told : Type 0) → OnOk r Told → (Told → P answer) → IfOk (result_and r (Ok answer)) P
behind (Ok u) answer P Told told gives = gives told
behind (Err e) answer P Told told gives = tt
