-- Names that are seen one after another, and a set of them.
use Rattle.std.proofs.Common.{◌≡◌, ℕ, Bool, true, false, ◌||◌, not, cond, List, [], ◌∷◌, ◌++◌, map, drop, Result, refl, bytes_eq, arith, Bor}
use Rattle.std.specs.List.{list_any}
use Rattle.std.proofs.Math.Bool.{not-not}
use Rattle.pddl_domain.specs.declared.domain.Action.{Action}
use Rattle.pddl_domain.specs.Actions.{action_view}
use Rattle.pddl_task.specs.Names.{Name, is_in}
use Rattle.pddl_task.specs.Places.{Place}
use Rattle.pddl_task.proofs.Lists.{bytes_same}
use Rattle.pddl_faults.specs.declared.fault.LinkFault.{LinkFault}
use Rattle.pddl_faults.proofs.FoundFaults.{IsFoundUpTo}
use Rattle.pddl_faults.proofs.SeenItems.{any_more}
use Rattle.pddl_names.specs.FaultParts.{action_faults}

abbrev pub has : List (Bor (List ℕ)) → Name → Bool
has keys n = list_any (λ k. bytes_eq n k.now) keys

-- a set has the names that were seen
abbrev pub HasNames : List (Bor (List ℕ)) → List Name → Type 0
HasNames keys seen = (n : Name) → has keys n ≡ is_in seen n

has_more : (keys : List (Bor (List ℕ))) (key : Bor (List ℕ)) (there : Bool) (n : Name) → has keys key.now ≡ there → has (cond there keys (keys ++ key ∷ [])) n ≡ (has keys n || bytes_eq n key.now)
has_more keys key false n off = any_more (λ k. bytes_eq n k.now) keys key
has_more keys key true n on = grind (arith, on, bytes_same n key.now)

-- whether a name was seen, and the set with it
pub put_seen : (keys : List (Bor (List ℕ))) (seen : List Name) (key : Bor (List ℕ)) (name : Name) (is_new : Bool) (next : List (Bor (List ℕ))) → HasNames keys seen → key.now ≡ name → is_new ≡ not (has keys key.now)
    → next ≡ cond (has keys key.now) keys (keys ++ key ∷ []) → (not is_new ≡ is_in seen name) × HasNames next (seen ++ name ∷ [])
put_seen keys seen key name is_new next same named added put = (
  rw (added, not-not, same key.now, named) refl,
  λ n. rw (put, has_more keys key (has keys key.now) n refl, same n, named, any_more (bytes_eq n) seen name) refl,
)

-- what was found in the actions up to one, and the names that a set has from them
pub record ActionsUpTo {A : Type 0} (sought : Place → List (ℕ × Name)) (all : List (Action A)) (i : ℕ) (keys : List (Bor (List ℕ))) (found : Result (Unit {0}) LinkFault) : Type 0 where
  pub seen : List Name
  pub same : HasNames keys seen
  pub so_far : IsFoundUpTo (action_faults sought seen (map action_view (drop i all))) (action_faults sought [] (map action_view all)) found
