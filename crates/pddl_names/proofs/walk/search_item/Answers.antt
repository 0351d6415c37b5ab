use Rattle.std.proofs.Common.{[], ◌∷◌, inl, inr}
use Rattle.pddl_problem.specs.Inits.{function_view}
use Rattle.pddl_task.specs.Places.{at, calls, counts, ground_call}
use Rattle.pddl_task.proofs.Lists.{append-none}
use Rattle.pddl_names.specs.Uses.{faults_by}
use Rattle.pddl_names.proofs.Walks.{in_turn}
use Rattle.pddl_names.proofs.walk.search_item.Goals as goal

pub returns-in-Value-clause-found : goal.returns-in-Value-clause-found
returns-in-Value-clause-found g c =
    let call = function_view c.in-Value.call in
    rw c.in-Value.is
    (in_turn (faults_by c.args.known.now) (at [] (calls (ground_call call)) ∷ []) (at [] (counts call.name c.in-Value.amount) ∷ []) _ _ _ c.lower.ensures.found
    (rw append-none (rw (c.requires.empty, c.as_bytes-function.ensures.value) at c.look_at_use-value.ensures.found)) (rw c.as_bytes-function.ensures.value at c.look-whole.ensures.found))

pub returns-in-Holds-clause-found : goal.returns-in-Holds-clause-found
returns-in-Holds-clause-found g c =
    let found = rw (c.requires.empty, c.as_bytes-predicate.ensures.value) at c.look_at_use.ensures.found in
    elim c.in-Holds.is [
      | inl here ↦ rw (here, append-none) found
      | inr here ↦ rw (here, append-none) found
    ]
