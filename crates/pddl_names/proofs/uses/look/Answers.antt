use Rattle.std.proofs.lemmas.List.{map-append}
use Rattle.pddl_task.proofs.Lists.{append-none}
use Rattle.pddl_faults.proofs.FoundFaults.{passed_found}
use Rattle.pddl_names.proofs.uses.look.Goals as goal

pub returns-in-Says-clause-found : goal.returns-in-Says-clause-found
returns-in-Says-clause-found g c = rw (c.in-Says.is, append-none) c.look_at_use.ensures.found

pub returns-in-Calls-clause-found : goal.returns-in-Calls-clause-found
returns-in-Calls-clause-found g c = rw (c.in-Calls.is, append-none) c.look_at_use-in-Calls.ensures.found

pub returns-in-Equates-clause-found : goal.returns-in-Equates-clause-found
returns-in-Equates-clause-found g c =
    let told = c.args.told.now in
    rw c.in-Equates.is
    (simp (append-none, map-append) (c.lower.ensures.found _ _ (passed_found 26 _ c.look_at_term-first.result (c.look_at_term-first.ensures told c.requires))
    (passed_found 26 _ c.look_at_term.result (c.look_at_term.ensures told c.requires))))
