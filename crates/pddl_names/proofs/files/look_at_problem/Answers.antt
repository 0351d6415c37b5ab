use Rattle.pddl_names.proofs.FoundParts.{from_parts, passed_first, passed_part, holds_on}
use Rattle.pddl_names.proofs.HeldFiles.{known_faults, nothing_bound, known_still, known_more}
use Rattle.pddl_names.proofs.files.look_at_problem.Goals as goal

pub returns-in-Err-clause-found : goal.returns-in-Err-clause-found
returns-in-Err-clause-found g c = rw c.in-Some.is (passed_first 23 _ _ c.in-Err.fault (rw c.requires.typed at c.in-Err.ensures.passes) (simp from_parts))

pub search_problem-places-requires : goal.search_problem-places-requires
search_problem-places-requires g c = nothing_bound (known_more c.requires c.add.ensures.told c.add.ensures.kept (c.in-Ok.ensures.seen _ c.requires.listed).1)

pub returns-in-Ok-clause-found : goal.returns-in-Ok-clause-found
returns-in-Ok-clause-found g c =
    let seen = c.in-Ok.ensures.seen _ c.requires.listed in
    let none = rw c.requires.typed at c.in-Ok.ensures.passes in
    rw (c.in-Some.is, none)
    (c.lower-in-Ok.ensures.found _ _ seen.0
    (c.lower.ensures.found _ _ (rw (known_faults (known_more c.requires c.add.ensures.told c.add.ensures.kept seen.1)) at c.search_problem-places.ensures.found)
    (c.lower-alone.ensures.found _ _ (rw c.deref.ensures.value at c.claims-init.ensures)
    (passed_part 25 _ c.object_types.result (rw c.deref-in-Some.ensures.value at c.object_types.ensures)))))

pub returns-in-Ok-clause-known : goal.returns-in-Ok-clause-known
returns-in-Ok-clause-known g c =
    let seen = c.in-Ok.ensures.seen _ c.requires.listed in
    rw c.in-Some.is (holds_on c.lower-in-Ok.result (known_still (known_more c.requires c.add.ensures.told c.add.ensures.kept seen.1) c.search_problem-places.ensures.told))
