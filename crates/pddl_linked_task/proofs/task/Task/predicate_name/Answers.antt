use Rattle.std.proofs.Common.{length, map, ap, refl, sym, ltb-true, ltb-false}
use Rattle.std.proofs.lemmas.Option.{slice_get_read, slice_get_past}
use Rattle.pddl_domain.specs.Declarations.{predicate_view}
use Rattle.pddl_types.proofs.TaskNames.{symbol_at}
use Rattle.pddl_linked_task.proofs.task.Task.predicate_name.Goals as goal

pub returns-in-Some : goal.returns-in-Some
returns-in-Some g c =
    let xs = c.deref.result.now in
    let found = c.in-Some.ensures.lookup in
    let read = slice_get_read xs (length xs) c.args.number c.in-Some.declared.now refl (ltb-true _ _ (sym found.0)) found.1 in
    rw (← c.self.view_is, c.as_name.ensures.value) (rw read at (symbol_at xs _ c.args.number (ap (map predicate_view) c.deref.ensures.value)))

pub returns-in-None : goal.returns-in-None
returns-in-None g c =
    let xs = c.deref.result.now in
    let past = slice_get_past xs c.args.number (ltb-false _ _ (sym c.in-None.ensures.lookup.0)) in
    rw (← c.self.view_is) (rw past at (symbol_at xs _ c.args.number (ap (map predicate_view) c.deref.ensures.value)))
