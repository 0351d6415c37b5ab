use Rattle.std.proofs.Common.{◌≡◌, ◌||◌, not, drop, map, flat_map}
use Rattle.pddl_formula.specs.TypedLists.{typed_view}
use Rattle.pddl_task.specs.Faults.{unknown_term, some_misfit}
use Rattle.pddl_names.specs.Parts.{terms_in}
use Rattle.pddl_names.specs.Scopes.{bound_in}
use Rattle.pddl_names.specs.Uses.{setting_of}
use Rattle.pddl_names.proofs.uses.look_at_use.Given as goal

-- the words of the whole are those of what is left, and some term of the whole does not fit where one did not so far, or one of those
-- that are left does not
abbrev pub invariant-loop-i : goal.invariant-loop-i
invariant-loop-i g l =
    let s = setting_of l.known in
    let b = bound_in l.scope in
    let terms = terms_in l.terms in
    let slots = map typed_view l.slots.parameters.now in
    record {
      kept : l.told ≡ l.fn.told;
      unknown : flat_map (unknown_term s b) (drop l.i terms) ≡ flat_map (unknown_term s b) terms;
      misfit : (not l.all_fit || some_misfit s b (drop l.i terms) (drop l.i slots)) ≡ some_misfit s b terms slots;
    }
