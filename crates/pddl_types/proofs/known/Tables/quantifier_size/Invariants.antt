use Rattle.std.proofs.Common.{◌≡◌, drop, map, slice_get, Some}
use Rattle.pddl_formula.specs.TypedLists.{TypedValue, typed_view}
use Rattle.pddl_task.specs.GroundSize.{capped, quantifier_size}
use Rattle.pddl_types.specs.Known.{count_in}
use Rattle.pddl_types.proofs.known.Tables.quantifier_size.Given as goal

-- the size of what is behind a variable, and how many objects fit the first variable there
abbrev pub invariant-loop-i : goal.invariant-loop-i
invariant-loop-i g l =
    let all = map typed_view l.variables.items in
    record {
      so_far : l.size ≡ capped (quantifier_size (count_in l.self.known) (drop l.i all) l.body);
      last : (x : TypedValue) → slice_get all l.i ≡ Some x → l.count ≡ count_in l.self.known x.of;
    }
