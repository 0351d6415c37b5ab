use Rattle.std.proofs.Common.{◌≡◌, ◌<◌, ◌^◌, ℕ, suc, [], take, map, slice_get, Some}
use Rattle.pddl_domain.specs.Declarations.{TypeValue, type_view}
use Rattle.pddl_task.specs.Names.{is_in, item_of}
use Rattle.pddl_task.specs.Types.{types_of}
use Rattle.pddl_faults.proofs.SeenItems.{AreLeft}
use Rattle.pddl_types.specs.TypeTables.{StandsAt, IsTableOf}
use Rattle.pddl_types.proofs.types.put_types.Given as goal

-- the table of the types so far, where the parent of the one before stands at this place; those that stand twice are those of what is left
abbrev pub invariant-loop-number : goal.invariant-loop-number
invariant-loop-number g l =
    let told = map type_view (take l.number l.declared.items) in
    record {
      table : IsTableOf (types_of told) told l.parents.entries;
      last : (j : ℕ) (x : TypeValue) → suc j ≡ l.number → slice_get (map type_view l.declared.items) j ≡ Some x → StandsAt l.parents.entries l.over x.of;
      small : l.over < 2 ^ 63;
      left : AreLeft (λ t. item_of (type_view t)) (λ n. n) is_in [] l.declared.items l.number;
    }
