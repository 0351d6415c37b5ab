use Rattle.std.proofs.Common.{map}
use Rattle.pddl_build.proofs.FoundParts.{right_part}
use Rattle.pddl_formula.specs.TypedLists.{typed_view}
use Rattle.pddl_formula_reader.proofs.typed_reader.typed_list_of.Goals as goal

pub returns : goal.returns
returns g c =
    rw c.if_right.ensures
    (right_part (λ v. map typed_view v.items) c.add_typed_list-right.new.found c.add_typed_list-right.result _
    (rw (c.new-found.ensures, c.new-group.ensures.items) at c.add_typed_list-right.ensures))
