use Rattle.std.proofs.Common.{map}
use Rattle.pddl_build.proofs.FoundParts.{right_part}
use Rattle.pddl_domain.specs.Declarations.{type_view}
use Rattle.pddl_declaration_reader.proofs.declaration_reader.declared_types_of.Goals as goal

pub returns : goal.returns
returns g c =
    rw c.if_right.ensures
    (right_part (λ v. map type_view v.items) c.add_declared_types-right.new.found c.add_declared_types-right.result _
    (rw (c.new-found.ensures, c.new-group.ensures.items) at c.add_declared_types-right.ensures))
