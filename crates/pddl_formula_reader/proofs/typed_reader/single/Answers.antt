use Rattle.std.proofs.Common.{sym, ◌∙◌}
use Rattle.pddl_formula_reader.proofs.Fills.{one_type}
use Rattle.pddl_formula_reader.proofs.typed_reader.single.Goals as goal

pub returns : goal.returns
returns g c =
    one_type c.push_found-right.new.list c.new-names.result.items c.new-names.ensures.items c.in_ok-list_if_right.field-0 c.args.name c.push_found-right.result c.type_of_names.result
    c.push_found-right.ensures (sym c.list_if_right.ensures ∙ c.in_ok-list_if_right.was) c.type_of_names.ensures
