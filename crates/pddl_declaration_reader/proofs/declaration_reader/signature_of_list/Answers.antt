use Rattle.std.proofs.Common.{map, refl, sym, ◌∙◌}
use Rattle.pddl_items.specs.Inner.TreeReading.{name_at}
use Rattle.pddl_sections.proofs.Heads.{rest_is}
use Rattle.pddl_formula.specs.TypedLists.{typed_view}
use Rattle.pddl_declaration_reader.specs.Inner.DeclarationReading.{function_of_list}
use Rattle.pddl_declaration_reader.proofs.DeclarationTurns.{head_fails, parameters_fail, declares}
use Rattle.pddl_declaration_reader.proofs.declaration_reader.signature_of_list.Goals as goal

pub returns-in_default-2 : goal.returns-in_default-2
returns-in_default-2 g c =
    head_fails name_at function_of_list (λ head ts. refl) c.args.items.now c.head-item.result c.in-len1-up.len_at_least c.head-item.is (sym c.in_default-2.is ∙ c.in_ok-name.ensures)

pub returns-in_default-3 : goal.returns-in_default-3
returns-in_default-3 g c =
    parameters_fail name_at function_of_list (λ head ts. refl) c.args.items.now c.head-item.result c.in-len1-up.len_at_least c.head-item.is
    c.in-Some.name (sym c.in-Some.is ∙ c.in_ok-name.ensures) _ (rest_is 1 c.args.items.now) (rw c.in_default-3.is at c.in_ok-parameters.ensures)

pub returns : goal.returns
returns g c =
    declares name_at function_of_list (λ head ts. refl) c.args.items.now c.head-item.result c.in-len1-up.len_at_least c.head-item.is
    c.in-Some.name (sym c.in-Some.is ∙ c.in_ok-name.ensures) _ (rest_is 1 c.args.items.now)
    (map typed_view c.in-Some-2.parameters.items) (rw c.in-Some-2.is at c.in_ok-parameters.ensures)
