use Rattle.std.proofs.Common.{refl}
use Rattle.pddl_items.specs.ItemTrees.{item_trees}
use Rattle.pddl_build.proofs.FoundParts.{pushed_part}
use Rattle.pddl_domain.specs.Actions.{action_view}
use Rattle.pddl_domain.specs.Domains.{domain_view}
use Rattle.pddl_declaration_reader.specs.Inner.ActionReading.{action_of}
use Rattle.pddl_domain_reader.specs.DomainTexts.{action}
use Rattle.pddl_domain_reader.specs.Inner.Sections.{with_part}
use Rattle.pddl_domain_reader.proofs.section_reader.add_content.Goals as goal

pub returns-in-Action : goal.returns-in-Action
returns-in-Action g c =
    let d = c.args.domain.now in
    rw c.in-Action.is
    (pushed_part action_view action (action_of (item_trees c.args.items.now)) d.actions.items c.push_found.new.list.items c.action_of.result c.push_found.result
    (λ xs. record (domain_view d) { actions = xs }) (with_part (domain_view d)) (λ a. refl) c.action_of.ensures c.push_found.ensures)
