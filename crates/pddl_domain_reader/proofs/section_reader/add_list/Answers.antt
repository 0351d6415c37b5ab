use Rattle.std.proofs.Common.{sym, ap, subst, ◌∙◌, Option}
use Rattle.std.specs.Prelude.{IfOk}
use Rattle.pddl_items.specs.ItemTrees.{item_tree}
use Rattle.pddl_sections.proofs.Heads.{rest_is}
use Rattle.pddl_file.specs.Inner.WordReading.{head_key}
use Rattle.pddl_domain.specs.Domains.{domain_view}
use Rattle.pddl_domain_reader.specs.DomainTexts.{Part}
use Rattle.pddl_domain_reader.specs.Inner.Sections.{Adds}
use Rattle.pddl_domain_reader.proofs.DomainTurns.{keyword_first}
use Rattle.pddl_domain_reader.proofs.section_reader.add_list.Goals as goal

pub returns : goal.returns
returns g c =
    subst (λ (o : Option Part). IfOk c.add_content.result (Adds o (domain_view c.args.domain.now) (domain_view c.add_content.new.domain)))
    (keyword_first c.args.items.now _ c.head-item.result c.in-Some.keyword c.in-len1-up.len_at_least
    (sym c.in-Some.is ∙ c.head_keyword_of.ensures ∙ ap (λ item. head_key (item_tree item)) c.head-item.is) (rest_is 1 c.args.items.now))
    c.add_content.ensures
