use Rattle.std.proofs.Common.{sym, subst, ◌∙◌, Option}
use Rattle.std.specs.Prelude.{IfOk}
use Rattle.pddl_sections.proofs.Heads.{rest_is}
use Rattle.pddl_problem_reader.specs.ProblemTexts.{Part}
use Rattle.pddl_problem_reader.specs.Inner.Slots.{slots_view, Fills}
use Rattle.pddl_problem_reader.proofs.ItemTurns.{keyword_first}
use Rattle.pddl_problem_reader.proofs.section_reader.read_list.Goals as goal

pub returns : goal.returns
returns g c =
    subst (λ (o : Option Part). IfOk c.read_content.result (Fills o (slots_view c.args.slots.now) (slots_view c.read_content.new.slots)))
    (keyword_first c.args.items.now _ c.head-item.result c.in-Some.keyword c.in-len1-up.len_at_least c.head-item.is (sym c.in-Some.is ∙ c.head_keyword_of.ensures) (rest_is 1 c.args.items.now))
    c.read_content.ensures
