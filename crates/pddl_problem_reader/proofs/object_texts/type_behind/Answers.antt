use Rattle.std.proofs.Common.{sym, ◌∙◌}
use Rattle.pddl_items.specs.Items.{item_view}
use Rattle.pddl_formula_reader.proofs.TypedListLaws.{type_reads}
use Rattle.pddl_items.specs.ItemTrees.{item_tree}
use Rattle.pddl_problem_reader.proofs.object_texts.type_behind.Goals as goal

pub returns-in-Some-clause-spelled : goal.returns-in-Some-clause-spelled
returns-in-Some-clause-spelled g c = λ words lexed.
    let (more, behind, form) = rw c.in-Item.is at (c.in_ok-item.ensures.next words lexed) in
    record { more = more; item = item_view c.in-Item.item; lexed = behind; form = form; holds = type_reads.sound (item_tree c.in-Item.item) c.in-Some.types (sym c.in_ok-types.ensures ∙ c.in-Some.is) }
