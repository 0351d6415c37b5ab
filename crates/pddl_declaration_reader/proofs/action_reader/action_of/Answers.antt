use Rattle.std.proofs.Common.{◌≡◌, Some, IfOk, refl, ap, ◌∙◌}
use Rattle.std.specs.Prelude.{option_map}
use Rattle.std.specs.Option.{option_zip}
use Rattle.pddl_items.specs.ItemTrees.{item_tree}
use Rattle.pddl_items.specs.Inner.TreeReading.{name_at}
use Rattle.pddl_build.specs.Results.{both_of}
use Rattle.pddl_build.proofs.Parts.{both_reads}
use Rattle.pddl_build.proofs.FoundParts.{read_itself}
use Rattle.pddl_sections.proofs.Heads.{rest_is}
use Rattle.pddl_declaration_reader.specs.Inner.Slots.{slots_view, no_slots, slots_from}
use Rattle.pddl_declaration_reader.proofs.SlotLaws.{titled}
use Rattle.pddl_declaration_reader.proofs.action_reader.action_of.Goals as goal

pub returns-in-Some : goal.returns-in-Some
returns-in-Some g c =
    let read : IfOk (both_of c.name_of.result c.slots_of.result) (λ found. option_map (λ q. (q.0, slots_view q.1)) found ≡ option_zip (name_at (item_tree c.title-item.result)) (slots_from no_slots _)) =
    both_reads (λ n. n) slots_view c.name_of.result c.slots_of.result _ _ _ (read_itself c.name_of.result _ c.name_of.ensures) c.slots_of.ensures refl in
    ap Some c.action_by.ensures ∙ titled c.args.items.now _ c.title-item.result c.in-len1-up.len_at_least c.title-item.is (rest_is 1 c.args.items.now) _ (rw (← c.in_ok-name.ensures, c.in-Some.is) at read)

pub returns-in-None : goal.returns-in-None
returns-in-None g c =
    let read : IfOk (both_of c.name_of.result c.slots_of.result) (λ found. option_map (λ q. (q.0, slots_view q.1)) found ≡ option_zip (name_at (item_tree c.title-item.result)) (slots_from no_slots _)) =
    both_reads (λ n. n) slots_view c.name_of.result c.slots_of.result _ _ _ (read_itself c.name_of.result _ c.name_of.ensures) c.slots_of.ensures refl in
    titled c.args.items.now _ c.title-item.result c.in-len1-up.len_at_least c.title-item.is (rest_is 1 c.args.items.now) _ (rw (← c.in_ok-name.ensures, c.in-None.is) at read)
