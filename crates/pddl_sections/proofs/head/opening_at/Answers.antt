use Rattle.std.proofs.Common.{◌≡◌, ℕ, List, ap, sym, subst, ◌∙◌, Option}
use Rattle.std.specs.Prelude.{IfOk, option_map}
use Rattle.pddl_token.specs.Trees.{Placed}
use Rattle.pddl_items.specs.Items.{item_view, items_view}
use Rattle.pddl_sections.specs.Inner.Answers.{opening_of, opening_at}
use Rattle.pddl_sections.specs.Openings.{opening_view}
use Rattle.pddl_sections.proofs.Heads.{opening_list}
use Rattle.pddl_sections.proofs.head.opening_at.Goals as goal

pub returns-in-List : goal.returns-in-List
returns-in-List g c =
    let word = c.args.word.now in
    subst (λ (o : Option (List ℕ × List Placed)). IfOk c.opening_of.result (λ found. option_map opening_view found ≡ o))
    (ap (λ xs. opening_of word (items_view xs)) c.deref.ensures.value ∙ opening_list word c.in-List.items c.in-List.field-1
    ∙ ap (λ item. opening_at word (item_view item)) (sym c.in-List.is))
    c.opening_of.ensures
