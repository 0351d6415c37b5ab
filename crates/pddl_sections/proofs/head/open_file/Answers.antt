use Rattle.std.proofs.Common.{ap, sym, ◌∙◌, arith}
use Rattle.std.specs.Prelude.{option_map}
use Rattle.pddl_items.specs.Items.{item_view, span_of}
use Rattle.pddl_sections.specs.Inner.Answers.{opening_at}
use Rattle.pddl_sections.specs.Openings.{opening_view}
use Rattle.pddl_sections.proofs.Heads.{rest_is, no_item, other_item, one_item, second_item}
use Rattle.pddl_sections.proofs.head.open_file.Goals as goal

pub returns-in_default : goal.returns-in_default
returns-in_default g c = no_item c.args.word.now c.args.items.now c.in_default.len_below

pub returns-in_default-2 : goal.returns-in_default-2
returns-in_default-2 g c =
    let word = c.args.word.now in
    other_item word c.args.items.now c.first-item.result c.span_of.result c.in-len1-up.len_at_least
    (sym (sym (ap (option_map opening_view) c.in_default-2.is) ∙ c.in_ok-opening.ensures ∙ ap (λ item. opening_at word (item_view item)) c.first-item.is))
    (c.span_of.ensures ∙ ap (λ item. span_of (item_view item)) c.first-item.is)

pub returns-in-empty : goal.returns-in-empty
returns-in-empty g c =
    let word = c.args.word.now in
    one_item word c.args.items.now c.first-item.result (opening_view c.in-Some.opening) c.in-len1-up.len_at_least (omega (arith, c.in-empty.len_below))
    (sym (sym (ap (option_map opening_view) c.in-Some.is) ∙ c.in_ok-opening.ensures ∙ ap (λ item. opening_at word (item_view item)) c.first-item.is))

pub returns : goal.returns
returns g c =
    let word = c.args.word.now in
    second_item word c.args.items.now _ c.first-item.result c.second-item.result (opening_view c.in-Some.opening) c.span_of-in-len1-up-rest.result
    (omega (arith, c.in-len1-up-rest.len_at_least))
    (sym (sym (ap (option_map opening_view) c.in-Some.is) ∙ c.in_ok-opening.ensures ∙ ap (λ item. opening_at word (item_view item)) c.first-item.is))
    (rest_is 1 c.args.items.now)
    (c.span_of-in-len1-up-rest.ensures ∙ ap (λ item. span_of (item_view item)) c.second-item.is)
