use Rattle.std.proofs.Common.{◌∙◌}
use Rattle.pddl_sections.proofs.Heads.{rest_is}
use Rattle.pddl_file.proofs.WordTurns.{increase_first, either_first, at_first, other_first}
use Rattle.pddl_file.proofs.mark.list_mark.Goals as goal

pub returns-then-is_word_item : goal.returns-then-is_word_item
returns-then-is_word_item g c =
    c.then_some.ensures
    ∙ increase_first c.args.in_types c.args.items.now c.head-item.result c.in-Word.token c.in-len1-up.len_at_least c.head-item.is c.in-Word.is c.in_default-plain_mark.ensures
    c.is_increase.result c.if-is_word_item.ensures c.is_increase.ensures.spelled

pub returns-then-is_word_item-2 : goal.returns-then-is_word_item-2
returns-then-is_word_item-2 g c =
    c.then_some-then-is_word_item-2.ensures
    ∙ either_first c.args.in_types c.args.items.now c.head-item.result c.in-Word.token c.in-len1-up.len_at_least c.head-item.is c.in-Word.is c.in_default-plain_mark.ensures
    c.if-is_word_item.ensures c.if-is_word_item-2.ensures

pub returns-then-is_word_item-3 : goal.returns-then-is_word_item-3
returns-then-is_word_item-3 g c =
    c.then_some-then-is_word_item-3.ensures
    ∙ at_first c.args.in_types c.args.items.now c.head-item.result c.in-Word.token c.in-len1-up.len_at_least c.head-item.is c.in-Word.is c.in_default-plain_mark.ensures
    c.is_number_first.result _ c.if-is_word_item.ensures c.if-is_word_item-2.ensures c.if-is_word_item-3.ensures c.is_number_first.ensures (rest_is 1 c.args.items.now)

pub returns-else-is_word_item-3 : goal.returns-else-is_word_item-3
returns-else-is_word_item-3 g c =
    other_first c.args.in_types c.args.items.now c.head-item.result c.in-Word.token c.in-len1-up.len_at_least c.head-item.is c.in-Word.is c.in_default-plain_mark.ensures
    c.if-is_word_item.ensures c.if-is_word_item-2.ensures c.if-is_word_item-3.ensures
