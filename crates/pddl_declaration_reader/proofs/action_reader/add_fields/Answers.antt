use Rattle.pddl_sections.proofs.Heads.{rest_is}
use Rattle.pddl_declaration_reader.specs.Inner.Slots.{slots_view}
use Rattle.pddl_declaration_reader.proofs.SlotLaws.{fields_on, fields_stop, fields_end}
use Rattle.pddl_declaration_reader.proofs.action_reader.add_fields.Goals as goal

pub returns-then-not-branch : goal.returns-then-not-branch
returns-then-not-branch g c =
    let l = c.loop-rest in
    fields_stop (slots_view l.slots) l.rest.now _ l.invariant c.keyword-item.result c.item-item.result c.in-len2-up.len_at_least c.keyword-item.is c.item-item.is
    (rw c.if-not-branch.true at c.in_ok-add_field.ensures)

pub loop-rest-preserved : goal.loop-rest-preserved
loop-rest-preserved g c =
    let l = c.loop-rest in
    fields_on (slots_view l.slots) l.rest.now _ l.invariant c.keyword-item.result c.item-item.result c.in-len2-up.len_at_least c.keyword-item.is c.item-item.is
    (slots_view c.add_field.new.slots) _ (rw c.if-not-branch.false at c.in_ok-add_field.ensures) (rest_is 2 l.rest.now)

pub returns : goal.returns
returns g c =
    let l = c.loop-rest in
    fields_end (slots_view l.slots) l.rest.now _ l.invariant c.is_empty.result c.in_default.len_below c.is_empty.ensures
