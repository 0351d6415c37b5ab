use Rattle.std.proofs.Common.{map, ap, ◌∙◌}
use Rattle.std.proofs.lemmas.List.{map_push}
use Rattle.pddl_items.specs.ItemTrees.{item_tree, item_trees}
use Rattle.pddl_items.specs.Inner.TreeReading.{all_of}
use Rattle.pddl_items.proofs.Fronts.{with_front, front_none}
use Rattle.pddl_formula_reader.proofs.Turns.{each_on, each_stop, each_end}
use Rattle.pddl_domain.specs.Declarations.{predicate_view}
use Rattle.pddl_declaration_reader.specs.Inner.DeclarationReading.{predicate_signature_at}
use Rattle.pddl_declaration_reader.proofs.declaration_reader.declared_predicates_of.Goals as goal

pub loop-item-init : goal.loop-item-init
loop-item-init g c =
    let whole = all_of (map predicate_signature_at (item_trees c.args.items.now)) in
    ap (λ predicates. with_front (map predicate_view predicates) whole) c.in_ok-predicates.ensures.items ∙ front_none whole

pub loop-item-preserved : goal.loop-item-preserved
loop-item-preserved g c =
    let l = c.loop-item in
    each_on predicate_signature_at c.args.items.now l.item-index c.item-item.result (map predicate_view l.predicates.items) _ c.loop-item-test.true (map predicate_view c.push.new.self.items) (predicate_view c.in-Some.predicate) l.invariant
    ((rw c.in-Some.is at c.in_ok-predicate.ensures) ∙ ap (λ item. predicate_signature_at (item_tree item)) c.item-item.is)
    (ap (map predicate_view) c.in_ok-push.ensures.items ∙ map_push predicate_view l.predicates.items c.in-Some.predicate)

pub returns-in_default : goal.returns-in_default
returns-in_default g c =
    let l = c.loop-item in
    each_stop predicate_signature_at c.args.items.now l.item-index c.item-item.result (map predicate_view l.predicates.items) _ c.loop-item-test.true l.invariant
    ((rw c.in_default.is at c.in_ok-predicate.ensures) ∙ ap (λ item. predicate_signature_at (item_tree item)) c.item-item.is)

pub returns : goal.returns
returns g c =
    let l = c.loop-item in
    each_end predicate_signature_at c.args.items.now l.item-index (map predicate_view l.predicates.items) _ c.loop-item-test.false l.invariant
