use Rattle.std.proofs.Common.{map, arith}
use Rattle.std.proofs.lemmas.List.{map_push}
use Rattle.pddl_formula.specs.Terms.{term_view}
use Rattle.pddl_formula_reader.specs.Inner.Reading.{term_at}
use Rattle.pddl_formula_reader.proofs.Turns.{each_end}
use Rattle.pddl_formula_reader.proofs.Fills.{fill_on, fill_stop}
use Rattle.pddl_formula_reader.proofs.term_reader.add_terms.Goals as goal

pub returns-then-not-branch : goal.returns-then-not-branch
returns-then-not-branch g c =
    let l = c.loop-item in
    fill_stop (map term_view) term_view (map_push term_view) term_at c.args.items.now l.item-index c.item-item.result (omega arith) c.item-item.is l.terms.items c.push_found.new.list.items _ l.invariant
    c.term_of.result c.term_of.ensures (rw c.if-not-branch.true at c.in_ok-push_found.ensures)

pub loop-item-preserved : goal.loop-item-preserved
loop-item-preserved g c =
    let l = c.loop-item in
    fill_on (map term_view) term_view (map_push term_view) term_at c.args.items.now l.item-index c.item-item.result (omega arith) c.item-item.is l.terms.items c.push_found.new.list.items _ l.invariant
    c.term_of.result c.term_of.ensures (rw c.if-not-branch.false at c.in_ok-push_found.ensures)

pub returns : goal.returns
returns g c =
    let l = c.loop-item in
    each_end term_at c.args.items.now l.item-index (map term_view l.terms.items) _ (omega arith) l.invariant
