use Rattle.std.proofs.Common.{map, arith}
use Rattle.std.proofs.lemmas.List.{map_push}
use Rattle.pddl_formula_reader.proofs.Turns.{each_end}
use Rattle.pddl_formula_reader.proofs.Fills.{fill_on, fill_stop}
use Rattle.pddl_problem.specs.Inits.{init_view}
use Rattle.pddl_init_reader.specs.Inner.InitReading.{init_at}
use Rattle.pddl_init_reader.proofs.init_reader.add_inits.Goals as goal

pub returns-then-not-branch : goal.returns-then-not-branch
returns-then-not-branch g c =
    let l = c.loop-item in
    fill_stop (map init_view) init_view (map_push init_view) init_at c.args.items.now l.item-index c.item-item.result (omega arith) c.item-item.is l.inits.items c.push_found.new.list.items _ l.invariant
    c.init_of.result c.init_of.ensures (rw c.if-not-branch.true at c.in_ok-push_found.ensures)

pub loop-item-preserved : goal.loop-item-preserved
loop-item-preserved g c =
    let l = c.loop-item in
    fill_on (map init_view) init_view (map_push init_view) init_at c.args.items.now l.item-index c.item-item.result (omega arith) c.item-item.is l.inits.items c.push_found.new.list.items _ l.invariant
    c.init_of.result c.init_of.ensures (rw c.if-not-branch.false at c.in_ok-push_found.ensures)

pub returns : goal.returns
returns g c =
    let l = c.loop-item in
    each_end init_at c.args.items.now l.item-index (map init_view l.inits.items) _ (omega arith) l.invariant
