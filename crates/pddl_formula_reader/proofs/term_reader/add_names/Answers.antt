use Rattle.std.proofs.Common.{refl, arith}
use Rattle.pddl_build.proofs.Parts.{plain_reads}
use Rattle.pddl_items.specs.Inner.TreeReading.{name_at}
use Rattle.pddl_formula_reader.proofs.Turns.{each_end}
use Rattle.pddl_formula_reader.proofs.Fills.{fill_on, fill_stop}
use Rattle.pddl_formula_reader.proofs.term_reader.add_names.Goals as goal

pub returns-then-not-branch : goal.returns-then-not-branch
returns-then-not-branch g c =
    let l = c.loop-item in
    fill_stop (λ xs. xs) (λ x. x) (λ xs x. refl) name_at c.args.items.now l.item-index c.item-item.result (omega arith) c.item-item.is l.names.items c.push_found.new.list.items _ l.invariant
    c.name_of.result (plain_reads c.name_of.result _ c.name_of.ensures) (rw c.if-not-branch.true at c.in_ok-push_found.ensures)

pub loop-item-preserved : goal.loop-item-preserved
loop-item-preserved g c =
    let l = c.loop-item in
    fill_on (λ xs. xs) (λ x. x) (λ xs x. refl) name_at c.args.items.now l.item-index c.item-item.result (omega arith) c.item-item.is l.names.items c.push_found.new.list.items _ l.invariant
    c.name_of.result (plain_reads c.name_of.result _ c.name_of.ensures) (rw c.if-not-branch.false at c.in_ok-push_found.ensures)

pub returns : goal.returns
returns g c =
    let l = c.loop-item in
    each_end name_at c.args.items.now l.item-index l.names.items _ (omega arith) l.invariant
