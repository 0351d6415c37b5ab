use Rattle.std.proofs.Common.{◌-◌, refl, map, sym, ap, ◌∙◌, arith}
use Rattle.std.proofs.lemmas.List.{length-map, drop_all}
use Rattle.pddl_domain.specs.Declarations.{type_view}
use Rattle.pddl_task.specs.Names.{item_of}
use Rattle.pddl_task.specs.Faults.{first_alone}
use Rattle.pddl_types.specs.TypeTables.{Row}
use Rattle.pddl_types.proofs.TypeTables.{some_cycle, stands, told_at}
use Rattle.pddl_types.proofs.types.first_cycle.Goals as goal

pub loop-declared_type-init : goal.loop-declared_type-init
loop-declared_type-init g c = refl

pub bounds-numbers-place : goal.bounds-numbers-place
bounds-numbers-place g c = omega (arith, c.in-Some.ensures.within, c.requires.numbers.many, length-map c.args.table.now.entries (λ (r : Row). r.1 - 1))

pub unreachable-requires : goal.unreachable-requires
unreachable-requires g c = stands type_view c.args.declared.now c.requires.table c.loop-declared_type-test.true c.declared_type-item.is c.as_bytes-name.result c.as_bytes-name.ensures.value (sym c.get_index_of.ensures.index ∙ c.in_default.is)

pub returns-then-numbers-place-ne0 : goal.returns-then-numbers-place-ne0
returns-then-numbers-place-ne0 g c =
    (told_at type_view c.args.declared.now c.requires.table c.loop-declared_type-test.true c.declared_type-item.is c.as_bytes-name.result c.as_bytes-name.ensures.value c.requires.numbers c.in-Some.ensures.index c.loop-declared_type.invariant).0
    c.if-numbers-place-ne0.true

pub loop-declared_type-preserved : goal.loop-declared_type-preserved
loop-declared_type-preserved g c =
    (told_at type_view c.args.declared.now c.requires.table c.loop-declared_type-test.true c.declared_type-item.is c.as_bytes-name.result c.as_bytes-name.ensures.value c.requires.numbers c.in-Some.ensures.index c.loop-declared_type.invariant).1
    c.if-numbers-place-ne0.false

pub unreachable-requires-2 : goal.unreachable-requires-2
unreachable-requires-2 g c =
    let declared = map type_view c.args.declared.now in
    let past = drop_all c.loop-declared_type.declared_type-index (map item_of declared) (omega (arith, c.loop-declared_type-test.false, length-map c.args.declared.now type_view, length-map declared item_of)) in
    some_cycle declared c.args.table.now.entries c.requires.table c.requires.round (ap first_alone (sym (rw past at c.loop-declared_type.invariant)))
