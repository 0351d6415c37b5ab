use Rattle.std.proofs.Common.{◌<◌, ◌≤◌, [], length, arith}
use Rattle.std.proofs.lemmas.Result.{err_from_is_err_and}
use Rattle.pddl_items.specs.Items.{items_view}
use Rattle.pddl_sections.specs.Inner.Verdicts.{verdict}
use Rattle.pddl_file.specs.Inner.WordReading.{nothing_seen}
use Rattle.pddl_file.proofs.SectionTurns.{sections_stop}
use Rattle.pddl_problem_reader.specs.Inner.ProblemReading.{problem_readers}
use Rattle.pddl_problem_reader.specs.Inner.Slots.{slots_view}
use Rattle.pddl_problem_reader.proofs.SlotLaws.{so_far_start, so_far_end, so_far_on}
use Rattle.pddl_problem_reader.proofs.section_reader.read_sections.Goals as goal

pub loop-item-init : goal.loop-item-init
loop-item-init g c = so_far_start (slots_view c.args.slots.now) c.nothing-seen.result (items_view c.args.items.now) c.nothing-seen.ensures

pub returns-in_err-keyword-clause-refused : goal.returns-in_err-keyword-clause-refused
returns-in_err-keyword-clause-refused g c =
    let l = c.loop-item in
    let xs = c.args.items.now in
    let lt : l.item-index < length xs = omega arith in
    let p = err_from_is_err_and c.from_residual.result c.from_residual.ensures.1 in
    rw (p.1, p.2)
    (sections_stop problem_readers l.seen l.invariant.found xs l.item-index (verdict problem_readers nothing_seen [] (items_view xs)) l.invariant.goes
    c.item-item.result lt c.item-item.is c.in_err-keyword.field-0.0 c.in_err-keyword.ensures.stops)

pub loop-item-preserved : goal.loop-item-preserved
loop-item-preserved g c =
    let l = c.loop-item in
    let xs = c.args.items.now in
    let lt : l.item-index < length xs = omega arith in
    so_far_on (slots_view c.args.slots.now) l.seen (slots_view l.slots) xs l.item-index (verdict problem_readers nothing_seen [] (items_view xs)) l.invariant
    c.item-item.result lt c.item-item.is c.in_ok-keyword.keyword c.with-seen.result (slots_view c.read_section.new.slots) c.in_ok-keyword.ensures.fits c.with-seen.ensures

pub returns-clause-hold : goal.returns-clause-hold
returns-clause-hold g c =
    let l = c.loop-item in
    let past : length c.args.items.now ≤ l.item-index = omega arith in
    so_far_end (slots_view c.args.slots.now) l.seen (slots_view l.slots) c.args.items.now l.item-index _ l.invariant past
