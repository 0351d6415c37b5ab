use Rattle.std.proofs.Common.{sym, ◌∙◌}
use Rattle.pddl_file.proofs.SectionTurns.{no_key_stops, twice_stops, unfit_stops}
use Rattle.pddl_items.specs.ItemTrees.{item_tree}
use Rattle.pddl_problem_reader.specs.Inner.ProblemReading.{part_at, problem_readers}
use Rattle.pddl_problem_reader.specs.Inner.Slots.{slots_view}
use Rattle.pddl_problem_reader.proofs.ItemTurns.{none_filled, some_filled}
use Rattle.pddl_problem_reader.proofs.section_reader.read_section.Goals as goal

pub returns-in_default-clause-stops : goal.returns-in_default-clause-stops
returns-in_default-clause-stops g c =
    no_key_stops problem_readers c.args.seen c.args.item.now c.refusal.result (sym c.in_default.is ∙ c.keyword_of.ensures.reads) c.refusal.ensures.fault

pub returns-then-has-clause-stops : goal.returns-then-has-clause-stops
returns-then-has-clause-stops g c =
    twice_stops problem_readers c.args.seen c.args.item.now c.in-Some.keyword (sym c.in-Some.is ∙ c.keyword_of.ensures.reads)
    c.span_of-span.result (sym c.if-has.true ∙ c.has.ensures) c.span_of-span.ensures

pub returns-then-not-branch-clause-stops : goal.returns-then-not-branch-clause-stops
returns-then-not-branch-clause-stops g c =
    unfit_stops problem_readers c.args.seen c.args.item.now c.in-Some.keyword (sym c.in-Some.is ∙ c.keyword_of.ensures.reads)
    c.refusal-then-not-branch.result (sym c.if-has.false ∙ c.has.ensures)
    (none_filled (slots_view c.args.slots.now) (part_at (item_tree c.args.item.now)) (rw c.if-not-branch.true at c.in_ok-read_item.ensures)) c.refusal-then-not-branch.ensures.fault

pub returns-clause-fits : goal.returns-clause-fits
returns-clause-fits g c =
    some_filled c.args.seen c.args.item.now c.in-Some.keyword (sym c.in-Some.is ∙ c.keyword_of.ensures.reads) (sym c.if-has.false ∙ c.has.ensures)
    (slots_view c.args.slots.now) (slots_view c.read_item.new.slots) (rw c.if-not-branch.false at c.in_ok-read_item.ensures)
