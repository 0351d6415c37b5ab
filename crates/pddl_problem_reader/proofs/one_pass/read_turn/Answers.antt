use Rattle.pddl_items.specs.Items.{item_view}
use Rattle.pddl_problem_reader.specs.Inner.Slots.{slots_view, FillsPart}
use Rattle.std.proofs.Common.{refl}
use Rattle.pddl_sections.specs.Inner.Verdicts.{turn}
use Rattle.pddl_file.proofs.Begun.{section_read}
use Rattle.pddl_problem_reader.specs.Inner.ProblemReading.{problem_readers}
use Rattle.pddl_problem_reader.proofs.one_pass.read_turn.Goals as goal

pub returns-in-Item-clause-turn : goal.returns-in-Item-clause-turn
returns-in-Item-clause-turn g c = λ words lexed.
    let (more, behind, form) = rw c.in-Item.is at (c.in_ok-section.ensures.next words lexed) in
    section_read (λ p. FillsPart (turn problem_readers c.args.seen p) (slots_view c.args.slots.now) (slots_view c.keep_section.new.slots)) _ c.args.text.now words more c.next_section.new.at c.args.seen
    (item_view c.in-Item.section) c.keep_section.result behind form c.keep_section.ensures

pub returns-in-End-Some-clause-turn : goal.returns-in-End-Some-clause-turn
returns-in-End-Some-clause-turn g c = λ words lexed.
    let (closing, is_close, ends, behind) = rw (c.in-End-Some.is, c.in-End-Some.field-0-is) at (c.in_ok-section.ensures.next words lexed) in
    record { closing = closing; is_close = is_close; lexed = behind; holds = refl }
