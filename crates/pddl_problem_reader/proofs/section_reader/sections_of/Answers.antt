use Rattle.std.proofs.Common.{◌≡◌, [], None}
use Rattle.pddl_build.proofs.Parts.{made_reads}
use Rattle.pddl_build.proofs.FoundParts.{made_fails}
use Rattle.pddl_items.specs.Items.{items_view}
use Rattle.pddl_sections.specs.Inner.Verdicts.{verdict}
use Rattle.pddl_sections.specs.Inner.Answers.{first_missing}
use Rattle.pddl_file.specs.Inner.WordReading.{nothing_seen}
use Rattle.pddl_problem_reader.specs.ProblemTexts.{required}
use Rattle.pddl_problem_reader.specs.Inner.ProblemReading.{problem_readers}
use Rattle.pddl_problem_reader.specs.Inner.Slots.{slots_view, HoldVerdict, has_slot, Refuses}
use Rattle.pddl_problem_reader.proofs.Results.{if_err}
use Rattle.pddl_problem_reader.proofs.section_reader.sections_of.Goals as goal

pub returns-clause-hold : goal.returns-clause-hold
returns-clause-hold g c =
    rw c.and.ensures
    (made_reads c.read_file-read.new.slots c.read_file-read.result (λ s. HoldVerdict (slots_view s) (verdict problem_readers nothing_seen [] (items_view c.args.items.now)))
    c.read_file-read.ensures.hold (λ hold. hold c.nothing-slots.ensures))

pub returns-clause-whole : goal.returns-clause-whole
returns-clause-whole g c =
    rw c.and.ensures
    (made_reads c.read_file-read.new.slots c.read_file-read.result (λ s. first_missing (has_slot (slots_view s)) required ≡ None) c.read_file-read.ensures.whole (λ whole. whole))

pub returns-clause-refused : goal.returns-clause-refused
returns-clause-refused g c =
    let v = verdict problem_readers nothing_seen [] (items_view c.args.items.now) in
    rw c.and.ensures
    (made_fails c.read_file-read.new.slots c.read_file-read.result (λ fault. Refuses fault v) (if_err _ (λ fault. Refuses fault v) c.read_file-read.result (λ fault refused. refused c.nothing-slots.ensures) c.read_file-read.ensures.refused))
