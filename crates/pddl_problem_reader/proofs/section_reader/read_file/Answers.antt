use Rattle.std.proofs.Common.{sym, ◌∙◌}
use Rattle.pddl_problem_reader.specs.Inner.Slots.{slots_view, lacking}
use Rattle.pddl_problem_reader.proofs.section_reader.read_file.Goals as goal

pub returns-in-Some-clause-refused : goal.returns-in-Some-clause-refused
returns-in-Some-clause-refused g c = λ none. lacking (slots_view c.read_sections.new.slots) (c.in_ok-read_sections.ensures.hold none) (sym c.first_missing.ensures ∙ c.in-Some.is)
