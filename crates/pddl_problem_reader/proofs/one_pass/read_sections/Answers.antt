use Rattle.std.proofs.Common.{[], ◌∷◌, ◌++◌, sym, subst}
use Rattle.pddl_file.specs.Inner.Begun.{words_of}
use Rattle.pddl_problem_reader.specs.Inner.Slots.{slots_view}
use Rattle.pddl_problem_reader.specs.Inner.OnePass.{HoldsFile}
use Rattle.pddl_problem_reader.proofs.OnePass.{sections_on, sections_end}
use Rattle.pddl_problem_reader.proofs.one_pass.read_sections.Goals as goal

pub loop-next-preserved : goal.loop-next-preserved
loop-next-preserved g c = λ name begun.
    let l = c.loop-next in
    let held = l.invariant name begun in
    sections_on name c.args.text.now l.at c.read_next.new.at l.seen c.in-Some.next (slots_view l.slots) (slots_view c.read_next.new.slots) held
    (rw c.in-Some.is at (c.in_ok-next.ensures.turn (words_of held.begun) held.begun.lexed))

pub returns-in-None-clause-hold : goal.returns-in-None-clause-hold
returns-in-None-clause-hold g c = λ name begun.
    let l = c.loop-next in
    let held = l.invariant name begun in
    let read = rw c.in_default.is at (c.in_ok-next.ensures.turn (words_of held.begun) held.begun.lexed) in
    let spells = c.in_ok-end_behind.ensures (words_of held.begun ++ read.closing ∷ []) read.lexed in
    subst (HoldsFile name c.args.text.now) (sym read.holds)
    (sections_end name c.args.text.now l.at c.read_next.new.at l.seen (slots_view l.slots) held read.closing read.is_close read.lexed spells c.requires.short)
