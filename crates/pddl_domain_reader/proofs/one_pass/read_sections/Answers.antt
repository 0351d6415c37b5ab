use Rattle.std.proofs.Common.{[], ◌∷◌, ◌++◌, sym, subst}
use Rattle.std.specs.Prelude.{OnOk}
use Rattle.pddl_file.specs.Inner.Begun.{words_of}
use Rattle.pddl_domain.specs.Domains.{domain_view}
use Rattle.pddl_domain_reader.specs.Inner.Sections.{AddsFile}
use Rattle.pddl_domain_reader.proofs.Results.{on_ok}
use Rattle.pddl_domain_reader.proofs.DomainTurns.{section_on, last_section}
use Rattle.pddl_domain_reader.proofs.one_pass.read_sections.Goals as goal

pub loop-next-preserved : goal.loop-next-preserved
loop-next-preserved g c = λ name begun.
    let l = c.loop-next in
    let held = l.invariant name begun in
    section_on name c.args.text.now l.at c.read_turn.new.at l.seen c.in-Some.next (domain_view c.args.domain.now) (domain_view l.domain) (domain_view c.read_turn.new.domain) held
    (rw c.in-Some.is at (c.in_ok-next.ensures.turn (words_of held.begun) held.begun.lexed))

pub returns : goal.returns
returns g c = λ name begun.
    let l = c.loop-next in
    let held = l.invariant name begun in
    let read = rw c.in_default.is at (c.in_ok-next.ensures.turn (words_of held.begun) held.begun.lexed) in
    subst (λ d. OnOk c.end_behind.result (AddsFile name c.args.text.now (domain_view c.args.domain.now) d)) (sym read.holds)
    (on_ok c.end_behind.result
    (λ spells. last_section name c.args.text.now l.at c.read_turn.new.at l.seen (domain_view c.args.domain.now) (domain_view l.domain) held read.closing read.is_close read.lexed spells c.requires.short)
    (c.end_behind.ensures (words_of held.begun ++ read.closing ∷ []) read.lexed))
