use Rattle.std.proofs.Common.{ap, ◌∙◌}
use Rattle.std.specs.Prelude.{Some}
use Rattle.pddl_token.specs.Spelling.{view}
use Rattle.pddl_step_reader.proofs.StepsRead.{word_on, ended_before}
use Rattle.pddl_step_reader.proofs.plan_words.read_next.Goals as goal

pub returns-clause-reads : goal.returns-clause-reads
returns-clause-reads g c = λ done kept words count_is so_far.
    let reach = c.args.reach.now in
    word_on reach.place c.args.plan.now c.read_word.new.plan done kept words (view c.args.word.now) reach.ended c.ended_by-reach.result c.in_ok-place.place (ended_before reach.ended c.args.count _ c.requires count_is) c.in_ok-place.ensures
    (λ e. c.ended_by-reach.ensures.between e ∙ ap Some count_is) c.ended_by-reach.ensures.other so_far

pub returns-clause-in_range : goal.returns-clause-in_range
returns-clause-in_range g c = c.ended_by-reach.ensures.in_range c.requires
