use Rattle.std.proofs.Common.{◌∙◌, ◌++◌, List, drop, ap, subst}
use Rattle.pddl_token.specs.Spelling.{PlacedWord}
use Rattle.pddl_step_reader.specs.Inner.StepWords.{ReadsWords}
use Rattle.pddl_step_reader.proofs.StepsRead.{none_moved, some_moved}
use Rattle.pddl_step_reader.proofs.plan_words.read_on.Goals as goal
use Rattle.pddl_step_reader.proofs.plan_words.read_on.Goals.{in-None+in_ok-push_from-in-None, in-Some+in_ok-push_from-in-Some}

pub returns : goal.returns
returns g c = λ done reads.
    let reach = c.in_ok-reach.reach in
    let kept = c.args.kept.now in
    let words = c.args.words.now in
    let read = c.in_ok-reach.ensures.reads done kept reads in
    elim c.match-reach.branch [
      | in-None+in_ok-push_from-in-None w ↦ none_moved reach.place c.read_words.new.plan done kept words c.match-reach.kept (w.kept-is ∙ w.in_ok-push_from-in-None.ensures) (subst (λ ended. ReadsWords ended reach.place c.read_words.new.plan done kept words) w.in-None.is read)
      | in-Some+in_ok-push_from-in-Some w ↦
          some_moved reach.place c.read_words.new.plan done kept words c.match-reach.kept w.in-Some.count (w.kept-is ∙ w.in_ok-push_from-in-Some.ensures ∙ ap (λ (t : List PlacedWord). t ++ drop w.in-Some.count words) w.clear.ensures)
          (subst (λ ended. ReadsWords ended reach.place c.read_words.new.plan done kept words) w.in-Some.is read)
    ]
