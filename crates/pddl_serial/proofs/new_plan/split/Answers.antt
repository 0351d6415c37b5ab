use Rattle.std.proofs.Common.{◌≤◌, List, ℕ, map, subst, sym, ◌∙◌}
use Rattle.std.specs.Prelude.{All}
use Rattle.std.proofs.lemmas.Bool.{true≢false}
use Rattle.pddl_happenings.specs.Splits.{IsSplitOf}
use Rattle.pddl_judge.specs.HappeningValues.{groups_of}
use Rattle.pddl_serial.proofs.GroupMoments.{moments_within}
use Rattle.pddl_serial.proofs.new_plan.split.Goals as goal

pub returns-clause-within : goal.returns-clause-within
returns-clause-within g c =
    let gs : List (List ℕ) = map (λ g. g.items) c.args.groups.now in
    let hs = groups_of c.args.happenings.now in
    let is : IsSplitOf hs gs = c.in_ok-good.ensures.0 c.if-not-good.false in
    subst (All (λ m. (1 ≤ m) × (m ≤ c.args.steps))) (sym c.in_ok-moments.ensures) (moments_within c.args.steps hs gs c.requires is)

pub returns-then-not-good-clause-split : goal.returns-then-not-good-clause-split
returns-then-not-good-clause-split g c = λ is. true≢false (sym (c.in_ok-good.ensures.1 is) ∙ c.if-not-good.true)

pub returns-clause-split : goal.returns-clause-split
returns-clause-split g c = c.in_ok-good.ensures.0 c.if-not-good.false
