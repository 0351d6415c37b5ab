use Rattle.std.proofs.Common.{length, sym, ◌∙◌, subst}
use Rattle.std.specs.Prelude.{IfOk}
use Rattle.std.proofs.lemmas.List.{length-map}
use Rattle.std.proofs.lemmas.Result.{IfOk-weaker}
use Rattle.pddl_happenings.specs.Happenings.{AreOfPlain, AreOfTimed}
use Rattle.pddl_judge.specs.HappeningValues.{groups_of, moments_of}
use Rattle.pddl_plan_steps.specs.AcceptedPlans.{AreHappeningsOf, moments_in}
use Rattle.pddl_plan_steps.proofs.OnlyHappenings.{plain_are, timed_are}
use Rattle.pddl_valid.proofs.moments.happenings.Goals as goal

pub returns-else-is_timed-clause-happenings : goal.returns-else-is_timed-clause-happenings
returns-else-is_timed-clause-happenings g c =
    let steps = c.args.steps.now in
    IfOk-weaker c.plain_happenings.result (λ hs. AreOfPlain (length steps) (moments_of hs.items) (groups_of hs.items)) (λ hs. AreHappeningsOf steps (moments_of hs.items) (groups_of hs.items))
    (λ hs. plain_are steps (moments_of hs.items) (groups_of hs.items) (length-map hs.items _ ∙ sym (length-map hs.items _)) (sym c.is_timed.ensures ∙ c.if-is_timed.false))
    (subst (λ n. IfOk c.plain_happenings.result (λ hs. AreOfPlain n (moments_of hs.items) (groups_of hs.items))) c.len.ensures c.plain_happenings.ensures.happenings)

pub returns-in_ok-moments-clause-happenings : goal.returns-in_ok-moments-clause-happenings
returns-in_ok-moments-clause-happenings g c =
    let steps = c.args.steps.now in
    IfOk-weaker c.timed_happenings.result (λ hs. AreOfTimed (moments_in steps) (moments_of hs.items) (groups_of hs.items)) (λ hs. AreHappeningsOf steps (moments_of hs.items) (groups_of hs.items))
    (λ hs. timed_are steps (moments_of hs.items) (groups_of hs.items) (sym c.is_timed.ensures ∙ c.if-is_timed.true))
    (subst (λ ms. IfOk c.timed_happenings.result (λ hs. AreOfTimed ms (moments_of hs.items) (groups_of hs.items))) (c.deref.ensures.value ∙ c.in_ok-moments.ensures) c.timed_happenings.ensures.happenings)
