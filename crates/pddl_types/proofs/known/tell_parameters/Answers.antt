use Rattle.std.proofs.Common.{ℕ, [], refl, sym, ◌∙◌, Vec}
use Rattle.std.proofs.lemmas.List.{drop_all, take_all}
use Rattle.std.proofs.lemmas.Result.{err_from_is_err_and}
use Rattle.indexmap.proofs.SetLemmas.{AllZip-push}
use Rattle.pddl_domain.specs.Actions.{ActionValue, action_view}
use Rattle.pddl_faults.proofs.ListTurns.{seen_more}
use Rattle.pddl_faults.proofs.PassedParts.{pass_front}
use Rattle.pddl_types.specs.Told.{AreAt}
use Rattle.pddl_types.proofs.ToldTypes.{kept_self, kept_then}
use Rattle.pddl_types.proofs.SignatureTables.{parameters_still}
use Rattle.pddl_types.proofs.UnknownTypes.{declared_left}
use Rattle.pddl_types.proofs.known.tell_parameters.Goals as goal

pub loop-action-init : goal.loop-action-init
loop-action-init g c = record { types = c.requires.told; kept = kept_self c.args.told.now; held = rw c.requires.none tt; left = refl }

pub returns-in_err-numbers-clause-kept : goal.returns-in_err-numbers-clause-kept
returns-in_err-numbers-clause-kept g c = kept_then _ _ _ c.loop-action.invariant.kept c.tell_all.ensures.kept

pub returns-in_err-numbers-clause-passes : goal.returns-in_err-numbers-clause-passes
returns-in_err-numbers-clause-passes g c =
    let left = declared_left c.args.types.now.declared (λ (a : ActionValue). a.parameters) action_view c.args.actions.now c.loop-action.action-index c.action-item.result _ c.loop-action-test.true c.action-item.is refl in
    let p = err_from_is_err_and c.from_residual.result c.from_residual.ensures.1 in
    rw (p.1, p.2) (pass_front 23 _ _ _ c.in_err-numbers.field-0.0 (sym c.loop-action.invariant.left ∙ left) c.in_err-numbers.ensures.passes)

pub returns-in_err-push-clause-kept : goal.returns-in_err-push-clause-kept
returns-in_err-push-clause-kept g c = kept_then _ _ _ c.loop-action.invariant.kept c.tell_all.ensures.kept

pub loop-action-preserved : goal.loop-action-preserved
loop-action-preserved g c =
    let acts = c.args.actions.now in
    let i = c.loop-action.action-index in
    let x = c.action-item.result in
    let before = c.loop-action.invariant in
    let left = declared_left c.args.types.now.declared (λ (a : ActionValue). a.parameters) action_view acts i x _ c.loop-action-test.true c.action-item.is refl in
    record {
      types = c.tell_all.ensures.told;
      kept = kept_then _ _ _ before.kept c.tell_all.ensures.kept;
      held =
          rw (c.in_ok-push.ensures.items, seen_more action_view [] acts i x c.loop-action-test.true c.action-item.is)
          (AllZip-push (λ (a : ActionValue) (r : Vec ℕ _). AreAt c.tell_all.new.self a.parameters r.items) _ _ (action_view x) c.in_ok-numbers.numbers
          (parameters_still c.loop-action.told c.tell_all.new.self _ _ c.tell_all.ensures.kept before.held) c.in_ok-numbers.ensures.numbers);
      left = rw (left, c.in_ok-numbers.ensures.passes) at before.left;
    }

pub returns : goal.returns
returns g c =
    let acts = c.args.actions.now in
    let i = c.loop-action.action-index in
    let done = c.loop-action.invariant in
    let none = drop_all i acts c.loop-action-test.false in
    record { told = done.types; kept = done.kept; passes = sym (rw none at done.left); held = rw (take_all i acts c.loop-action-test.false) at done.held }
