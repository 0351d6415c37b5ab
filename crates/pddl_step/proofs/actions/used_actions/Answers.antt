use Rattle.std.proofs.Common.{◌≡◌, ℕ, true, length, sym, ap, ◌∙◌, arith}
use Rattle.std.specs.Prelude.{Some, slice_get}
use Rattle.std.proofs.lemmas.List.{length-map}
use Rattle.std.proofs.lemmas.Result.{IfOk-weaker}
use Rattle.pddl_domain.specs.Actions.{action_view}
use Rattle.pddl_compiled_plan.specs.CompiledSteps.{AreHeld, IsHeld}
use Rattle.pddl_step.proofs.actions.used_actions.Goals as goal

pub returns-clause-used : goal.returns-clause-used
returns-clause-used g c =
    IfOk-weaker c.compile_all_marked.result (λ held. (n : ℕ) → slice_get c.deref.result.now n ≡ Some true → IsHeld held.items n) (λ held. AreHeld c.args.steps.now held.items)
    (λ held made k s is. made s.action (ap (λ ms. slice_get ms s.action) c.deref.ensures.value ∙ c.in_ok-marks.ensures.marked k s is)) c.compile_all_marked.ensures.held

pub used_marks-requires : goal.used_marks-requires
used_marks-requires g c = λ k s is.
    let actions = c.domain-domain.result.now.actions in
    let many = c.len.ensures ∙ (actions.ok.0 ∙ (sym (length-map actions.items action_view) ∙ ap (λ d. length d.actions) c.domain-domain.ensures.domain)) in
    omega (arith, c.requires.range k s is, many)

pub compile_all_marked-requires : goal.compile_all_marked-requires
compile_all_marked-requires g c =
    let actions = c.domain-domain.result.now.actions in
    let many = c.len.ensures ∙ (actions.ok.0 ∙ (sym (length-map actions.items action_view) ∙ ap (λ d. length d.actions) c.domain-domain.ensures.domain)) in
    record {
      tables = c.requires.tables;
      as_many = ap length c.deref.ensures.value ∙ (c.in_ok-marks.ensures.as_many ∙ many);
    }
