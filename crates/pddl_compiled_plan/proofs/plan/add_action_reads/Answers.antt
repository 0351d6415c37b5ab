use Rattle.std.proofs.Common.{◌≡◌, ◌||◌, ◌∙◌}
use Rattle.std.proofs.lemmas.Result.{IfOk-from_err}
use Rattle.pddl_state.specs.Atoms.{AtomValue, atom_eq}
use Rattle.pddl_compiled.specs.CompiledMeaning.{some_tested}
use Rattle.pddl_compiled.specs.Views.{condition_view, change_view, frame_view}
use Rattle.pddl_evaluation.specs.Reads.{tested_by}
use Rattle.pddl_evaluation.proofs.More.{both_more, on_ok}
use Rattle.pddl_compiled_plan.specs.CompiledSteps.{form_in, action_reads}
use Rattle.pddl_compiled_plan.proofs.plan.add_action_reads.Goals as goal

pub returns-in_err-add_reads : goal.returns-in_err-add_reads
returns-in_err-add_reads g c =
    record {
      own = c.add_reads.ensures.own;
      others_own = c.add_reads.ensures.others_own;
      others = c.add_reads.ensures.others;
      ok = IfOk-from_err c.from_residual.result _ c.from_residual.ensures.0;
    }

pub returns : goal.returns
returns g c =
    let content = g.S.AtomStore.content in
    let env = frame_view c.args.frame.now in
    let first = c.add_reads.new in
    let second = c.add_change_reads.new in
    let put = c.add_change_reads.ensures in
    record {
      own = put.own;
      others_own = λ t h. put.others_own t (c.add_reads.ensures.others_own t h);
      others = λ t h. put.others t (c.add_reads.ensures.others_own t h) ∙ c.add_reads.ensures.others t h;
      ok = on_ok {P = (x : AtomValue) → content second.store second.into x ≡ (tested_by (change_view c.args.action.now.effect) (atom_eq x) env || content first.store first.into x)}
          {Q = (x : AtomValue) → content second.store second.into x ≡ (action_reads (form_in c.args.action.now) env x || content c.args.store.now c.args.into.now x)} c.add_change_reads.result put.ok (λ more x. both_more (some_tested (condition_view c.args.action.now.precondition) (atom_eq x) env) (tested_by (change_view c.args.action.now.effect) (atom_eq x) env)
          (content c.args.store.now c.args.into.now x) (content first.store first.into x) (content second.store second.into x) (c.in_ok-add_reads.ensures.ok x) (more x));
    }
