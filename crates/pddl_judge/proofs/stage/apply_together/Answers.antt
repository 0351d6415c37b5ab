use Rattle.std.proofs.Common.{◌≡◌, not, ◌&&◌, ◌||◌, subst, sym, ◌∙◌}
use Rattle.std.specs.Prelude.{All}
use Rattle.pddl_happenings.specs.Accepted.{IsReady, NoClash}
use Rattle.pddl_judge.specs.Touches.{AllPairwise, FirstRowAt, touch_in, touches_of}
use Rattle.pddl_judge.proofs.Refusals.{fine_group}
use Rattle.pddl_judge.proofs.stage.apply_together.Goals as goal

pub first_row-requires : goal.first_row-requires
first_row-requires g c = record {
  steps = c.requires.steps;
  own = c.requires.own;
  behind_own = c.nothing_touched-touched.ensures.own;
  behind = c.nothing_touched-touched.ensures.content;
}

pub apply-requires : goal.apply-requires
apply-requires g c = record {
  own = c.first_row.ensures.others_own c.args.state.now c.requires.own;
  adds_own = c.in_ok-place.ensures.own.1;
  dels_own = c.in_ok-place.ensures.own.2;
}

pub clash_in_row-requires : goal.clash_in_row-requires
clash_in_row-requires g c =
    let content = g.S.AtomStore.content in
    let p = g.P.Course.steps_of c.args.course.now in
    let group = c.args.group.now in
    let same : content c.first_row.new.store c.args.state.now ≡ content c.args.store.now c.args.state.now = c.first_row.ensures.others c.args.state.now c.requires.own in
    record {
      steps = c.requires.steps;
      own = c.first_row.ensures.others_own c.args.state.now c.requires.own;
      within = rw c.in-Some.is at c.in_ok-place.ensures.within;
      row = subst (λ t. FirstRowAt (NoClash p t) group c.in-Some.place) (sym same) (rw c.in-Some.is at c.in_ok-place.ensures.first);
      ready = subst (λ t. All (IsReady p t) group) (sym same) c.requires.ready;
    }

pub returns-clause-content : goal.returns-clause-content
returns-clause-content g c =
    let content = g.S.AtomStore.content in
    let p = g.P.Course.steps_of c.args.course.now in
    let s = content c.args.store.now c.args.state.now in
    let same : content c.first_row.new.store c.args.state.now ≡ s = c.first_row.ensures.others c.args.state.now c.requires.own in
    let touched : touch_in (content c.first_row.new.store) c.first_row.new.behind ≡ touches_of p s c.args.group.now = c.in_ok-place.ensures.touches in
    λ j a. (c.in_ok-apply-in-None.ensures.content a ∙ (λ i. (same i a && not ((touched i).dels a)) || (touched i).adds a)) j

pub returns-clause-fine : goal.returns-clause-fine
returns-clause-fine g c =
    let p = g.P.Course.steps_of c.args.course.now in
    let s = g.S.AtomStore.content c.args.store.now c.args.state.now in
    let apart : AllPairwise (NoClash p s) c.args.group.now = rw c.in-None.is at c.in_ok-place.ensures.first in
    fine_group p s c.args.group.now c.requires.ready apart
