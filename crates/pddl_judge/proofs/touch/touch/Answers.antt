use Rattle.std.proofs.Common.{◌≡◌, ap, ◌∙◌}
use Rattle.pddl_judge.proofs.touch.touch.Goals as goal

pub fired-requires : goal.fired-requires
fired-requires g c = record {
  step = c.requires.step;
  own = c.reads.ensures.others_own c.args.state.now c.requires.own;
}

pub returns : goal.returns
returns g c =
    let content = g.S.AtomStore.content in
    let step = g.P.Course.steps_of c.args.course.now c.args.step in
    let same : content c.reads.new.store c.args.state.now ≡ content c.args.store.now c.args.state.now = c.reads.ensures.others c.args.state.now c.requires.own in
    let reads : content c.fired.new.store c.in_ok-reads.reads ≡ step.reads = c.fired.ensures.others c.in_ok-reads.reads c.in_ok-reads.ensures.own ∙ c.in_ok-reads.ensures.content in
    let adds : content c.fired.new.store c.in_ok-adds.adds ≡ step.adds (content c.args.store.now c.args.state.now) = c.in_ok-adds.ensures.adds ∙ ap step.adds same in
    let dels : content c.fired.new.store c.in_ok-adds.dels ≡ step.dels (content c.args.store.now c.args.state.now) = c.in_ok-adds.ensures.dels ∙ ap step.dels same in
    record {
      own = (c.fired.ensures.others_own c.in_ok-reads.reads c.in_ok-reads.ensures.own, c.in_ok-adds.ensures.adds_own, c.in_ok-adds.ensures.dels_own);
      content = λ i. record { reads = reads i; adds = adds i; dels = dels i };
      others_own = λ t h. c.fired.ensures.others_own t (c.reads.ensures.others_own t h);
      others = λ t h. c.fired.ensures.others t (c.reads.ensures.others_own t h) ∙ c.reads.ensures.others t h;
    }
