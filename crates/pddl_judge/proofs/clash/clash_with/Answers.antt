use Rattle.std.proofs.Common.{◌≡◌, rules, subst}
use Rattle.std.specs.Prelude.{IfOk, MatchOption}
use Rattle.pddl_judge.specs.Touches.{touch_in, overlap, Apart}
use Rattle.pddl_judge.specs.Verdicts.{IsLeast}
use Rattle.pddl_judge.proofs.Stores.{owned_grown, touch_grown}
use Rattle.pddl_judge.proofs.clash.clash_with.Goals as goal

pub are_apart-requires : goal.are_apart-requires
are_apart-requires g c =
    let owns = g.S.AtomStore.owns in
    let content = g.S.AtomStore.content in
    record {
      one_own = owned_grown (owns c.args.store.now) (owns c.touch.new.store) (content c.args.store.now) (content c.touch.new.store) c.touch.ensures.others_own c.touch.ensures.others c.args.one.now c.requires.one_own;
      other_own = c.in_ok-other.ensures.own;
    }

pub least_clash-requires : goal.least_clash-requires
least_clash-requires g c =
    let owns = g.S.AtomStore.owns in
    let content = g.S.AtomStore.content in
    record {
      one_own = owned_grown (owns c.args.store.now) (owns c.touch.new.store) (content c.args.store.now) (content c.touch.new.store) c.touch.ensures.others_own c.touch.ensures.others c.args.one.now c.requires.one_own;
      other_own = c.in_ok-other.ensures.own;
    }

pub returns-then-are_apart-clause-clash : goal.returns-then-are_apart-clause-clash
returns-then-are_apart-clause-clash g c =
    let owns = g.S.AtomStore.owns in
    let content = g.S.AtomStore.content in
    let x = touch_in (content c.args.store.now) c.args.one.now in
    let grown = touch_in (content c.touch.new.store) c.args.one.now in
    let other = touch_in (content c.touch.new.store) c.in_ok-other.other in
    let one_same : grown ≡ x = touch_grown (owns c.args.store.now) (owns c.touch.new.store) (content c.args.store.now) (content c.touch.new.store) c.touch.ensures.others_own c.touch.ensures.others c.args.one.now c.requires.one_own in
    let apart : Apart grown other = search rules in
    subst (λ y. Apart x y) c.in_ok-other.ensures.content (subst (λ z. Apart z other) one_same apart)

pub returns : goal.returns
returns g c =
    let owns = g.S.AtomStore.owns in
    let content = g.S.AtomStore.content in
    let x = touch_in (content c.args.store.now) c.args.one.now in
    let grown = touch_in (content c.touch.new.store) c.args.one.now in
    let other = touch_in (content c.touch.new.store) c.in_ok-other.other in
    let one_same : grown ≡ x = touch_grown (owns c.args.store.now) (owns c.touch.new.store) (content c.args.store.now) (content c.touch.new.store) c.touch.ensures.others_own c.touch.ensures.others c.args.one.now c.requires.one_own in
    record {
      clash = subst (λ y. IfOk c.least_clash.result (λ found. MatchOption found (Apart x y) (λ a. IsLeast a (overlap x y)))) c.in_ok-other.ensures.content
          (subst (λ z. IfOk c.least_clash.result (λ found. MatchOption found (Apart z other) (λ a. IsLeast a (overlap z other)))) one_same c.least_clash.ensures);
      others_own = c.touch.ensures.others_own;
      others = c.touch.ensures.others;
    }
