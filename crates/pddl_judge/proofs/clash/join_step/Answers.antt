use Rattle.std.proofs.Common.{◌≡◌, ◌↔◌, subst, ◌∙◌}
use Rattle.std.specs.Prelude.{IsTrue, IfOk, OnOk, Result, Ok, Err}
use Rattle.std.specs.Result.{result_and}
use Rattle.std.proofs.lemmas.Result.{on_ok_weaker}
use Rattle.pddl_judge.specs.Touches.{Apart, Owned, touch_in, touch_of, join_of}
use Rattle.pddl_judge.proofs.Stores.{owned_grown, touch_grown}
use Rattle.pddl_judge.proofs.clash.join_step.Goals as goal

-- what is answered where something was made
where_made : {T U E : Type 0} (made : Result T E) (x : U) (Q : U → Type 0) → OnOk made (Q x) → IfOk (result_and made (Ok x)) Q
where_made (Ok _) x Q h = h
where_made (Err _) x Q h = h

pub join-requires : goal.join-requires
join-requires g c =
    let owns = g.S.AtomStore.owns in
    let content = g.S.AtomStore.content in
    record {
      all_own = owned_grown (owns c.args.store.now) (owns c.touch.new.store) (content c.args.store.now) (content c.touch.new.store) c.touch.ensures.others_own c.touch.ensures.others c.args.behind.now c.requires.behind_own;
      one_own = c.in_ok-one.ensures.own;
    }

pub returns : goal.returns
returns g c =
    let owns = g.S.AtomStore.owns in
    let content = g.S.AtomStore.content in
    let old = touch_in (content c.args.store.now) c.args.behind.now in
    let grown = touch_in (content c.touch.new.store) c.args.behind.now in
    let one = touch_in (content c.touch.new.store) c.in_ok-one.one in
    let step = touch_of (g.P.Course.steps_of c.args.course.now c.args.step) (content c.args.store.now c.args.state.now) in
    let one_is : one ≡ step = c.in_ok-one.ensures.content in
    let behind_same : grown ≡ old = touch_grown (owns c.args.store.now) (owns c.touch.new.store) (content c.args.store.now) (content c.touch.new.store) c.touch.ensures.others_own c.touch.ensures.others c.args.behind.now c.requires.behind_own in
    let made = c.join.result in
    let apart = c.are_apart-apart.result in
    let is_apart : IsTrue apart ↔ Apart step old = subst (λ x. IsTrue apart ↔ Apart x old) one_is (subst (λ y. IsTrue apart ↔ Apart one y) behind_same c.are_apart-apart.ensures) in
    rw c.and.ensures (record {
      own = where_made made apart (λ _. Owned (owns c.touch.new.store) c.join.new.all) c.join.ensures.own;
      apart = where_made made apart (λ b. IsTrue b ↔ Apart step old) (on_ok_weaker made (λ _. is_apart) c.join.ensures.own);
      content = where_made made apart (λ _. touch_in (content c.touch.new.store) c.join.new.all ≡ join_of old step) (on_ok_weaker made (λ joined. joined ∙ (λ i. join_of (behind_same i) (one_is i))) c.join.ensures.content);
      others_own = c.touch.ensures.others_own;
      others = c.touch.ensures.others;
    })
