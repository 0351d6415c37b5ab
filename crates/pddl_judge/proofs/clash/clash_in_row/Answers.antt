use Rattle.std.proofs.Common.{◌≡◌, ◌+◌, ◌<◌, ℕ, get_or, drop, subst, sym, ap, refl}
use Rattle.std.specs.Prelude.{All}
use Rattle.std.proofs.lemmas.List.Elements.{All-drop}
use Rattle.std.specs.List.{AllByRecursion}
use Rattle.pddl_happenings.specs.Accepted.{NoClash}
use Rattle.pddl_judge.specs.Touches.{touch_in}
use Rattle.pddl_judge.proofs.Overlaps.{none_in_row, found_in_row, row_fails, clash_from_row, default}
use Rattle.pddl_judge.proofs.clash.clash_in_row.Goals as goal

pub touch-requires : goal.touch-requires
touch-requires g c = record {
  step = c.requires.steps c.args.place 0 c.requires.within;
  own = c.requires.own;
}

pub first_in_row-requires : goal.first_in_row-requires
first_in_row-requires g c =
    let count = g.P.Course.count_of c.args.course.now in
    record {
      steps = subst (All (λ k. k < count)) (sym c.following-rest.ensures) (All-drop (λ k. k < count) (c.args.place + 1) c.args.group.now c.requires.steps);
      own = c.touch.ensures.others_own c.args.state.now c.requires.own;
      one_own = c.in_ok-one.ensures.own;
    }

pub bounds-rest-j : goal.bounds-rest-j
bounds-rest-j g c = rw c.in-Some.is at c.in_ok-first_in_row.ensures.within

pub returns-in-None : goal.returns-in-None
returns-in-None g c =
    let content = g.S.AtomStore.content in
    let p = g.P.Course.steps_of c.args.course.now in
    let s = content c.args.store.now c.args.state.now in
    let xs = c.args.group.now in
    let i = c.args.place in
    let first : ℕ = get_or xs i 0 in
    let state_same : content c.touch.new.store c.args.state.now ≡ s = c.touch.ensures.others c.args.state.now c.requires.own in
    let none : AllByRecursion (NoClash p s first) (drop (i + 1) xs) = none_in_row p s (content c.touch.new.store c.args.state.now) (touch_in (content c.touch.new.store) c.in_ok-one.one) first c.following-rest.result.now (drop (i + 1) xs) c.in_ok-one.ensures.content state_same c.following-rest.ensures c.in_ok-first_in_row.field-0 c.in-None.is c.in_ok-first_in_row.ensures.first in
    row_fails (NoClash p s) xs i first (default xs i 0 first c.requires.within) c.requires.row none

pub returns : goal.returns
returns g c =
    let content = g.S.AtomStore.content in
    let p = g.P.Course.steps_of c.args.course.now in
    let s = content c.args.store.now c.args.state.now in
    let xs = c.args.group.now in
    let i = c.args.place in
    let j = c.in-Some.j in
    let a = c.in-Some.atom in
    let first : ℕ = get_or xs i 0 in
    let state_same : content c.touch.new.store c.args.state.now ≡ s = c.touch.ensures.others c.args.state.now c.requires.own in
    let found = found_in_row p s (content c.touch.new.store c.args.state.now) (touch_in (content c.touch.new.store) c.in_ok-one.one) first c.following-rest.result.now (drop (i + 1) xs) c.in_ok-one.ensures.content state_same c.following-rest.ensures c.in_ok-first_in_row.field-0 j a c.in-Some.is c.in_ok-first_in_row.ensures.first in
    clash_from_row p s xs i j first (get_or c.following-rest.result.now j 0) a c.requires.ready c.requires.within refl (ap (λ l. get_or l j 0) (sym c.following-rest.ensures)) c.requires.row found
