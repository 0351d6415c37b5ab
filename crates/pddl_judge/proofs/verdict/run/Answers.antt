use Rattle.std.proofs.Common.{◌≡◌, ◌<◌, ◌≤◌, ◌*◌, ◌+◌, ℕ, Bool, List, [], arith, refl, length, get_or, drop, subst, sym, ap, ◌∙◌}
use borrow.Author.Count.{falls}
use Rattle.std.specs.Prelude.{All}
use Rattle.std.proofs.lemmas.List.{drop_all}
use Rattle.std.specs.List.{concat}
use Rattle.pddl_happenings.specs.Accepted.{AllFine, after_all, cost_of_all}
use Rattle.pddl_happenings.specs.Failures.{AtHappening, IsFirstUnready, IsFirstClash}
use Rattle.pddl_happenings.specs.Steps.{Step}
use Rattle.pddl_happenings.proofs.ListedOnce.{as_many}
use Rattle.pddl_judge.specs.HappeningValues.{HappeningValue, groups_of}
use Rattle.pddl_judge.specs.Stages.{FailsBy, Passes}
use Rattle.pddl_judge.specs.Verdicts.{IsLeast}
use Rattle.pddl_judge.proofs.Onward.{room_more, few_more, fine_more, end_more, cost_more, at_more, fine_at_end, refused_here, steps_within}
use Rattle.pddl_judge.proofs.verdict.run.Goals as goal

pub loop-h-init : goal.loop-h-init
loop-h-init g c =
    let count : g.P.Course.count_of c.args.course.now ≤ 1000000 = c.requires.count in
    let many : length (concat (groups_of c.args.happenings.now)) ≡ g.P.Course.count_of c.args.course.now = as_many (g.P.Course.count_of c.args.course.now) (groups_of c.args.happenings.now) c.requires.each in
    let zero : (n : ℕ) → n ≡ 0 + n = λ n. omega arith in
    record {
      own = c.requires.own;
      fine = λ w. w;
      end = refl;
      cost_is = omega arith;
      room = omega (arith, many, count);
      few = omega (arith, many, count);
      unready = λ step n w. subst (AtHappening (g.P.Course.steps_of c.args.course.now) (λ s q. IsFirstUnready (g.P.Course.steps_of c.args.course.now) s q step) (g.S.AtomStore.content c.args.store.now c.args.state.now) (groups_of c.args.happenings.now)) (zero n) w;
      clashes = λ first second a n w. subst (AtHappening (g.P.Course.steps_of c.args.course.now) (λ s q. IsFirstClash (g.P.Course.steps_of c.args.course.now) (IsLeast a) s q first second) (g.S.AtomStore.content c.args.store.now c.args.state.now) (groups_of c.args.happenings.now)) (zero n) w;
    }

pub pass-requires-clause-few : goal.pass-requires-clause-few
pass-requires-clause-few g c =
    let content = g.S.AtomStore.content in
    let p = g.P.Course.steps_of c.args.course.now in
    let start = content c.args.store.now c.args.state.now in
    let here = content c.loop-h.store c.loop-h.state in
    let items = c.args.happenings.now in
    let h = c.loop-h.h in
    let d = c.index-happenings-h.result in
    let steps : c.deref.result.now ≡ d.steps = c.deref.ensures.value ∙ ap (λ k. k.steps) c.happening.view_is in
    subst (λ l. length l ≤ 1000000) (sym steps) (few_more p start here here items h d c.index-happenings-h.is c.loop-h-test.true (groups_of items) 1000000 c.loop-h.invariant.few).0

pub pass-requires-clause-steps : goal.pass-requires-clause-steps
pass-requires-clause-steps g c =
    let content = g.S.AtomStore.content in
    let p = g.P.Course.steps_of c.args.course.now in
    let start = content c.args.store.now c.args.state.now in
    let here = content c.loop-h.store c.loop-h.state in
    let items = c.args.happenings.now in
    let whole = groups_of items in
    let h = c.loop-h.h in
    let d = c.index-happenings-h.result in
    let at : d ≡ get_or items h d = c.index-happenings-h.is in
    let lt : h < length items = c.loop-h-test.true in
    let steps : c.deref.result.now ≡ d.steps = c.deref.ensures.value ∙ ap (λ k. k.steps) c.happening.view_is in
    subst (All (λ k. k < g.P.Course.count_of c.args.course.now)) (sym steps) (steps_within (g.P.Course.count_of c.args.course.now) items h d at lt c.requires.each)

pub loop-h-preserved : goal.loop-h-preserved
loop-h-preserved g c =
    let content = g.S.AtomStore.content in
    let p = g.P.Course.steps_of c.args.course.now in
    let start = content c.args.store.now c.args.state.now in
    let here = content c.loop-h.store c.loop-h.state in
    let items = c.args.happenings.now in
    let whole = groups_of items in
    let h = c.loop-h.h in
    let d = c.index-happenings-h.result in
    let at : d ≡ get_or items h d = c.index-happenings-h.is in
    let lt : h < length items = c.loop-h-test.true in
    let steps : c.deref.result.now ≡ d.steps = c.deref.ensures.value ∙ ap (λ k. k.steps) c.happening.view_is in
    let there = content c.pass.new.store c.pass.new.state in
    let spent = c.in-Ok.spent in
    let passes : Passes p here d.steps there spent = subst (λ l. Passes p here l there spent) steps (rw c.in-Ok.is at c.in_ok-spent.ensures.passes) in
    let bounded : spent ≤ length c.deref.result.now * 18446744073709551616000000 = rw c.in-Ok.is at c.in_ok-spent.ensures.bound in
    let bound : spent ≤ length d.steps * 18446744073709551616000000 = subst (λ l. spent ≤ length l * 18446744073709551616000000) steps bounded in
    record {
      own = rw c.in-Ok.is at c.in_ok-spent.ensures.own;
      fine = fine_more p start here there items h d at lt whole passes.end_is c.loop-h.invariant.fine passes.fine;
      end = end_more p start here there items h d at lt whole passes.end_is c.loop-h.invariant.end;
      cost_is = cost_more p start here there items h d at lt whole passes.end_is c.loop-h.cost spent c.loop-h.invariant.cost_is passes.cost_is;
      room = room_more p start here there items h d at lt whole c.loop-h.cost spent 18446744073709551616000000000000 c.loop-h.invariant.room bound;
      few = (few_more p start here there items h d at lt whole 1000000 c.loop-h.invariant.few).1;
      unready = λ step. at_more p start here there items h d at lt whole passes.end_is (λ s q. IsFirstUnready p s q step) (c.loop-h.invariant.unready step) passes.fine;
      clashes = λ first second a. at_more p start here there items h d at lt whole passes.end_is (λ s q. IsFirstClash p (IsLeast a) s q first second) (c.loop-h.invariant.clashes first second a) passes.fine;
    }

pub loop-h-smaller : goal.loop-h-smaller
loop-h-smaller g c = falls (length c.args.happenings.now) c.loop-h.h c.loop-h-test.true

pub overflow_add-cost : goal.overflow_add-cost
overflow_add-cost g c =
    let content = g.S.AtomStore.content in
    let p = g.P.Course.steps_of c.args.course.now in
    let start = content c.args.store.now c.args.state.now in
    let here = content c.loop-h.store c.loop-h.state in
    let items = c.args.happenings.now in
    let h = c.loop-h.h in
    let d = c.index-happenings-h.result in
    let steps : c.deref.result.now ≡ d.steps = c.deref.ensures.value ∙ ap (λ k. k.steps) c.happening.view_is in
    let spent = c.in-Ok.spent in
    let bound : spent ≤ length c.deref.result.now * 18446744073709551616000000 = rw c.in-Ok.is at c.in_ok-spent.ensures.bound in
    let room = room_more p start here here items h d c.index-happenings-h.is c.loop-h-test.true (groups_of items) c.loop-h.cost spent 18446744073709551616000000000000 c.loop-h.invariant.room (subst (λ l. spent ≤ length l * 18446744073709551616000000) steps bound) in
    omega (arith, room)

pub returns-in-Err : goal.returns-in-Err
returns-in-Err g c =
    let content = g.S.AtomStore.content in
    let p = g.P.Course.steps_of c.args.course.now in
    let start = content c.args.store.now c.args.state.now in
    let here = content c.loop-h.store c.loop-h.state in
    let items = c.args.happenings.now in
    let h = c.loop-h.h in
    let d = c.index-happenings-h.result in
    let steps : c.deref.result.now ≡ d.steps = c.deref.ensures.value ∙ ap (λ k. k.steps) c.happening.view_is in
    let fails : FailsBy p here d.steps h c.in-Err.refusal = subst (λ l. FailsBy p here l h c.in-Err.refusal) steps (rw c.in-Err.is at c.in_ok-spent.ensures.fails) in
    record {
      own = tt;
      accepted = tt;
      refused = refused_here p (g.P.Course.goal_of c.args.course.now) start here items h d c.index-happenings-h.is c.loop-h-test.true (groups_of items) c.in-Err.refusal c.loop-h.invariant.unready c.loop-h.invariant.clashes fails;
    }

module _ {A : Type 0} (p : ℕ → Step A) (start here : A → Bool) (items : List HappeningValue) (h : ℕ) (done : length items ≤ h) where
  fine_at : (AllFine p here (groups_of (drop h items)) → AllFine p start (groups_of items)) → AllFine p start (groups_of items)
  fine_at so_far = so_far (fine_at_end p here items h done)

  nothing_left : groups_of (drop h items) ≡ []
  nothing_left = ap groups_of (drop_all h items done)

  end_at : after_all p here (groups_of (drop h items)) ≡ after_all p start (groups_of items) → here ≡ after_all p start (groups_of items)
  end_at so_far = sym (ap (after_all p here) nothing_left) ∙ so_far

  cost_at : (cost : ℕ) → cost + cost_of_all p here (groups_of (drop h items)) ≡ cost_of_all p start (groups_of items) → cost ≡ cost_of_all p start (groups_of items)
  cost_at cost so_far = omega (arith, so_far, ap (cost_of_all p here) nothing_left)

pub returns-then-good : goal.returns-then-good
returns-then-good g c =
    let p = g.P.Course.steps_of c.args.course.now in
    let content = g.S.AtomStore.content in
    let start = content c.args.store.now c.args.state.now in
    let here = content c.loop-h.store c.loop-h.state in
    let items = c.args.happenings.now in
    let h = c.loop-h.h in
    record {
      own = c.loop-h.invariant.own;
      accepted = record {
        fine = fine_at p start here items h c.loop-h-test.false c.loop-h.invariant.fine;
        end_is = end_at p start here items h c.loop-h-test.false c.loop-h.invariant.end;
        goal_holds = sym c.in_ok-good.ensures ∙ c.if-good.true;
        cost_is = cost_at p start here items h c.loop-h-test.false c.loop-h.cost c.loop-h.invariant.cost_is;
      };
      refused = tt;
    }

pub returns-else-good : goal.returns-else-good
returns-else-good g c =
    let p = g.P.Course.steps_of c.args.course.now in
    let holds = g.P.Course.goal_of c.args.course.now in
    let content = g.S.AtomStore.content in
    let start = content c.args.store.now c.args.state.now in
    let here = content c.loop-h.store c.loop-h.state in
    let items = c.args.happenings.now in
    let h = c.loop-h.h in
    record {
      own = tt;
      accepted = tt;
      refused = (fine_at p start here items h c.loop-h-test.false c.loop-h.invariant.fine, sym (ap holds (end_at p start here items h c.loop-h-test.false c.loop-h.invariant.end)) ∙ (sym c.in_ok-good.ensures ∙ c.if-good.false));
    }
