use Rattle.std.proofs.Common.{◌≡◌, ℕ, List, [], ◌∷◌, arith, refl, sym, ap, ◌∙◌, length, get_or, subst}
use Rattle.pddl_happenings.specs.Accepted.{NoClash, after}
use Rattle.pddl_judge.specs.Touches.{AllPairwise}
use Rattle.pddl_judge.proofs.Refusals.{fine_group}
use Rattle.pddl_judge.proofs.stage.pass.Goals as goal

pub first_unready-requires : goal.first_unready-requires
first_unready-requires g c = record {
  steps = c.requires.steps;
  own = c.requires.own;
}

pub group_cost-requires : goal.group_cost-requires
group_cost-requires g c = record {
  steps = c.requires.steps;
  own = c.requires.own;
  few = c.requires.few;
}

pub apply_alone-requires : goal.apply_alone-requires
apply_alone-requires g c = record {
  step = c.requires.steps 0 0 (omega (arith, c.if-group-eq1.true));
  own = c.requires.own;
}

pub apply_together-requires : goal.apply_together-requires
apply_together-requires g c = record {
  steps = c.requires.steps;
  own = c.requires.own;
  ready = rw c.in-None.is at c.in_ok-step.ensures;
}

pub returns-in-Some : goal.returns-in-Some
returns-in-Some g c = record {
  own = tt;
  passes = tt;
  bound = tt;
  fails = (refl, rw c.in-Some.is at c.in_ok-step.ensures);
}

-- the group has one step alone
alone : (g : List ℕ) → length g ≡ 1 → g ≡ get_or g 0 0 ∷ []
alone [] one = absurd (omega (arith, one))
alone (k ∷ []) one = refl
alone (k ∷ l ∷ g) one = absurd (omega (arith, one))

none_behind : {X : Type 0} (P : X → X → Type 0) (x : X) → AllPairwise P (x ∷ [])
none_behind P x = (tt, tt)

pub returns-then-group-eq1 : goal.returns-then-group-eq1
returns-then-group-eq1 g c =
    let p = g.P.Course.steps_of c.args.course.now in
    let s = g.S.AtomStore.content c.args.store.now c.args.state.now in
    let group = c.args.group.now in
    let is : group ≡ get_or group 0 0 ∷ [] = alone group c.if-group-eq1.true in
    record {
      own = c.in_ok-apply_alone.ensures.own;
      passes = record {
        fine = fine_group p s group (rw c.in-None.is at c.in_ok-step.ensures) (subst (AllPairwise (NoClash p s)) (sym is) (none_behind (NoClash p s) (get_or group 0 0)));
        end_is = c.in_ok-apply_alone.ensures.content ∙ ap (after p s) (sym is);
        cost_is = c.in_ok-cost.ensures.value;
      };
      bound = c.in_ok-cost.ensures.bound;
      fails = tt;
    }

pub returns-in-Some-2 : goal.returns-in-Some-2
returns-in-Some-2 g c = record {
  own = tt;
  passes = tt;
  bound = tt;
  fails = (refl, rw c.in-Some-2.is at c.in_ok-clash.ensures.fine);
}

pub returns-in-None-2 : goal.returns-in-None-2
returns-in-None-2 g c = record {
  own = rw c.in-None-2.is at c.in_ok-clash.ensures.own;
  passes = record {
    fine = rw c.in-None-2.is at c.in_ok-clash.ensures.fine;
    end_is = rw c.in-None-2.is at c.in_ok-clash.ensures.content;
    cost_is = c.in_ok-cost.ensures.value;
  };
  bound = c.in_ok-cost.ensures.bound;
  fails = tt;
}
