use Rattle.std.proofs.Common.{◌≡◌, Bool, true, false, ◌&&◌, ◌||◌, arith, sym, ◌∙◌}
use Rattle.pddl_state.specs.Atoms.{AtomValue}
use Rattle.pddl_state.specs.AtomSets.{AreDisjoint}
use Rattle.pddl_judge.specs.Touches.{Touch, crossing, touch_in}
use Rattle.pddl_judge.proofs.touch.do_not_cross.Goals as goal
use Rattle.pddl_judge.proofs.touch.do_not_cross.Goals.{then-disjoint, else-disjoint}

none_of : (x y z : Bool) → x ≡ false → y ≡ false → z ≡ false → ((x || y) || z) ≡ false
none_of x y z no_x no_y no_z = grind arith

last_of : (x y z : Bool) → ((x || y) || z) ≡ false → z ≡ false
last_of x y z none = grind arith

not_both : {P : Type 0} (b : Bool) → b ≡ true → b ≡ false → P
not_both b set unset = grind arith

module _ (x y : Touch AtomValue) where
  uncrossed : AreDisjoint x.adds y.reads → AreDisjoint x.dels y.reads → AreDisjoint x.adds y.dels → (a : AtomValue) → crossing x y a ≡ false
  uncrossed added deleted undone a = none_of (x.adds a && y.reads a) (x.dels a && y.reads a) (x.adds a && y.dels a) (added a) (deleted a) (undone a)

  none_undone : ((a : AtomValue) → crossing x y a ≡ false) → AreDisjoint x.adds y.dels
  none_undone none a = last_of (x.adds a && y.reads a) (x.dels a && y.reads a) (x.adds a && y.dels a) (none a)

pub returns-then-disjoint-2 : goal.returns-then-disjoint-2
returns-then-disjoint-2 g c =
    let content = g.S.AtomStore.content c.args.store.now in
    let one = touch_in content c.args.one.now in
    let other = touch_in content c.args.other.now in
    elim c.if-disjoint.branch [
      | then-disjoint w ↦ (
        λ yes. uncrossed one other (c.disjoint.ensures.0 w.if-disjoint.true) (w.disjoint-then-disjoint.ensures.0 (sym w.value-is ∙ c.if-disjoint-2.true)) (c.disjoint-then-disjoint-2.ensures.0 yes),
        λ none. c.disjoint-then-disjoint-2.ensures.1 (none_undone one other none),
      )
      | else-disjoint w ↦ not_both c.if-disjoint.value c.if-disjoint-2.true (w.value-is ∙ w.if-disjoint.false)
    ]
