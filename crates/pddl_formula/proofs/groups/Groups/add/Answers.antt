use Rattle.std.proofs.Common.{◌≡◌, ◌<◌, ◌⊎◌, inl, inr, true, sym, arith}
use Rattle.pddl_formula.specs.Groups.{shares_at}
use Rattle.pddl_formula.proofs.Grouped.{resized_at, padded_at}
use Rattle.pddl_formula.proofs.groups.Groups.add.Goals as goal

pub returns-in_ok-resize-2-clause-only : goal.returns-in_ok-resize-2-clause-only
returns-in_ok-resize-2-clause-only g c i is =
    let first = c.in_ok-resize.ensures in
    let before = c.self.inside.flags in
    let padded = c.resize.new.self in
    elim (resized_at padded.items c.args.end _ true i (sym padded.ok.0) (rw c.in_ok-resize-2.ensures.items at is)) as (λ _. (shares_at c.args.self.now i ≡ true) ⊎ ((c.args.first < i) × (i < c.args.end))) [
      | inl there ↦ inl (rw (← c.self.view_is) (padded_at before.items _ _ i (sym before.ok.0) (rw first.items at there)))
      | inr new ↦ inr (omega (arith, new.1, first.len), new.2)
    ]
