use Rattle.std.proofs.Common.{◌≡◌, ◌≤◌, ◌-◌, ◌⊎◌, inl, inr, ℕ, true, is_ok, sym, ◌∙◌}
use Rattle.pddl_formula.specs.Groups.{shares_at}
use Rattle.pddl_formula.proofs.Grouped.{padded_at, joined_if, kept_if}
use Rattle.pddl_formula.proofs.groups.Groups.append.Goals as goal

pub returns-clause-only : goal.returns-clause-only
returns-clause-only g c i is =
    let before = c.self.inside.flags in
    let padded = c.resize.new.self in
    elim (joined_if (is_ok c.append.result) padded.items c.other.inside.flags.items c.args.count i (sym padded.ok.0 ∙ c.in_ok-resize.ensures.len) (rw c.append.ensures.items at is))
    as (λ _. (shares_at c.args.self.now i ≡ true) ⊎ ((c.args.count ≤ i) × (shares_at c.args.other (i - c.args.count) ≡ true))) [
      | inl there ↦ inl (rw (← c.self.view_is) (padded_at before.items _ _ i (sym before.ok.0) (rw c.in_ok-resize.ensures.items at there)))
      | inr new ↦ inr (new.0, rw (← c.other.view_is) new.1)
    ]

pub returns-clause-kept : goal.returns-clause-kept
returns-clause-kept g c =
    let before = c.self.inside.flags in
    let old : (i : ℕ) → shares_at c.resize.new.self.items i ≡ true → shares_at c.args.self.now i ≡ true = λ i there. rw (← c.self.view_is) (padded_at before.items _ _ i (sym before.ok.0) (rw c.in_ok-resize.ensures.items at there)) in
    kept_if c.append.result c.args.self.now c.resize.new.self.items c.other.inside.flags.items c.append.new.self.items old c.append.ensures.items
