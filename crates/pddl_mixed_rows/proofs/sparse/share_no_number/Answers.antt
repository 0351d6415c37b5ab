use Rattle.std.proofs.Common.{◌≤◌, length, refl, rules, arith}
use Rattle.pddl_mixed_rows.proofs.SparseNumbers.{one_common, none_common}
use Rattle.pddl_mixed_rows.proofs.sparse.share_no_number.Goals as goal

pub returns-then-a-at : goal.returns-then-a-at
returns-then-a-at c = (λ t. absurd (cc), λ none. one_common c.args.a.now c.args.b.now c.loop-at.at c.loop-at.other (search rules) (search rules) (search rules) none)

pub returns-else-other-b : goal.returns-else-other-b
returns-else-other-b c =
    let past : length c.args.b.now ≤ c.loop-at.other = search rules in
    (λ t. none_common c.args.a.now c.args.b.now c.loop-at.at c.loop-at.other c.loop-at.invariant (λ m n i j wm wn. absurd (omega (arith, past, j, wn))), λ none. refl)

pub returns-after-loop-at : goal.returns-after-loop-at
returns-after-loop-at c =
    let past : length c.args.a.now ≤ c.loop-at.at = search rules in
    (λ t. none_common c.args.a.now c.args.b.now c.loop-at.at c.loop-at.other c.loop-at.invariant (λ m n i j wm wn. absurd (omega (arith, past, i, wm))), λ none. refl)
