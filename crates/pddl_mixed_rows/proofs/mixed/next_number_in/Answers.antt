use Rattle.std.proofs.Common.{rules, ◌≤◌, length, get_or, arith}
use Rattle.pddl_mixed_rows.specs.MixedRows.{is_set}
use Rattle.pddl_mixed_rows.proofs.KeptNumbers.{none_between}
use Rattle.pddl_mixed_rows.proofs.mixed.next_number_in.Goals as goal

pub returns-then-place-end-clause-passed : goal.returns-then-place-end-clause-passed
returns-then-place-end-clause-passed g c =
    none_between c.args.numbers.now (is_set c.args.row.now) c.args.from c.args.end c.loop-at.at c.requires.numbers c.loop-at.invariant.passed (λ low. search rules)

pub returns-then-has_place-clause-passed : goal.returns-then-has_place-clause-passed
returns-then-has_place-clause-passed g c =
    none_between c.args.numbers.now (is_set c.args.row.now) c.args.from (get_or c.args.numbers.now c.loop-at.at 0) c.loop-at.at c.requires.numbers c.loop-at.invariant.passed (λ low. omega arith)

pub returns-clause-passed : goal.returns-clause-passed
returns-clause-passed g c =
    let past : length c.args.numbers.now ≤ c.loop-at.at = search rules in
    none_between c.args.numbers.now (is_set c.args.row.now) c.args.from c.args.end c.loop-at.at c.requires.numbers c.loop-at.invariant.passed (λ low. absurd (omega (arith, low, past)))
