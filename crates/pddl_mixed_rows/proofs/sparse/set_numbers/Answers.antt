use Rattle.std.proofs.Common.{◌≡◌, ◌+◌, ◌-◌, ◌/◌, ◌≤◌, ◌||◌, ℕ, ◌++◌, take, drop, length, List, get_or, ap, ◌∙◌, rules}
use Rattle.pddl_bit_rows.specs.BitRows.{has_bit}
use Rattle.pddl_mixed_rows.specs.SparseRows.{has_number}
use Rattle.pddl_bit_rows.proofs.RowBits.{same_bits, refilled}
use Rattle.pddl_mixed_rows.proofs.SparseNumbers.{last_reaches}
use Rattle.pddl_mixed_rows.proofs.sparse.set_numbers.Goals as goal

pub returns-in_err-lengthen-in-Some-clause-err : goal.returns-in_err-lengthen-in-Some-clause-err
returns-in_err-lengthen-in-Some-clause-err g c =
    let same : (i : ℕ) → has_bit c.lengthen.new.row.items i ≡ has_bit c.args.row.now.items i = same_bits c.lengthen.new.row.items c.args.row.now.items c.lengthen.ensures.words in
    search rules

pub put_numbers-requires : goal.put_numbers-requires
put_numbers-requires g c =
    let is : get_or c.args.numbers.now (length c.args.numbers.now - 1) 0 ≡ c.in-Some.last.now = search rules in
    let room : c.in-Some.last.now / 64 + 1 ≤ length c.deref_mut.result.now = search rules in
    last_reaches c.args.numbers.now (length c.deref_mut.result.now) c.in-Some.last.now c.requires is room

pub returns-in_ok-lengthen-in-Some-clause-ok : goal.returns-in_ok-lengthen-in-Some-clause-ok
returns-in_ok-lengthen-in-Some-clause-ok g c = λ i.
    let long : List ℕ = c.lengthen.new.row.items in
    let new : List ℕ = c.put_numbers.new.row in
    let is : take c.lengthen.new.row.len (c.put_numbers.new.row ++ drop (length c.put_numbers.new.row) c.lengthen.new.row.items) ≡ c.put_numbers.new.row = refilled c.lengthen.new.row.len new long (search rules) (search rules) in
    let bits : has_bit c.put_numbers.new.row i ≡ (has_bit c.lengthen.new.row.items i || has_number c.args.numbers.now i) = search rules in
    ap (λ (r : List ℕ). has_bit r i) is ∙ (bits ∙ ap (λ b. b || has_number c.args.numbers.now i) (same_bits long c.args.row.now.items c.lengthen.ensures.words i))
