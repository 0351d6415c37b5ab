use Rattle.std.proofs.Common.{◌≡◌, ◌==◌, ◌||◌, ℕ, ◌++◌, take, drop, length, List, ap, ◌∙◌, rules}
use Rattle.pddl_bit_rows.specs.BitRows.{has_bit}
use Rattle.pddl_bit_rows.proofs.RowBits.{same_bits, refilled}
use Rattle.pddl_bit_rows.proofs.row.set_bit.Goals as goal

pub returns-in_err-lengthen-clause-err : goal.returns-in_err-lengthen-clause-err
returns-in_err-lengthen-clause-err g c =
    let same : (i : ℕ) → has_bit c.lengthen.new.row.items i ≡ has_bit c.args.row.now.items i = same_bits c.lengthen.new.row.items c.args.row.now.items c.lengthen.ensures.words in
    search rules

pub returns-clause-ok : goal.returns-clause-ok
returns-clause-ok g c = λ i.
    let long : List ℕ = c.lengthen.new.row.items in
    let new : List ℕ = c.put_bit.new.row in
    let is : take c.lengthen.new.row.len (c.put_bit.new.row ++ drop (length c.put_bit.new.row) c.lengthen.new.row.items) ≡ c.put_bit.new.row = refilled c.lengthen.new.row.len new long (search rules) (search rules) in
    let bits : has_bit c.put_bit.new.row i ≡ ((i == c.args.place) || has_bit c.lengthen.new.row.items i) = search rules in
    ap (λ (r : List ℕ). has_bit r i) is ∙ (bits ∙ ap (λ b. (i == c.args.place) || b) (same_bits long c.args.row.now.items c.lengthen.ensures.words i))
