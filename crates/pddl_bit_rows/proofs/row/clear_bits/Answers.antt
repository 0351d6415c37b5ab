use Rattle.std.proofs.Common.{◌≡◌, ℕ, ◌++◌, take, drop, length, List, get_or, ap, ◌∙◌, bit_and, rules}
use Rattle.std.specs.Int.{bit_not, w64}
use Rattle.pddl_bit_rows.specs.BitRows.{has_bit}
use Rattle.pddl_bit_rows.proofs.RowBits.{taken_bits, refilled}
use Rattle.pddl_bit_rows.proofs.row.clear_bits.Goals as goal

pub returns : goal.returns
returns g c = λ i.
    let old : List ℕ = c.args.row.now.items in
    let new : List ℕ = c.rows_subtract.new.row in
    let is : take c.args.row.now.len (c.rows_subtract.new.row ++ drop (length c.rows_subtract.new.row) c.args.row.now.items) ≡ c.rows_subtract.new.row = refilled c.args.row.now.len new old (search rules) (search rules) in
    let words : (k : ℕ) → get_or c.rows_subtract.new.row k 0 ≡ bit_and (get_or c.args.row.now.items k 0) (bit_not w64 (get_or c.args.less.now k 0)) = search rules in
    ap (λ (r : List ℕ). has_bit r i) is ∙ taken_bits new old c.args.less.now (λ k. (c.type_inv.less k).fits) words i
