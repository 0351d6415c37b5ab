use Rattle.std.proofs.Common.{◌≡◌, ◌||◌, ℕ, ◌++◌, take, drop, length, List, get_or, ap, ◌∙◌, bit_or, rules}
use Rattle.pddl_bit_rows.specs.BitRows.{has_bit}
use Rattle.pddl_bit_rows.proofs.RowBits.{same_bits, united_bits, refilled}
use Rattle.pddl_bit_rows.proofs.row.set_bits.Goals as goal

pub returns-in_err-lengthen-clause-err : goal.returns-in_err-lengthen-clause-err
returns-in_err-lengthen-clause-err g c =
    let same : (i : ℕ) → has_bit c.lengthen.new.row.items i ≡ has_bit c.args.row.now.items i = same_bits c.lengthen.new.row.items c.args.row.now.items c.lengthen.ensures.words in
    search rules

pub returns-clause-ok : goal.returns-clause-ok
returns-clause-ok g c = λ i.
    let long : List ℕ = c.lengthen.new.row.items in
    let new : List ℕ = c.rows_unite.new.row in
    let is : take c.lengthen.new.row.len (c.rows_unite.new.row ++ drop (length c.rows_unite.new.row) c.lengthen.new.row.items) ≡ c.rows_unite.new.row = refilled c.lengthen.new.row.len new long (search rules) (search rules) in
    let words : (k : ℕ) → get_or c.rows_unite.new.row k 0 ≡ bit_or (get_or c.lengthen.new.row.items k 0) (get_or c.args.more.now k 0) = search rules in
    ap (λ (r : List ℕ). has_bit r i) is ∙ (united_bits new long c.args.more.now words i ∙ ap (λ b. b || has_bit c.args.more.now i) (same_bits long c.args.row.now.items c.lengthen.ensures.words i))
