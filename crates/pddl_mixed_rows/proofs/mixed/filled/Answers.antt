use Rattle.std.proofs.Common.{◌≡◌, ◌||◌, ℕ, List, ap, ◌∙◌, rules}
use Rattle.pddl_bit_rows.specs.BitRows.{has_bit}
use Rattle.pddl_mixed_rows.specs.SparseRows.{has_number}
use Rattle.pddl_mixed_rows.specs.MixedRows.{is_set}
use Rattle.pddl_bit_rows.proofs.RowBits.{no_bits}
use Rattle.pddl_mixed_rows.proofs.mixed.filled.Goals as goal

pub returns-in_ok-set_numbers-in-Few : goal.returns-in_ok-set_numbers-in-Few
returns-in_ok-set_numbers-in-Few g c = λ i.
    let bits : has_bit c.set_numbers.new.row.items i ≡ (has_bit c.new-words.result.items i || has_number c.deref-in-Few.result.now i) = search rules in
    let none = ap (λ (r : List ℕ). has_bit r i) c.new-words.ensures.items ∙ no_bits i in
    let same : has_number c.deref-in-Few.result.now i ≡ is_set c.args.row.now i = search rules in
    bits ∙ (ap (λ b. b || has_number c.deref-in-Few.result.now i) none ∙ same)
