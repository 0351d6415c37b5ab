use Rattle.std.proofs.Common.{◌≡◌, not, sym, ◌∙◌, arith, bit_and, length, w64, eqb}
use Rattle.std.proofs.lemmas.Simd.{length-chunk, length-zip2, bitmask_splat}
use lib.Lanes.{zip2, chunk}
use Rattle.pddl_bit_rows.proofs.LaneWords.{is_zero, zero_is, lanes_clear}
use Rattle.pddl_bit_rows.proofs.lanes.lanes_disjoint.Goals as goal

pub returns : goal.returns
returns c =
    let at = c.args.at in
    let a = c.args.a.now in
    let b = c.args.b.now in
    let n = length-chunk at 8 a (omega arith) in
    let m = length-chunk at 8 b (omega arith) in
    let both = zip2 bit_and (chunk at 8 a) (chunk at 8 b) in
    let l : length both ≡ 8 = length-zip2 bit_and (chunk at 8 a) (chunk at 8 b) (omega arith) ∙ n in
    let hits = bitmask_splat w64 (λ x y. not (eqb x y)) both 8 0 l (omega arith) in
    let clear = lanes_clear at a b (omega arith) (omega arith) in
    (λ t. clear.0 (sym hits ∙ is_zero _ t), λ h. zero_is _ (hits ∙ clear.1 h))
