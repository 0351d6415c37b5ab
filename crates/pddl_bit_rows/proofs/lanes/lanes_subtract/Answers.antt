use Rattle.std.proofs.Common.{◌-◌, ap, ◌∙◌, arith, bit_and, get_or}
use Rattle.std.specs.Int.{bit_not, w64}
use Rattle.std.proofs.lemmas.Simd.{length-chunk, length-zip2, get_or-put_chunk_below, get_or-put_chunk_above}
use Rattle.std.proofs.lemmas.List.{get_or-map, length-map}
use lib.Lanes.{zip2, chunk}
use mathlib.Core.List.{map}
use Rattle.pddl_bit_rows.proofs.LaneWords.{stored_lane, loaded_lane}
use Rattle.pddl_bit_rows.proofs.lanes.lanes_subtract.Goals as goal

pub returns-clause-inside : goal.returns-clause-inside
returns-clause-inside c = λ k from below.
    let at = c.args.at in
    let row = c.args.row.now in
    let less = c.args.less.now in
    let m = length-chunk at 8 less (omega arith) in
    let l = length-map (chunk at 8 less) (bit_not w64) in
    stored_lane bit_and at row (map (bit_not w64) (chunk at 8 less)) k (omega arith) (omega arith) from below
    ∙ ap (bit_and (get_or row k 0)) (get_or-map (bit_not w64) (chunk at 8 less) (k - at) 0 0 (omega arith) ∙ ap (bit_not w64) (loaded_lane at less k (omega arith) from below))

pub returns-clause-below : goal.returns-clause-below
returns-clause-below c = λ k below. get_or-put_chunk_below c.args.at c.args.row.now _ k 0 below

pub returns-clause-above : goal.returns-clause-above
returns-clause-above c = λ k from.
    let at = c.args.at in
    let row = c.args.row.now in
    let less = c.args.less.now in
    let n = length-chunk at 8 row (omega arith) in
    let m = length-chunk at 8 less (omega arith) in
    let h = length-map (chunk at 8 less) (bit_not w64) in
    let l = length-zip2 bit_and (chunk at 8 row) (map (bit_not w64) (chunk at 8 less)) (omega arith) in
    get_or-put_chunk_above at row (zip2 bit_and (chunk at 8 row) (map (bit_not w64) (chunk at 8 less))) k 0 (omega arith)
