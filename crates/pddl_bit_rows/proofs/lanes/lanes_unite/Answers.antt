use Rattle.std.proofs.Common.{ap, ◌∙◌, arith, bit_or, get_or}
use Rattle.std.proofs.lemmas.Simd.{length-chunk, length-zip2, get_or-put_chunk_below, get_or-put_chunk_above}
use lib.Lanes.{zip2, chunk}
use Rattle.pddl_bit_rows.proofs.LaneWords.{stored_lane, loaded_lane}
use Rattle.pddl_bit_rows.proofs.lanes.lanes_unite.Goals as goal

pub returns-clause-inside : goal.returns-clause-inside
returns-clause-inside c = λ k from below.
    let at = c.args.at in
    let row = c.args.row.now in
    let more = c.args.more.now in
    stored_lane bit_or at row (chunk at 8 more) k (omega arith) (length-chunk at 8 more (omega arith)) from below ∙ ap (bit_or (get_or row k 0)) (loaded_lane at more k (omega arith) from below)

pub returns-clause-below : goal.returns-clause-below
returns-clause-below c = λ k below. get_or-put_chunk_below c.args.at c.args.row.now _ k 0 below

pub returns-clause-above : goal.returns-clause-above
returns-clause-above c = λ k from.
    let at = c.args.at in
    let row = c.args.row.now in
    let more = c.args.more.now in
    let n = length-chunk at 8 row (omega arith) in
    let m = length-chunk at 8 more (omega arith) in
    let l = length-zip2 bit_or (chunk at 8 row) (chunk at 8 more) (omega arith) in
    get_or-put_chunk_above at row (zip2 bit_or (chunk at 8 row) (chunk at 8 more)) k 0 (omega arith)
