use Rattle.std.proofs.Common.{◌≡◌, ◌≤◌, ◌<◌, ◌+◌, ◌&&◌, [], ◌∷◌, ◌++◌, true, length, take, sym, ap, ap₂, ◌∙◌, subst, arith}
use Rattle.std.specs.List.{list_all, slice_range}
use Rattle.std.proofs.lemmas.List.{take_more, take_more_set, length-set}
use Rattle.std.proofs.lemmas.List.Folds.{list_all-append}
use Rattle.pddl_token.specs.Names.{is_name}
use Rattle.pddl_problem.proofs.Pieces.{last_end, rise_last, rise_more, last_more, pieces_more, pieces_kept, piece_put}
use Rattle.pddl_problem.proofs.object_names.side_by_side.Goals as goal

pub put_bytes-requires : goal.put_bytes-requires
put_bytes-requires g c = subst (λ n. n ≤ 32) c.loop-i.invariant.last (rise_last 0 (take c.loop-i.i c.loop-i.ends) c.loop-i.invariant.rise).1

pub loop-i-preserved : goal.loop-i-preserved
loop-i-preserved g c =
    let before = c.loop-i.invariant in
    let i = c.loop-i.i in
    let ends = take i c.loop-i.ends in
    let end = c.in_ok-at.at in
    let old = c.loop-i.bytes in
    let new = c.put_bytes.new.bytes in
    let name = c.as_bytes.result.now in
    let (behind, fits, put) = c.in_ok-at.ensures.put in
    let many : i < length c.args.names.now = omega (arith, c.loop-i-test.true) in
    let low : i < length c.loop-i.ends = omega (arith, many, c.if-names-gt-NAMES.false, before.room.0) in
    let more = take_more_set c.loop-i.ends i end low in
    let front : take (last_end 0 ends) old ≡ take (last_end 0 ends) new = subst (λ n. take n old ≡ take n new) (sym before.last) (sym c.in_ok-at.ensures.before) in
    let reach = (rise_last 0 ends before.rise).1 in
    let kept = pieces_kept 0 ends old new before.rise front in
    let piece : slice_range new (last_end 0 ends) end ≡ name =
    ap (λ n. slice_range new n end) before.last ∙ piece_put old new name c.loop-i.at end (omega (arith, reach, before.last, before.room.1)) behind put in
    let next : take (i + 1) c.args.names.now ≡ take i c.args.names.now ++ name ∷ [] =
    take_more c.args.names.now i c.index-names-i.result many ∙ ap (λ n. take i c.args.names.now ++ n ∷ []) (sym c.index-names-i.is ∙ sym c.as_bytes.ensures.value) in
    record {
      rise = rw more (rise_more 0 ends end before.rise (omega (arith, before.last, behind)) fits);
      last = rw more (last_more 0 ends end);
      room = (length-set c.loop-i.ends i end ∙ before.room.0, c.in_ok-at.ensures.len ∙ before.room.1);
      put = rw more (pieces_more 0 ends end new ∙ ap₂ (λ ps p. ps ++ p ∷ []) (sym kept ∙ before.put) piece ∙ sym next);
      named = ap (list_all is_name) next ∙ list_all-append is_name (take i c.args.names.now) (name ∷ []) ∙ ap₂ ◌&&◌ before.named (ap (λ b. b && true) (subst (λ n. is_name n ≡ true) (sym c.as_bytes.ensures.value) c.as_bytes.ensures.name));
    }
