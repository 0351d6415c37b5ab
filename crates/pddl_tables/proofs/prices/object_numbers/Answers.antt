use Rattle.std.proofs.Common.{arith, map, drop, length, ◌<◌, ◌≤◌, ◌+◌, [], ◌∷◌, ◌++◌, sym, ap, ◌∙◌}
use Rattle.std.proofs.lemmas.List.{append-nil, append_assoc, drop_more, drop_all}
use Rattle.pddl_task.specs.Names.{number_in}
use Rattle.pddl_tables.proofs.prices.object_numbers.Goals as goal

pub loop-i-preserved : goal.loop-i-preserved
loop-i-preserved g c =
    let f = number_in (g.L.Lookups.tables c.args.lookups.now).objects in
    let names = c.args.names.now in
    let i = c.loop-i.i in
    let low : i < length names = omega (arith, c.loop-i-test.true, c.len-i-end.ensures) in
    let n = c.object_number.result in
    let old = c.loop-i.numbers.items in
    let left = map f (drop (i + 1) names) in
    let is = c.object_number.ensures ∙ ap f c.at.ensures.value in
    ap (λ l. l ++ left) c.in_ok-push.ensures.items
    ∙ (append_assoc old (n ∷ []) left ∙ (ap (λ m. old ++ m ∷ left) is
    ∙ (sym (ap (λ l. old ++ map f l) (drop_more names i [] low)) ∙ c.loop-i.invariant)))

pub returns : goal.returns
returns g c =
    let f = number_in (g.L.Lookups.tables c.args.lookups.now).objects in
    let names = c.args.names.now in
    let old = c.loop-i.numbers.items in
    let past : length names ≤ c.loop-i.i = omega (arith, c.loop-i-test.false, c.len-i-end.ensures) in
    sym (append-nil old) ∙ (sym (ap (λ l. old ++ map f l) (drop_all c.loop-i.i names past)) ∙ c.loop-i.invariant)
