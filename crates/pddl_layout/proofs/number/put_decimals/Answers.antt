use Rattle.std.proofs.Common.{◌≡◌, ◌<◌, List, ℕ, ◌∷◌, [], length, take, sym, ap, subst, ◌∙◌, arith}
use Rattle.std.proofs.lemmas.List.{length-take-le}
use Rattle.pddl_token.specs.NumberText.{padded, trimmed, pointed}
use Rattle.pddl_layout.specs.Printing.{Prints}
use Rattle.pddl_layout.proofs.Printed.{prints_on}
use Rattle.pddl_layout.proofs.Digits.{pointed_some}
use Rattle.pddl_layout.proofs.number.put_decimals.Goals as goal

pub returns : goal.returns
returns g c =
    let contents = g.W.Sink.contents in
    let failures = g.W.Sink.failures in
    let digits = c.nine_digits-digits.result in
    let len = c.trimmed_len-len.result in
    let some : 0 < length (take len digits) = omega (arith, length-take-le len digits c.trimmed_len-len.ensures.in_range) in
    let text : 46 ∷ c.split_at.result.0.now ≡ pointed (trimmed (padded 9 c.args.billionths)) =
    ap (λ (t : List ℕ). 46 ∷ t) c.split_at.ensures.front ∙ sym (pointed_some (take len digits) some) ∙ ap pointed (c.trimmed_len-len.ensures.value ∙ ap trimmed c.nine_digits-digits.ensures) in
    subst (λ t. Prints (contents c.args.out.now) (contents c.put-2.new.out) (failures c.args.out.now) (failures c.put-2.new.out) t c.put-2.result) text
    (prints_on (contents c.args.out.now) (contents c.put.new.out) (contents c.put-2.new.out) (failures c.args.out.now) (failures c.put.new.out) (failures c.put-2.new.out) (46 ∷ []) c.split_at.result.0.now c.put-2.result c.in_ok-put.ensures c.put-2.ensures)
