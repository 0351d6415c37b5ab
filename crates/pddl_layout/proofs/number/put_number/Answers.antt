use Rattle.std.proofs.Common.{◌≡◌, ◌/◌, ◌%◌, ℕ, ◌∙◌, ap}
use Rattle.std.specs.Fmt.{decimal}
use Rattle.std.proofs.lemmas.Result.{err_from_is_err_and}
use Rattle.pddl_token.specs.NumberText.{padded, trimmed, pointed, number_text}
use Rattle.pddl_layout.proofs.Printed.{prints_on, stops_more, stops_as, wrote_as}
use Rattle.pddl_layout.proofs.number.put_number.Goals as goal

pub returns-in_err-put-clause-printed : goal.returns-in_err-put-clause-printed
unfolding number_text
returns-in_err-put-clause-printed g c =
    let contents = g.W.Sink.contents in
    let failures = g.W.Sink.failures in
    let n = c.args.number in
    let whole : c.as_bytes.result.now ≡ decimal (n / 1000000000) = c.as_bytes.ensures.value ∙ c.format.ensures.text ∙ ap (λ (m : ℕ). decimal (m / 1000000000)) c.billionths-billionths.ensures.value in
    let p = err_from_is_err_and c.from_residual.result c.from_residual.ensures.1 in
    let stopped = stops_as (contents c.args.out.now) (contents c.put.new.out) (failures c.args.out.now) (failures c.put.new.out) c.as_bytes.result.now (decimal (n / 1000000000)) whole c.in_err-put.ensures in
    rw p.1 (stops_more (contents c.args.out.now) (contents c.put.new.out) (failures c.args.out.now) (failures c.put.new.out) (decimal (n / 1000000000)) (pointed (trimmed (padded 9 (n % 1000000000)))) stopped)

pub returns-clause-printed : goal.returns-clause-printed
unfolding number_text
returns-clause-printed g c =
    let contents = g.W.Sink.contents in
    let failures = g.W.Sink.failures in
    let n = c.args.number in
    let whole : c.as_bytes.result.now ≡ decimal (n / 1000000000) = c.as_bytes.ensures.value ∙ c.format.ensures.text ∙ ap (λ (m : ℕ). decimal (m / 1000000000)) c.billionths-billionths.ensures.value in
    let wrote = wrote_as (contents c.args.out.now) (contents c.put.new.out) (failures c.args.out.now) (failures c.put.new.out) c.as_bytes.result.now (decimal (n / 1000000000)) whole c.in_ok-put.ensures in
    prints_on (contents c.args.out.now) (contents c.put.new.out) (contents c.put_decimals.new.out) (failures c.args.out.now) (failures c.put.new.out) (failures c.put_decimals.new.out) (decimal (n / 1000000000)) (pointed (trimmed (padded 9 (n % 1000000000)))) c.put_decimals.result wrote
    (rw (← c.billionths-billionths.ensures.value) c.put_decimals.ensures)
