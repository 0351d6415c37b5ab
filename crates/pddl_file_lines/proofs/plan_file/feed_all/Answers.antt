use Rattle.std.proofs.Common.{rules, ◌++◌, take, length, length-append, ℕ, arith, inl, inr}
use Rattle.std.proofs.lemmas.Bool.{cases_lt}
use Rattle.pddl_device.proofs.Known.{consumes_more}
use Rattle.pddl_file_lines.proofs.Left.{left_longer}
use Rattle.pddl_file_lines.proofs.plan_file.feed_all.Goals as goal

pub returns-in-Err-clause-too_long : goal.returns-in-Err-clause-too_long
returns-in-Err-clause-too_long g c = λ is.
    let text = c.loop-count.invariant.text in
    let given = text ++ take c.in-Ok.count c.read.new.buf in
    left_longer (g.S.Source.remaining c.args.source.now) (g.S.Source.remaining c.read.new.self) 16777216 given
    (consumes_more _ _ _ _ _ c.loop-count.invariant.given c.in-Ok.ensures.bytes.0) ((c.in-Err.ensures.too_long text c.loop-count.invariant.come).0 is)

pub returns-in-Err-clause-stands : goal.returns-in-Err-clause-stands
returns-in-Err-clause-stands g c =
    (c.loop-count.invariant.text ++ take c.in-Ok.count c.read.new.buf, consumes_more _ _ _ _ _ c.loop-count.invariant.given c.in-Ok.ensures.bytes.0)

pub loop-count-preserved : goal.loop-count-preserved
loop-count-preserved g c =
    let text = c.loop-count.invariant.text in
    let given = text ++ take c.in-Ok.count c.read.new.buf in
    let size = length-append {A = ℕ} text (take c.in-Ok.count c.read.new.buf) in
    record {
      text = given;
      come = c.in_default-feed.ensures.stands text c.loop-count.invariant.come;
      given = consumes_more _ _ _ _ _ c.loop-count.invariant.given c.in-Ok.ensures.bytes.0;
      none_failed = search rules;
      fed_is = omega (arith, length-append {A = ℕ}, c.in-Ok.ensures.bound, c.loop-count.invariant.fed_is);
      within = elim (cases_lt 16777216 (length given)) [
        | inl longer ↦ absurd (cc ((c.in_default-feed.ensures.too_long text c.loop-count.invariant.come).1 longer))
        | inr le ↦ omega (arith, length-append {A = ℕ}, c.in-Ok.ensures.bound, c.loop-count.invariant.fed_is, le)
      ];
    }
