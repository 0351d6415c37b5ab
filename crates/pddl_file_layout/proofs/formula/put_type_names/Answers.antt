use Rattle.std.proofs.Common.{◌++◌, ℕ, List, ap}
use Rattle.std.specs.Prelude.{codes}
use Rattle.pddl_file_layout.proofs.Printed.{puts_as, words_on, puts_nothing, words_whole}
use Rattle.pddl_file_layout.proofs.formula.put_type_names.Goals as goal

pub loop-name-preserved : goal.loop-name-preserved
loop-name-preserved g c =
    let l = c.loop-name in
    let lt = c.loop-name-test.true in
    record {
      printed = words_on (λ (n : List ℕ). codes " " ++ n) c.args.names.now l.name-index c.name-item.result lt c.name-item.is l.invariant.printed (puts_as (ap (λ (n : List ℕ). codes " " ++ n) c.as_bytes.ensures.value) c.put_both.ensures);
    }

pub returns : goal.returns
returns g c = words_whole (λ (n : List ℕ). codes " " ++ n) c.args.names.now c.loop-name.name-index c.loop-name-test.false c.loop-name.invariant.printed

pub loop-name-init : goal.loop-name-init
loop-name-init g c = record { printed = puts_nothing _ _ _ }
