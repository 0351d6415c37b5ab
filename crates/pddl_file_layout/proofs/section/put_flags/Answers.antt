use Rattle.std.proofs.Common.{◌++◌, ℕ, List, refl, ap}
use Rattle.std.specs.Prelude.{codes}
use Rattle.pddl_token.specs.Names.{is_name}
use Rattle.pddl_file_layout.proofs.Printed.{puts_as, words_on, words_pass, puts_nothing, words_whole, words_all_pass}
use Rattle.pddl_file_layout.proofs.section.put_flags.Goals as goal

pub loop-flag-preserved : goal.loop-flag-preserved
loop-flag-preserved g c =
    let l = c.loop-flag in
    let lt = c.loop-flag-test.true in
    record {
      printed = words_on (λ (n : List ℕ). codes " :" ++ n) c.args.flags.now l.flag-index c.flag-item.result lt c.flag-item.is l.invariant.printed (puts_as (ap (λ (n : List ℕ). codes " :" ++ n) c.as_bytes.ensures.value) c.put_both.ensures);
      good = words_pass is_name c.args.flags.now l.flag-index c.flag-item.result lt c.flag-item.is l.invariant.good c.as_bytes.ensures.name;
    }

pub returns-clause-printed : goal.returns-clause-printed
returns-clause-printed g c = words_whole (λ (n : List ℕ). codes " :" ++ n) c.args.flags.now c.loop-flag.flag-index c.loop-flag-test.false c.loop-flag.invariant.printed

pub returns-clause-good : goal.returns-clause-good
returns-clause-good g c = words_all_pass is_name c.args.flags.now c.loop-flag.flag-index c.loop-flag-test.false c.loop-flag.invariant.good

pub loop-flag-init : goal.loop-flag-init
loop-flag-init g c = record { printed = puts_nothing _ _ _; good = refl }
