use Rattle.std.proofs.Common.{◌<◌, ◌≤◌, ◌++◌, ◌∙◌, ℕ, List, [], length, refl, arith}
use Rattle.std.specs.Prelude.{codes}
use Rattle.std.proofs.lemmas.List.{get_or_default}
use Rattle.pddl_token.specs.Names.{is_name}
use Rattle.pddl_file_layout.proofs.Printed.{words_on, words_pass, puts_nothing, words_whole, words_all_pass}
use Rattle.pddl_file_layout.proofs.problem.put_object_names.Goals as goal

pub loop-i-preserved : goal.loop-i-preserved
loop-i-preserved g c =
    let l = c.loop-i in
    let names = c.args.names.now in
    let low : l.i < length names = omega (arith, c.loop-i-test.true, c.len-i-end.ensures) in
    let is = c.at.ensures.value ∙ get_or_default names l.i [] c.at.result.now low in
    record {
      printed = words_on (λ (n : List ℕ). codes " " ++ n) names l.i c.at.result.now low is l.invariant.printed c.put_both.ensures;
      good = words_pass is_name names l.i c.at.result.now low is l.invariant.good c.at.ensures.name;
    }

pub returns-clause-printed : goal.returns-clause-printed
returns-clause-printed g c =
    let past : length c.args.names.now ≤ c.loop-i.i = omega (arith, c.loop-i-test.false, c.len-i-end.ensures) in
    words_whole (λ (n : List ℕ). codes " " ++ n) c.args.names.now c.loop-i.i past c.loop-i.invariant.printed

pub returns-clause-good : goal.returns-clause-good
returns-clause-good g c =
    let past : length c.args.names.now ≤ c.loop-i.i = omega (arith, c.loop-i-test.false, c.len-i-end.ensures) in
    words_all_pass is_name c.args.names.now c.loop-i.i past c.loop-i.invariant.good

pub loop-i-init : goal.loop-i-init
loop-i-init g c = record { printed = puts_nothing _ _ _; good = refl }
