use Rattle.pddl_token.specs.Spelling.{view}
use Rattle.pddl_plan.proofs.GotNames.{got_name}
use Rattle.pddl_step_reader.proofs.StepsRead.{name_read}
use Rattle.pddl_step_reader.proofs.plan_words.read_inside.Goals as goal

pub returns-then-branch : goal.returns-then-branch
returns-then-branch g c = λ done kept reads.
    let got = got_name c.in_ok-push_word-in-Name.field-0 _ c.args.plan.now c.push_word.new.self c.if-branch.true c.in_ok-push_word-in-Name.ensures.added in
    name_read c.args.plan.now done kept (view c.args.word.now) c.args.moment c.push_word.new.self c.in-Name.is got reads
