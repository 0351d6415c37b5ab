use Rattle.std.proofs.Common.{[], ◌∷◌, ◌++◌, refl, codes}
use Rattle.pddl_file.specs.declared.keyword.SectionKeyword.TheVariants as keys
use Rattle.pddl_problem_reader.specs.ProblemTexts.{init}
use Rattle.pddl_problem_reader.specs.Inner.Slots.{slots_view}
use Rattle.pddl_problem_reader.proofs.OnePass.{not_true, part_section}
use Rattle.pddl_problem_reader.proofs.one_pass.read_next.Goals as goal

pub returns-in_ok-read_init-in-Some-clause-turn : goal.returns-in_ok-read_init-in-Some-clause-turn
returns-in_ok-read_init-in-Some-clause-turn g c = λ words lexed.
    let behind = c.in-Some.ensures.section words lexed in
    let (inits, read, made) = c.in_ok-read_init-in-Some.ensures.init (words ++ behind.opening ∷ behind.keyword ∷ []) behind.lexed in
    part_section c.args.text.now words c.in-Some.behind c.read_init.new.at (codes ":init") keys.Init (init inits) behind read refl c.args.seen (slots_view c.args.slots.now) (slots_view c.read_init.new.slots) c.with.result
    (not_true c.args.seen.init c.if-not-seen.true) made c.with.ensures
