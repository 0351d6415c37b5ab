use Rattle.std.proofs.Common.{[], ◌∷◌, ◌++◌, refl, codes}
use Rattle.pddl_file.specs.declared.keyword.SectionKeyword.TheVariants as keys
use Rattle.pddl_problem_reader.specs.ProblemTexts.{objects}
use Rattle.pddl_problem_reader.specs.Inner.Slots.{slots_view}
use Rattle.pddl_problem_reader.proofs.OnePass.{not_true, part_section}
use Rattle.pddl_problem_reader.proofs.one_pass.read_listed.Goals as goal

pub returns-in_ok-read_objects-in-Some-clause-turn : goal.returns-in_ok-read_objects-in-Some-clause-turn
returns-in_ok-read_objects-in-Some-clause-turn g c = λ words lexed.
    let behind = c.in-Some.ensures.section words lexed in
    let (xs, read, made) = c.in_ok-read_objects-in-Some.ensures.objects (words ++ behind.opening ∷ behind.keyword ∷ []) behind.lexed in
    part_section c.args.text.now words c.in-Some.behind c.read_objects.new.at (codes ":objects") keys.Objects (objects xs) behind read refl c.args.seen (slots_view c.args.slots.now) (slots_view c.read_objects.new.slots) c.with.result
    (not_true c.args.seen.objects c.if-not-seen.true) made c.with.ensures
