use Rattle.std.proofs.Common.{codes, arith}
use Rattle.pddl_file_layout.specs.Inner.Texts.{flag_text}
use Rattle.pddl_token.specs.Names.{is_name}
use Rattle.pddl_file_layout.proofs.SectionTexts.{words_filled, words_empty, no_words_pass}
use Rattle.pddl_file_layout.proofs.Printed.{puts_on, puts_as, puts_nothing}
use Rattle.pddl_file_layout.proofs.section.put_requirements.Goals as goal

pub returns-clause-printed : goal.returns-clause-printed
returns-clause-printed g c = puts_as (words_filled (codes "  (:requirements") flag_text c.args.flags.now (omega arith)) (puts_on c.put.ensures (puts_on c.put_flags.ensures.printed c.put-2.ensures))

pub returns-clause-good : goal.returns-clause-good
returns-clause-good g c = c.put_flags.ensures.good

pub returns-then-flags-eq0-clause-printed : goal.returns-then-flags-eq0-clause-printed
returns-then-flags-eq0-clause-printed g c = puts_as (words_empty (codes "  (:requirements") flag_text c.args.flags.now (omega arith)) (puts_nothing _ _ _)

pub returns-then-flags-eq0-clause-good : goal.returns-then-flags-eq0-clause-good
returns-then-flags-eq0-clause-good g c = no_words_pass is_name c.args.flags.now (omega arith)
