use Rattle.std.proofs.Common.{codes, arith}
use Rattle.pddl_domain.specs.Declarations.{function_view}
use Rattle.pddl_file_layout.specs.Inner.Texts.{function_text}
use Rattle.pddl_file_layout.specs.DomainLayout.{is_declared_function}
use Rattle.pddl_file_layout.proofs.SectionTexts.{section_filled, section_empty, empty_passes}
use Rattle.pddl_file_layout.proofs.Printed.{puts_on, puts_as, puts_nothing}
use Rattle.pddl_file_layout.proofs.domain.put_functions.Goals as goal

pub returns-clause-printed : goal.returns-clause-printed
returns-clause-printed g c = puts_as (section_filled function_view (codes "  (:functions") function_text c.args.functions.now (omega arith)) (puts_on c.put.ensures (puts_on c.put_function_list.ensures.printed c.put-2.ensures))

pub returns-clause-good : goal.returns-clause-good
returns-clause-good g c = c.put_function_list.ensures.good

pub returns-then-functions-eq0-clause-printed : goal.returns-then-functions-eq0-clause-printed
returns-then-functions-eq0-clause-printed g c = puts_as (section_empty function_view (codes "  (:functions") function_text c.args.functions.now (omega arith)) (puts_nothing _ _ _)

pub returns-then-functions-eq0-clause-good : goal.returns-then-functions-eq0-clause-good
returns-then-functions-eq0-clause-good g c = empty_passes function_view is_declared_function c.args.functions.now (omega arith)
