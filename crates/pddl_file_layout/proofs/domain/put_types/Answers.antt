use Rattle.std.proofs.Common.{codes, arith}
use Rattle.pddl_domain.specs.Declarations.{type_view}
use Rattle.pddl_file_layout.specs.Inner.Texts.{declared_type_text}
use Rattle.pddl_file_layout.specs.DomainLayout.{is_declared_type}
use Rattle.pddl_file_layout.proofs.SectionTexts.{section_filled, section_empty, empty_passes}
use Rattle.pddl_file_layout.proofs.Printed.{puts_on, puts_as, puts_nothing}
use Rattle.pddl_file_layout.proofs.domain.put_types.Goals as goal

pub returns-clause-printed : goal.returns-clause-printed
returns-clause-printed g c = puts_as (section_filled type_view (codes "  (:types") declared_type_text c.args.types.now (omega arith)) (puts_on c.put.ensures (puts_on c.put_type_list.ensures.printed c.put-2.ensures))

pub returns-clause-good : goal.returns-clause-good
returns-clause-good g c = c.put_type_list.ensures.good

pub returns-then-types-eq0-clause-printed : goal.returns-then-types-eq0-clause-printed
returns-then-types-eq0-clause-printed g c = puts_as (section_empty type_view (codes "  (:types") declared_type_text c.args.types.now (omega arith)) (puts_nothing _ _ _)

pub returns-then-types-eq0-clause-good : goal.returns-then-types-eq0-clause-good
returns-then-types-eq0-clause-good g c = empty_passes type_view is_declared_type c.args.types.now (omega arith)
