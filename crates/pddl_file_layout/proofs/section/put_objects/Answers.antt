use Rattle.std.proofs.Common.{arith}
use Rattle.pddl_formula.specs.TypedLists.{typed_view}
use Rattle.pddl_file_layout.specs.Inner.Texts.{object_text}
use Rattle.pddl_file_layout.specs.FormulaValues.{is_typed}
use Rattle.pddl_file_layout.proofs.SectionTexts.{section_filled, section_empty, empty_passes}
use Rattle.pddl_file_layout.proofs.Printed.{puts_on, puts_as, puts_nothing}
use Rattle.pddl_file_layout.proofs.section.put_objects.Goals as goal

pub returns-clause-printed : goal.returns-clause-printed
returns-clause-printed g c = puts_as (section_filled typed_view c.args.opening.now object_text c.args.objects.now (omega arith)) (puts_on c.put.ensures (puts_on c.put_typed_list.ensures.printed c.put-2.ensures))

pub returns-clause-good : goal.returns-clause-good
returns-clause-good g c = c.put_typed_list.ensures.good

pub returns-then-objects-eq0-clause-printed : goal.returns-then-objects-eq0-clause-printed
returns-then-objects-eq0-clause-printed g c = puts_as (section_empty typed_view c.args.opening.now object_text c.args.objects.now (omega arith)) (puts_nothing _ _ _)

pub returns-then-objects-eq0-clause-good : goal.returns-then-objects-eq0-clause-good
returns-then-objects-eq0-clause-good g c = empty_passes typed_view is_typed c.args.objects.now (omega arith)
