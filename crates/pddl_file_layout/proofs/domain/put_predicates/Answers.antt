use Rattle.std.proofs.Common.{codes, arith}
use Rattle.pddl_domain.specs.Declarations.{predicate_view}
use Rattle.pddl_file_layout.specs.Inner.Texts.{signature_text}
use Rattle.pddl_file_layout.specs.DomainLayout.{is_declared_predicate}
use Rattle.pddl_file_layout.proofs.SectionTexts.{section_filled, section_empty, empty_passes}
use Rattle.pddl_file_layout.proofs.Printed.{puts_on, puts_as, puts_nothing}
use Rattle.pddl_file_layout.proofs.domain.put_predicates.Goals as goal

pub returns-clause-printed : goal.returns-clause-printed
returns-clause-printed g c = puts_as (section_filled predicate_view (codes "  (:predicates") signature_text c.args.predicates.now (omega arith)) (puts_on c.put.ensures (puts_on c.put_predicate_list.ensures.printed c.put-2.ensures))

pub returns-clause-good : goal.returns-clause-good
returns-clause-good g c = c.put_predicate_list.ensures.good

pub returns-then-predicates-eq0-clause-printed : goal.returns-then-predicates-eq0-clause-printed
returns-then-predicates-eq0-clause-printed g c = puts_as (section_empty predicate_view (codes "  (:predicates") signature_text c.args.predicates.now (omega arith)) (puts_nothing _ _ _)

pub returns-then-predicates-eq0-clause-good : goal.returns-then-predicates-eq0-clause-good
returns-then-predicates-eq0-clause-good g c = empty_passes predicate_view is_declared_predicate c.args.predicates.now (omega arith)
