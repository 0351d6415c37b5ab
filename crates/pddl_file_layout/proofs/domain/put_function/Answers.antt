use Rattle.std.proofs.Common.{List, map, ap, codes, ◌++◌, ℕ}
use Rattle.pddl_formula.specs.declared.type_names.Typed.{Typed}
use Rattle.pddl_formula.specs.TypedLists.{typed_view}
use Rattle.pddl_file_layout.specs.Inner.Texts.{spaced_by, typed_text, type_text}
use Rattle.pddl_file_layout.proofs.SectionTexts.{signature_apart}
use Rattle.pddl_file_layout.proofs.Printed.{puts_on, puts_as}
use Rattle.pddl_file_layout.proofs.domain.put_function.Goals as goal

pub returns-clause-printed : goal.returns-clause-printed
returns-clause-printed g c = puts_as (signature_apart c.args.declared.now.name (spaced_by (typed_text (codes "?")) (map typed_view c.args.declared.now.parameters.items)) (type_text c.args.declared.now.result)) (puts_on (puts_as (ap (λ (n : List ℕ). codes "(" ++ n) c.as_bytes.ensures.value) c.put_both.ensures) (puts_on (puts_as (ap (λ (xs : List (Typed _)). spaced_by (typed_text (codes "?")) (map typed_view xs)) c.deref.ensures.value) c.put_typed_list.ensures.printed) (puts_on c.put.ensures c.put_type.ensures.printed)))
