use Rattle.std.proofs.Common.{List, map, ap, ◌++◌, ℕ, codes}
use Rattle.pddl_formula.specs.declared.type_names.Typed.{Typed}
use Rattle.pddl_formula.specs.TypedLists.{typed_view}
use Rattle.pddl_file_layout.specs.Inner.Texts.{variables_text}
use Rattle.pddl_file_layout.proofs.Printed.{puts_on, puts_as}
use Rattle.pddl_file_layout.proofs.domain.put_action.Goals as goal

pub returns-clause-printed : goal.returns-clause-printed
returns-clause-printed g c = puts_on (puts_as (ap (λ (n : List ℕ). codes "  (:action " ++ n) c.as_bytes.ensures.value) c.put_both.ensures) (puts_on c.put.ensures (puts_on (puts_as (ap (λ (xs : List (Typed _)). variables_text (map typed_view xs)) c.deref.ensures.value) c.put_variables.ensures.printed) (puts_on c.put-2.ensures (puts_on c.put_formula.ensures.printed (puts_on c.put-3.ensures (puts_on c.put_effect.ensures.printed c.put-4.ensures))))))
