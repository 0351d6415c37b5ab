use Rattle.std.proofs.Common.{◌≡◌, true, map, sym, ap, subst, codes, ◌++◌, ℕ, List}
use Rattle.std.specs.List.{flat_map, list_all}
use Rattle.pddl_token.specs.Names.{is_name}
use Rattle.pddl_formula.specs.TypedLists.{typed_view}
use Rattle.pddl_domain.specs.Declarations.{type_view, predicate_view, function_view}
use Rattle.pddl_domain.specs.Actions.{action_view}
use Rattle.pddl_domain.specs.Domains.{domain_view}
use Rattle.pddl_file_layout.specs.FormulaValues.{is_typed}
use Rattle.pddl_file_layout.specs.DomainLayout.{is_declared_type, is_declared_predicate, is_declared_function, is_action}
use Rattle.pddl_file_layout.specs.Inner.Texts.{section_text, flag_text, declared_type_text, object_text, signature_text, function_text, action_lines}
use Rattle.pddl_file_layout.proofs.Printed.{puts_on, puts_as}
use Rattle.pddl_file_layout.proofs.LineTexts.{domain_is}
use Rattle.pddl_file_layout.proofs.SectionTexts.{all_seven}
use Rattle.pddl_file_layout.proofs.domain.put_domain.Goals as goal

pub returns-clause-printed : goal.returns-clause-printed
returns-clause-printed g c = puts_as (sym (domain_is (domain_view c.args.domain.now))) (puts_on (puts_as (ap (λ (n : List ℕ). codes "(define (domain " ++ n) c.as_bytes.ensures.value) c.put_both.ensures) (puts_on c.put.ensures (puts_on (puts_as (ap (λ xs. section_text (codes "  (:requirements") flag_text xs) c.deref.ensures.value) c.put_requirements.ensures.printed) (puts_on (puts_as (ap (λ xs. section_text (codes "  (:types") declared_type_text (map type_view xs)) c.deref-2.ensures.value) c.put_types.ensures.printed) (puts_on (puts_as (ap (λ xs. section_text (codes "  (:constants") object_text (map typed_view xs)) c.deref-3.ensures.value) c.put_objects.ensures.printed) (puts_on (puts_as (ap (λ xs. section_text (codes "  (:predicates") signature_text (map predicate_view xs)) c.deref-4.ensures.value) c.put_predicates.ensures.printed) (puts_on (puts_as (ap (λ xs. section_text (codes "  (:functions") function_text (map function_view xs)) c.deref-5.ensures.value) c.put_functions.ensures.printed) (puts_on (puts_as (ap (λ xs. flat_map action_lines (map action_view xs)) c.deref-6.ensures.value) c.put_actions.ensures.printed) c.put-2.ensures))))))))

pub returns-clause-good : goal.returns-clause-good
returns-clause-good g c =
    all_seven _ _ _ _ _ _ _ c.as_bytes.ensures.name (subst (λ xs. list_all is_name xs ≡ true) c.deref.ensures.value c.put_requirements.ensures.good) (subst (λ xs. list_all is_declared_type (map type_view xs) ≡ true) c.deref-2.ensures.value c.put_types.ensures.good) (subst (λ xs. list_all is_typed (map typed_view xs) ≡ true) c.deref-3.ensures.value c.put_objects.ensures.good)
    (subst (λ xs. list_all is_declared_predicate (map predicate_view xs) ≡ true) c.deref-4.ensures.value c.put_predicates.ensures.good) (subst (λ xs. list_all is_declared_function (map function_view xs) ≡ true) c.deref-5.ensures.value c.put_functions.ensures.good) (subst (λ xs. list_all is_action (map action_view xs) ≡ true) c.deref-6.ensures.value c.put_actions.ensures.good)
