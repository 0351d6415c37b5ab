use Rattle.std.proofs.Common.{map, refl, arith}
use Rattle.pddl_build.specs.Results.{both_of}
use Rattle.pddl_build.proofs.Parts.{found_reads, both_reads, plain_reads}
use Rattle.pddl_formula.specs.Terms.{term_view}
use Rattle.pddl_effect.specs.Effects.{function_term_view}
use Rattle.pddl_effect_reader.proofs.AmountTurns.{call_is, term_of_parts}
use Rattle.pddl_effect_reader.proofs.amount_reader.list_function_term.Goals as goal

pub returns : goal.returns
returns g c =
    let function = c.static_function_of.result in
    let terms = c.terms_of.result in
    rw (call_is c.args.items.now c.head-item.result (omega arith) c.head-item.is)
    (found_reads (λ p. record { function = p.0; terms = p.1 }) function_term_view (λ p. (p.0, map term_view p.1.items)) term_of_parts (λ p. refl)
    (both_of function terms) c.function_term.result _ c.function_term.ensures
    (both_reads (λ f. f) (λ v. map term_view v.items) function terms (both_of function terms) _ _ (plain_reads function _ c.static_function_of.ensures) c.terms_of.ensures refl))
