use Rattle.pddl_items.specs.ItemTrees.{item_tree}
use Rattle.pddl_token.proofs.Options.{exact_result}
use Rattle.pddl_effect.specs.Effects.{function_term_view, IsFunctionTerm}
use Rattle.pddl_effect_reader.specs.Inner.EffectReading.{function_term_at}
use Rattle.pddl_effect_reader.proofs.AmountLaws.{function_term_reads}
use Rattle.pddl_effect_reader.proofs.amount_reader.function_term_of.Goals as goal

pub returns-clause-spelled : goal.returns-clause-spelled
returns-clause-spelled g c =
    let t = item_tree c.args.item.now in
    exact_result (λ x. IsFunctionTerm x t) function_term_view c.item_function_term.result (function_term_at t) (function_term_reads.sound t) (function_term_reads.complete t) c.item_function_term.ensures
