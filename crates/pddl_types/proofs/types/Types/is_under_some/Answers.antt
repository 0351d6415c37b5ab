use Rattle.std.proofs.Common.{refl, ap, ◌∙◌, rules, tests}
use Rattle.std.specs.List.{list_any}
use Rattle.std.proofs.Math.Path.{fun_ext}
use Rattle.std.proofs.lemmas.Iterator.{YieldsList-from_slice}
use Rattle.std.proofs.lemmas.Iterator.Search.{any_from_yields_List}
use Rattle.pddl_forest.specs.Spans.{holds}
use Rattle.pddl_task.specs.Types.{pairs, is_under}
use Rattle.pddl_types.specs.TypeSpans.{span_of}
use Rattle.pddl_types.proofs.NamedSpans.{in_table, test_told}
use Rattle.pddl_types.proofs.types.Types.is_under_some.Goals as goal

pub returns : goal.returns
returns g c = λ n is type.
    let t = c.args.self.now in
    let some = any_from_yields_List (λ m. holds (span_of t m) c.args.number) _ _ _ c.any.ensures.ran (YieldsList-from_slice c.as_slice.result.now c.iter.ensures.rest) (λ m b q k. search (rules, tests)) in
    some ∙ ap (λ q. list_any q c.as_slice.result.now) (fun_ext (λ m. test_told t (in_table c.self.view_is c.self.invariant) n m c.args.number (span_of t m) type is refl))
    ∙ ap (list_any (is_under (pairs t.declared) n)) c.as_slice.ensures.value
