use Rattle.std.proofs.Common.{Some, None, refl, sym, ◌∙◌}
use Rattle.pddl_sections.proofs.Heads.{rest_is}
use Rattle.pddl_formula_reader.specs.Inner.Reading.{predicate_at}
use Rattle.pddl_init_reader.specs.Inner.InitReading.{fact_of_list}
use Rattle.pddl_init_reader.proofs.InitTurns.{head_fails, by_objects}
use Rattle.pddl_init_reader.proofs.init_reader.fact_of_list.Goals as goal

pub returns-in_default-2 : goal.returns-in_default-2
returns-in_default-2 g c =
    head_fails predicate_at fact_of_list (λ head ts. refl) c.args.items.now c.head-item.result c.in-len1-up.len_at_least c.head-item.is (sym c.in_default-2.is ∙ c.in_ok-predicate.ensures)

pub returns-in_default-3 : goal.returns-in_default-3
returns-in_default-3 g c =
    by_objects predicate_at fact_of_list (λ head ts. refl) c.args.items.now c.head-item.result c.in-len1-up.len_at_least c.head-item.is
    c.in-Some.predicate (sym c.in-Some.is ∙ c.in_ok-predicate.ensures) _ (rest_is 1 c.args.items.now) None (rw c.in_default-3.is at c.in_ok-objects.ensures)

pub returns : goal.returns
returns g c =
    by_objects predicate_at fact_of_list (λ head ts. refl) c.args.items.now c.head-item.result c.in-len1-up.len_at_least c.head-item.is
    c.in-Some.predicate (sym c.in-Some.is ∙ c.in_ok-predicate.ensures) _ (rest_is 1 c.args.items.now) (Some c.in-Some-2.objects) (rw c.in-Some-2.is at c.in_ok-objects.ensures)
