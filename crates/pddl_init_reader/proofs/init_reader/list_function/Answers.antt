use Rattle.std.proofs.Common.{List, Some, None, map, sym, ◌∙◌}
use Rattle.std.specs.Prelude.{option_map}
use Rattle.pddl_token.specs.Trees.{Tree}
use Rattle.pddl_items.specs.Inner.TreeReading.{name_at, all_of}
use Rattle.pddl_sections.proofs.Heads.{rest_is}
use Rattle.pddl_effect_reader.specs.Inner.EffectReading.{call_of_list}
use Rattle.pddl_init_reader.specs.Inner.InitReading.{ground_call}
use Rattle.pddl_init_reader.proofs.InitTurns.{called, head_fails, by_objects}
use Rattle.pddl_init_reader.proofs.init_reader.list_function.Goals as goal

pub returns-in_default-2 : goal.returns-in_default-2
returns-in_default-2 g c =
    head_fails name_at (λ (ts : List Tree). option_map ground_call (call_of_list name_at ts)) (λ head ts. called (name_at head) (all_of (map name_at ts)))
    c.args.items.now c.head-item.result c.in-len1-up.len_at_least c.head-item.is (sym c.in_default-2.is ∙ c.in_ok-function.ensures)

pub returns-in_default-3 : goal.returns-in_default-3
returns-in_default-3 g c =
    by_objects name_at (λ (ts : List Tree). option_map ground_call (call_of_list name_at ts)) (λ head ts. called (name_at head) (all_of (map name_at ts)))
    c.args.items.now c.head-item.result c.in-len1-up.len_at_least c.head-item.is
    c.in-Some.function (sym c.in-Some.is ∙ c.in_ok-function.ensures) _ (rest_is 1 c.args.items.now) None (rw c.in_default-3.is at c.in_ok-objects.ensures)

pub returns : goal.returns
returns g c =
    by_objects name_at (λ (ts : List Tree). option_map ground_call (call_of_list name_at ts)) (λ head ts. called (name_at head) (all_of (map name_at ts)))
    c.args.items.now c.head-item.result c.in-len1-up.len_at_least c.head-item.is
    c.in-Some.function (sym c.in-Some.is ∙ c.in_ok-function.ensures) _ (rest_is 1 c.args.items.now) (Some c.in-Some-2.objects) (rw c.in-Some-2.is at c.in_ok-objects.ensures)
