use Rattle.std.proofs.Common.{◌≡◌, drop}
use Rattle.std.specs.List.{list_all}
use Rattle.pddl_items.specs.ItemTrees.{item_trees}
use Rattle.pddl_effect_reader.specs.Inner.IncreaseTests.{is_term_at}
use Rattle.pddl_effect_reader.proofs.increase.are_terms.Given as goal

-- whether those that are left are terms
abbrev pub invariant-loop-item : goal.invariant-loop-item
invariant-loop-item g l = list_all is_term_at (item_trees (drop l.item-index l.items)) ≡ list_all is_term_at (item_trees l.items)
