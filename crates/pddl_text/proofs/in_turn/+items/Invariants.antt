use Rattle.std.proofs.Common.{◌≡◌, ◌≤◌, ◌++◌, ◌+◌, ◌-◌, ◌*◌, List, length, take, drop}
use Rattle.pddl_token.specs.Spelling.{PlacedWord}
use Rattle.pddl_scan.specs.Scanning.{LexedTo}
use Rattle.pddl_items.specs.Items.{items_view}
use Rattle.pddl_text.specs.Lists.{AreItems}
use Rattle.pddl_text.proofs.in_turn.+items.Given as goal

abbrev pub decreases-add_items : goal.decreases-add_items
decreases-add_items g l = 3 * l.levels + 2

abbrev pub decreases-list_behind : goal.decreases-list_behind
decreases-list_behind g l = 3 * l.levels + 1

abbrev pub decreases-add_list : goal.decreases-add_list
decreases-add_list g l = 3 * l.levels

-- the items so far are those of the words that were read
abbrev pub invariant-add_items-loop-token : goal.invariant-add_items-loop-token
invariant-add_items-loop-token g l = record {
  read : (words : List PlacedWord) → LexedTo l.text words l.initial.at
      → (more : List PlacedWord) × LexedTo l.text (words ++ more) l.at × AreItems l.levels more (items_view (drop (length l.initial.items.items) l.items.items));
  before : take (length l.initial.items.items) l.items.items ≡ l.initial.items.items;
  further : l.initial.at ≤ l.at;
}

abbrev pub decreases-add_items-loop-token : goal.decreases-add_items-loop-token
decreases-add_items-loop-token g l = length l.text - l.at
