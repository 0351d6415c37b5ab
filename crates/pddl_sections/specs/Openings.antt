-- What a file opens with, without where it lies in memory.
use Rattle.std.specs.Prelude.{ℕ, List}
use Rattle.pddl_token.specs.Trees.{Placed}
use Rattle.pddl_items.specs.Items.{items_view}
use Rattle.pddl_sections.specs.declared.head.Opening.{Opening}

-- the name, and the sections as trees with places
abbrev pub opening_view : {A B : _} → Opening A B → List ℕ × List Placed
opening_view opening = (opening.name, items_view opening.sections.now)
