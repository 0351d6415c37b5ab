-- What typed lists of names with types list. No public contract names this.
use Rattle.std.specs.Prelude.{ℕ, List, Option}
use Rattle.pddl_token.specs.Trees.{Tree}
use Rattle.pddl_items.specs.Inner.TreeReading.{name_at, variable_at}
use Rattle.pddl_formula_reader.specs.declared.typed_reader.Sort.{Sort}
use Rattle.pddl_formula_reader.specs.declared.typed_reader.Sort.TheVariants.{Names, Variables}

-- the item of a list of this sort that a tree is
abbrev pub item_at : Sort → Tree → Option (List ℕ)
item_at Names t = name_at t
item_at Variables t = variable_at t
