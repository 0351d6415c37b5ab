use Rattle.pddl_formula.specs.Formulas.{formula_view}
use Rattle.pddl_formula_reader.specs.Inner.Reading.{formula_at, behind}
use Rattle.pddl_formula_reader.proofs.Fills.{SoFar}
use Rattle.std.proofs.Common.{map}
use Rattle.std.specs.Prelude.{IfOk}
use Rattle.pddl_items.specs.ItemTrees.{item_trees}
use Rattle.pddl_items.specs.Inner.TreeReading.{all_of}
use Rattle.pddl_formula_reader.proofs.formula_reader.+formula.Given as goal

-- those so far, if there are any, and those of the items that are left
abbrev pub invariant-formulas_of-loop-index : goal.invariant-formulas_of-loop-index
invariant-formulas_of-loop-index g l =
    IfOk l.formulas (SoFar formula_view formula_at l.items (all_of (behind (map formula_at (item_trees l.items)))) l.index)
