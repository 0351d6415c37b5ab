use Rattle.std.proofs.Common.{◌≡◌, ◌<◌, [], Some, length, map, refl, ap, ◌∙◌, arith}
use Rattle.std.proofs.lemmas.List.{length-map, nil_from_length}
use Rattle.pddl_token.specs.Spelling.{view}
use Rattle.pddl_token.specs.Trees.{unplaced}
use Rattle.pddl_token.specs.TreeWords.{list}
use Rattle.pddl_formula.specs.Formulas.{conjunction, formula_view, formulas_of}
use Rattle.pddl_formula.proofs.Views.{view_and}
use Rattle.pddl_items.specs.ItemTrees.{item_tree, item_trees}
use Rattle.pddl_items.proofs.TreeLists.{item_tree_list, item_tree_word}
use Rattle.pddl_formula_reader.specs.Inner.Reading.{condition_at, formula_at}
use Rattle.pddl_formula_reader.proofs.TurnsOfFormulas.{condition_at_list, condition_at_leaf}
use Rattle.pddl_formula_reader.proofs.formula_reader.condition_of.Goals as goal

pub returns-else-len-eq0 : goal.returns-else-len-eq0
returns-else-len-eq0 g c =
    let items = c.in-List.items in
    let some : 0 < length (item_trees items.items) = omega (arith, length-map items.items item_tree, items.ok.0) in
    let there : item_tree c.args.item.now ≡ _ = ap item_tree c.in-List.is ∙ item_tree_list items c.in-List.field-1 in
    let same : condition_at (item_tree c.args.item.now) ≡ formula_at (item_tree c.args.item.now) = rw there (condition_at_list (item_trees items.items) some) in
    rw same c.formula_of.ensures

pub returns-in-Word : goal.returns-in-Word
returns-in-Word g c =
    rw (c.in-Word.is, item_tree_word _ c.in-Word.field-0, condition_at_leaf (unplaced (view c.in-Word.field-0))) refl

pub returns-then-len-eq0 : goal.returns-then-len-eq0
returns-then-len-eq0 g c =
    let items = c.in-List.items in
    let none : items.items ≡ [] = nil_from_length items.items (omega (arith, items.ok.0)) in
    let there : item_tree c.args.item.now ≡ list [] = ap item_tree c.in-List.is ∙ (item_tree_list items c.in-List.field-1 ∙ ap (λ xs. list (item_trees xs)) none) in
    rw there (ap Some (view_and c.new.result ∙ ap (λ fs. conjunction (formulas_of (map formula_view fs))) c.new.ensures.items))
