use Rattle.std.proofs.Common.{map, sym, ◌∙◌, refl, arith}
use Rattle.pddl_token.specs.Spelling.{view}
use Rattle.pddl_token.specs.Trees.{unplaced}
use Rattle.pddl_items.specs.ItemTrees.{item_tree, item_trees}
use Rattle.pddl_items.proofs.TreeLists.{item_tree_list, item_tree_word}
use Rattle.pddl_formula.specs.Formulas.{formula_view, atom, conjunction, disjunction, formulas_of}
use Rattle.pddl_formula_reader.specs.Inner.Reading.{formula_at, quantifying}
use Rattle.pddl_formula.specs.Terms.{atom_view}
use Rattle.pddl_formula_reader.specs.declared.head.Head.TheVariants as heads
use Rattle.pddl_formula_reader.proofs.Fills.{fill_next, fill_end}
use Rattle.pddl_build.proofs.Parts.{found_reads}
use Rattle.pddl_formula.specs.declared.formula.Formula.TheVariants as cases
use Rattle.pddl_formula.proofs.Views.{view_atom, view_and, view_or}
use Rattle.pddl_formula_reader.proofs.TurnsOfFormulas.{formula_at_list, formula_at_leaf, only_is, two_is, quantified_is, by_head, by_name, by_equal}
use Rattle.pddl_formula_reader.proofs.formula_reader.+formula.Goals as goal

pub formula_of-returns-in-List : goal.formula_of-returns-in-List
formula_of-returns-in-List g t c =
    rw (c.in-List.is, item_tree_list c.in-List.items c.in-List.field-1, formula_at_list (item_trees c.in-List.items.items), ← c.deref.ensures.value) c.list_formula_of.ensures

pub formula_of-returns-in-Word : goal.formula_of-returns-in-Word
formula_of-returns-in-Word g t c =
    rw (c.in-Word.is, item_tree_word _ c.in-Word.field-0, formula_at_leaf (unplaced (view c.in-Word.field-0))) refl

pub formulas_of-loop-index-preserved : goal.formulas_of-loop-index-preserved
formulas_of-loop-index-preserved g t c =
    let l = c.loop-index in
    fill_next formula_view formula_at c.args.items.now _ l.index c.index-items-index.result (omega arith) c.index-items-index.is l.formulas c.formula_of.result c.push_formula-formulas.result
    l.invariant c.formula_of.ensures c.push_formula-formulas.ensures

pub formulas_of-returns-after-loop-index : goal.formulas_of-returns-after-loop-index
formulas_of-returns-after-loop-index g t c =
    let l = c.loop-index in
    fill_end formula_view formula_at c.args.items.now _ l.index (omega arith) l.formulas l.invariant

pub negation_of-returns : goal.negation_of-returns
negation_of-returns g t c =
    let item = c.item-item.result in
    rw (only_is c.args.items.now item (omega arith) (omega arith) c.item-item.is) (c.negated.ensures (formula_at (item_tree item)) c.formula_of.ensures)

pub implication_of-returns : goal.implication_of-returns
implication_of-returns g t c =
    let left = c.left-item.result in
    let right = c.right-item.result in
    rw (two_is c.args.items.now left right (omega arith) (omega arith) c.left-item.is c.right-item.is)
    (c.implied.ensures (formula_at (item_tree left)) (formula_at (item_tree right)) c.formula_of.ensures c.formula_of-2.ensures)

pub quantified_of-returns : goal.quantified_of-returns
quantified_of-returns g t c =
    let variables = c.variables-item.result in
    let body = c.body-item.result in
    rw (quantified_is c.args.items.now variables body (omega arith) (omega arith) c.variables-item.is c.body-item.is (quantifying c.args.quantifier))
    (c.quantified.ensures (formula_at (item_tree body)) c.formula_of.ensures)

pub list_formula_of-returns-in-And : goal.list_formula_of-returns-in-And
list_formula_of-returns-in-And g t c =
    rw (by_head c.args.items.now c.head-item.result heads.And (omega arith) c.head-item.is (sym c.in-And.is ∙ c.head_of.ensures))
    (found_reads cases.And formula_view (λ v. map formula_view v.items) (λ fs. conjunction (formulas_of fs)) view_and c.formulas_of.result c.junction.result _ c.junction.ensures c.formulas_of.ensures)

pub list_formula_of-returns-in-Or : goal.list_formula_of-returns-in-Or
list_formula_of-returns-in-Or g t c =
    rw (by_head c.args.items.now c.head-item.result heads.Or (omega arith) c.head-item.is (sym c.in-Or.is ∙ c.head_of.ensures))
    (found_reads cases.Or formula_view (λ v. map formula_view v.items) (λ fs. disjunction (formulas_of fs)) view_or c.formulas_of-in-Or.result c.junction-in-Or.result _ c.junction-in-Or.ensures c.formulas_of-in-Or.ensures)

pub list_formula_of-returns-in-Exists : goal.list_formula_of-returns-in-Exists
list_formula_of-returns-in-Exists g t c =
    rw (by_head c.args.items.now c.head-item.result heads.Exists (omega arith) c.head-item.is (sym c.in-Exists.is ∙ c.head_of.ensures)) c.quantified_of.ensures

pub list_formula_of-returns-in-Forall : goal.list_formula_of-returns-in-Forall
list_formula_of-returns-in-Forall g t c =
    rw (by_head c.args.items.now c.head-item.result heads.Forall (omega arith) c.head-item.is (sym c.in-Forall.is ∙ c.head_of.ensures)) c.quantified_of-in-Forall.ensures

pub list_formula_of-returns-in-Name : goal.list_formula_of-returns-in-Name
list_formula_of-returns-in-Name g t c =
    rw (by_name c.args.items.now c.head-item.result (omega arith) c.head-item.is (sym c.in-Name.is ∙ c.head_of.ensures))
    (found_reads cases.Atom formula_view atom_view atom view_atom c.atom_of_list.result c.atomic.result _ c.atomic.ensures c.atom_of_list.ensures)

pub list_formula_of-returns-in-Equal : goal.list_formula_of-returns-in-Equal
list_formula_of-returns-in-Equal g t c =
    rw (by_equal c.args.items.now c.head-item.result (omega arith) c.head-item.is (sym c.in-Equal.is ∙ c.head_of.ensures)) c.equality_of.ensures
