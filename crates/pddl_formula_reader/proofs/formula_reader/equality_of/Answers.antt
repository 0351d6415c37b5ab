use Rattle.std.proofs.Common.{arith}
use Rattle.pddl_build.proofs.Parts.{found_reads, both_reads}
use Rattle.pddl_items.specs.ItemTrees.{item_tree}
use Rattle.pddl_formula.specs.declared.formula.Formula.TheVariants as cases
use Rattle.pddl_formula.specs.Terms.{term_view}
use Rattle.pddl_formula.specs.Formulas.{formula_view, equal}
use Rattle.pddl_formula_reader.specs.Inner.Reading.{term_at}
use Rattle.pddl_formula.proofs.Views.{view_equal}
use Rattle.pddl_formula_reader.proofs.TurnsOfFormulas.{two_terms}
use Rattle.pddl_formula_reader.proofs.formula_reader.equality_of.Goals as goal

pub returns : goal.returns
returns g c =
    let left = c.left-item.result in
    let right = c.right-item.result in
    rw (two_terms c.args.items.now left right (omega arith) (omega arith) c.left-item.is c.right-item.is)
    (found_reads (λ p. cases.Equal p.0 p.1) formula_view (λ p. (term_view p.0, term_view p.1)) (λ p. equal p.0 p.1) (λ p. view_equal p.0 p.1)
    c.both.result c.equality.result _ c.equality.ensures
    (both_reads term_view term_view c.term_of.result c.term_of-2.result c.both.result (term_at (item_tree left)) (term_at (item_tree right)) c.term_of.ensures c.term_of-2.ensures c.both.ensures))
