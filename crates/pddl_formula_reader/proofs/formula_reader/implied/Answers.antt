use Rattle.std.specs.Option.{option_zip}
use Rattle.pddl_build.proofs.Parts.{found_reads, both_in_boxes_reads}
use Rattle.pddl_formula.specs.declared.formula.Formula.TheVariants as cases
use Rattle.pddl_formula.specs.Formulas.{formula_view, implication}
use Rattle.pddl_formula.proofs.Views.{view_imply}
use Rattle.pddl_formula_reader.proofs.formula_reader.implied.Goals as goal

pub returns : goal.returns
returns g c f h left right =
    found_reads (λ p. cases.Imply p.0 p.1) formula_view (λ p. (formula_view p.0.value, formula_view p.1.value)) (λ p. implication p.0 p.1) (λ p. view_imply p.0 p.1)
    c.both_in_boxes.result c.implication.result (option_zip f h) c.implication.ensures
    (both_in_boxes_reads formula_view formula_view c.args.left c.args.right c.both_in_boxes.result f h left right c.both_in_boxes.ensures)
