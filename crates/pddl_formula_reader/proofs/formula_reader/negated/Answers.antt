use Rattle.pddl_build.proofs.Parts.{found_reads, boxed_reads}
use Rattle.pddl_formula.specs.declared.formula.Formula.TheVariants as cases
use Rattle.pddl_formula.specs.Formulas.{formula_view, negation}
use Rattle.pddl_formula.proofs.Views.{view_not}
use Rattle.pddl_formula_reader.proofs.formula_reader.negated.Goals as goal

pub returns : goal.returns
returns g c f reads =
    found_reads cases.Not formula_view (λ b. formula_view b.value) negation view_not c.boxed.result c.negation.result f c.negation.ensures
    (boxed_reads formula_view c.args.formula c.boxed.result f reads c.boxed.ensures)
