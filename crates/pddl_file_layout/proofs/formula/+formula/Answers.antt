use Rattle.std.proofs.Common.{refl, arith}
use Rattle.pddl_formula.specs.Formulas.{formula_view}
use Rattle.pddl_file_layout.specs.FormulaValues.{is_formula}
use Rattle.pddl_file_layout.specs.Inner.Texts.{formula_text}
use Rattle.pddl_file_layout.proofs.Printed.{puts_nothing, puts_on, puts_as, spaced_on, passes_on, spaced_whole, whole_passes}
use Rattle.pddl_file_layout.proofs.Arms.{atom_shown, equal_text, not_text, imply_text, and_text, or_text, exists_text, forall_text, atom_good, equal_good, not_good, imply_good, and_good, or_good, exists_good, forall_good}
use Rattle.pddl_formula.proofs.formula.Formula.TheLaws.{the_size}
use Rattle.pddl_formula.proofs.Depths.{under_not, under_imply, under_and, under_or, under_exists, under_forall, among}
use Rattle.pddl_file_layout.proofs.formula.+formula.Goals as goal

pub put_formula-returns-in-Equal-clause-printed : goal.put_formula-returns-in-Equal-clause-printed
put_formula-returns-in-Equal-clause-printed g t c =
    puts_as (equal_text c.args.formula.now c.in-Equal.left c.in-Equal.right c.in-Equal.is) (puts_on c.put.ensures (puts_on c.put_term.ensures.printed (puts_on c.put-in-Equal.ensures (puts_on c.put_term-in-Equal.ensures.printed c.put-in-Equal-2.ensures))))

pub put_formula-returns-in-Not-clause-printed : goal.put_formula-returns-in-Not-clause-printed
put_formula-returns-in-Not-clause-printed g t c =
    puts_as (not_text c.args.formula.now c.deref.result.now c.in-Not.part c.in-Not.is c.deref.ensures)
    (puts_on c.put-in-Not.ensures (puts_on c.put_formula.ensures.printed c.put-in-Not-2.ensures))

pub put_formula-returns-in-Imply-clause-printed : goal.put_formula-returns-in-Imply-clause-printed
put_formula-returns-in-Imply-clause-printed g t c =
    puts_as (imply_text c.args.formula.now c.deref-in-Imply.result.now c.deref-in-Imply-2.result.now c.in-Imply.left c.in-Imply.right c.in-Imply.is c.deref-in-Imply.ensures c.deref-in-Imply-2.ensures)
    (puts_on c.put-in-Imply.ensures (puts_on c.put_formula-in-Imply.ensures.printed (puts_on c.put-in-Imply-2.ensures (puts_on c.put_formula-in-Imply-2.ensures.printed c.put-in-Imply-3.ensures))))

pub put_formula-returns-in-And-clause-printed : goal.put_formula-returns-in-And-clause-printed
put_formula-returns-in-And-clause-printed g t c = puts_as (and_text c.args.formula.now c.deref-in-And.result.now c.in-And.parts c.in-And.is c.deref-in-And.ensures.value) c.put_joined.ensures.printed

pub put_formula-returns-in-And-clause-good : goal.put_formula-returns-in-And-clause-good
put_formula-returns-in-And-clause-good g t c = and_good c.args.formula.now c.deref-in-And.result.now c.in-And.parts c.in-And.is c.deref-in-And.ensures.value c.put_joined.ensures.good

pub put_formula-returns-in-Or-clause-printed : goal.put_formula-returns-in-Or-clause-printed
put_formula-returns-in-Or-clause-printed g t c = puts_as (or_text c.args.formula.now c.deref-in-Or.result.now c.in-Or.parts c.in-Or.is c.deref-in-Or.ensures.value) c.put_joined-in-Or.ensures.printed

pub put_formula-returns-in-Or-clause-good : goal.put_formula-returns-in-Or-clause-good
put_formula-returns-in-Or-clause-good g t c = or_good c.args.formula.now c.deref-in-Or.result.now c.in-Or.parts c.in-Or.is c.deref-in-Or.ensures.value c.put_joined-in-Or.ensures.good

pub put_formula-returns-in-Exists-clause-printed : goal.put_formula-returns-in-Exists-clause-printed
put_formula-returns-in-Exists-clause-printed g t c =
    puts_as (exists_text c.args.formula.now c.deref-in-Exists-2.result.now c.deref-in-Exists.result.now c.in-Exists.variables c.in-Exists.part c.in-Exists.is c.deref-in-Exists.ensures.value c.deref-in-Exists-2.ensures)
    c.put_quantified.ensures.printed

pub put_formula-returns-in-Forall-clause-printed : goal.put_formula-returns-in-Forall-clause-printed
put_formula-returns-in-Forall-clause-printed g t c =
    puts_as (forall_text c.args.formula.now c.deref-in-Forall-2.result.now c.deref-in-Forall.result.now c.in-Forall.variables c.in-Forall.part c.in-Forall.is c.deref-in-Forall.ensures.value c.deref-in-Forall-2.ensures)
    c.put_quantified-in-Forall.ensures.printed

pub put_joined-returns-clause-printed : goal.put_joined-returns-clause-printed
put_joined-returns-clause-printed g t c = puts_on c.put.ensures (puts_on c.put_formulas.ensures.printed c.put-2.ensures)

pub put_quantified-returns-clause-printed : goal.put_quantified-returns-clause-printed
put_quantified-returns-clause-printed g t c = puts_on c.put_quantifier.ensures.printed (puts_on c.put_formula.ensures.printed c.put.ensures)

pub put_formulas-loop-formula-preserved : goal.put_formulas-loop-formula-preserved
put_formulas-loop-formula-preserved g t c =
    let l = c.loop-formula in
    let lt = c.loop-formula-test.true in
    record {
      printed = spaced_on formula_view formula_text c.args.formulas.now l.formula-index c.formula-item.result lt c.formula-item.is l.invariant.printed c.put.ensures c.put_formula.ensures.printed;
      good = passes_on formula_view is_formula c.args.formulas.now l.formula-index c.formula-item.result lt c.formula-item.is l.invariant.good c.put_formula.ensures.good;
    }

pub put_formulas-returns-clause-printed : goal.put_formulas-returns-clause-printed
put_formulas-returns-clause-printed g t c = spaced_whole formula_view formula_text c.args.formulas.now c.loop-formula.formula-index c.loop-formula-test.false c.loop-formula.invariant.printed

pub put_formulas-returns-clause-good : goal.put_formulas-returns-clause-good
put_formulas-returns-clause-good g t c = whole_passes formula_view is_formula c.args.formulas.now c.loop-formula.formula-index c.loop-formula-test.false c.loop-formula.invariant.good

pub put_formula-returns-in-Atom-clause-printed : goal.put_formula-returns-in-Atom-clause-printed
put_formula-returns-in-Atom-clause-printed g t c = puts_as (atom_shown c.args.formula.now c.in-Atom.atom c.in-Atom.is) c.put_atom.ensures.printed

pub put_formula-returns-in-Atom-clause-good : goal.put_formula-returns-in-Atom-clause-good
put_formula-returns-in-Atom-clause-good g t c = atom_good c.args.formula.now c.in-Atom.atom c.in-Atom.is c.put_atom.ensures.good

pub put_formula-returns-in-Equal-clause-good : goal.put_formula-returns-in-Equal-clause-good
put_formula-returns-in-Equal-clause-good g t c = equal_good c.args.formula.now c.in-Equal.left c.in-Equal.right c.in-Equal.is c.put_term.ensures.good c.put_term-in-Equal.ensures.good

pub put_formula-returns-in-Not-clause-good : goal.put_formula-returns-in-Not-clause-good
put_formula-returns-in-Not-clause-good g t c = not_good c.args.formula.now c.deref.result.now c.in-Not.part c.in-Not.is c.deref.ensures c.put_formula.ensures.good

pub put_formula-returns-in-Imply-clause-good : goal.put_formula-returns-in-Imply-clause-good
put_formula-returns-in-Imply-clause-good g t c =
    imply_good c.args.formula.now c.deref-in-Imply.result.now c.deref-in-Imply-2.result.now c.in-Imply.left c.in-Imply.right c.in-Imply.is c.deref-in-Imply.ensures c.deref-in-Imply-2.ensures
    c.put_formula-in-Imply.ensures.good c.put_formula-in-Imply-2.ensures.good

pub put_formula-returns-in-Exists-clause-good : goal.put_formula-returns-in-Exists-clause-good
put_formula-returns-in-Exists-clause-good g t c =
    exists_good c.args.formula.now c.deref-in-Exists-2.result.now c.deref-in-Exists.result.now c.in-Exists.variables c.in-Exists.part c.in-Exists.is c.deref-in-Exists.ensures.value c.deref-in-Exists-2.ensures
    c.put_quantified.ensures.variables_good c.put_quantified.ensures.part_good

pub put_formula-returns-in-Forall-clause-good : goal.put_formula-returns-in-Forall-clause-good
put_formula-returns-in-Forall-clause-good g t c =
    forall_good c.args.formula.now c.deref-in-Forall-2.result.now c.deref-in-Forall.result.now c.in-Forall.variables c.in-Forall.part c.in-Forall.is c.deref-in-Forall.ensures.value c.deref-in-Forall-2.ensures
    c.put_quantified-in-Forall.ensures.variables_good c.put_quantified-in-Forall.ensures.part_good

pub put_formula-put_formula-requires : goal.put_formula-put_formula-requires
put_formula-put_formula-requires g t c κs within = (omega (arith, under_not g.row.A g.A.Allocator g.A.laws c.args.formula.now c.deref.result.now c.in-Not.part c.in-Not.is c.deref.ensures, c.decreases), within)

pub put_formula-put_formula-requires-in-Imply : goal.put_formula-put_formula-requires-in-Imply
put_formula-put_formula-requires-in-Imply g t c κs within = (omega (arith, (under_imply g.row.A g.A.Allocator g.A.laws c.args.formula.now c.deref-in-Imply.result.now c.in-Imply.right.value c.in-Imply.left c.in-Imply.right c.in-Imply.is c.deref-in-Imply.ensures refl).0, c.decreases), within)

pub put_formula-put_formula-requires-in-Imply-2 : goal.put_formula-put_formula-requires-in-Imply-2
put_formula-put_formula-requires-in-Imply-2 g t c κs within = (omega (arith, (under_imply g.row.A g.A.Allocator g.A.laws c.args.formula.now c.deref-in-Imply.result.now c.deref-in-Imply-2.result.now c.in-Imply.left c.in-Imply.right c.in-Imply.is c.deref-in-Imply.ensures c.deref-in-Imply-2.ensures).1, c.decreases), within)

pub put_formula-put_joined-requires : goal.put_formula-put_joined-requires
put_formula-put_joined-requires g t c κs within =
    (omega (arith, under_and g.row.A g.A.Allocator g.A.laws c.args.formula.now c.deref-in-And.result.now c.in-And.parts c.in-And.is c.deref-in-And.ensures.value, c.decreases), within)

pub put_formula-put_joined-requires-in-Or : goal.put_formula-put_joined-requires-in-Or
put_formula-put_joined-requires-in-Or g t c κs within =
    (omega (arith, under_or g.row.A g.A.Allocator g.A.laws c.args.formula.now c.deref-in-Or.result.now c.in-Or.parts c.in-Or.is c.deref-in-Or.ensures.value, c.decreases), within)

pub put_formula-put_quantified-requires : goal.put_formula-put_quantified-requires
put_formula-put_quantified-requires g t c κs within =
    (omega (arith, under_exists g.row.A g.A.Allocator g.A.laws c.args.formula.now c.deref-in-Exists-2.result.now c.in-Exists.variables c.in-Exists.part c.in-Exists.is c.deref-in-Exists-2.ensures, c.decreases), within)

pub put_formula-put_quantified-requires-in-Forall : goal.put_formula-put_quantified-requires-in-Forall
put_formula-put_quantified-requires-in-Forall g t c κs within =
    (omega (arith, under_forall g.row.A g.A.Allocator g.A.laws c.args.formula.now c.deref-in-Forall-2.result.now c.in-Forall.variables c.in-Forall.part c.in-Forall.is c.deref-in-Forall-2.ensures, c.decreases), within)

pub put_formulas-put_formula-requires : goal.put_formulas-put_formula-requires
put_formulas-put_formula-requires g t c κs within = (omega (arith, among (λ f. the_size g.row.A g.A.Allocator g.A.laws f) c.args.formulas.now c.loop-formula.formula-index c.formula-item.result c.loop-formula-test.true c.formula-item.is, c.decreases), within)

pub put_formulas-loop-formula-init : goal.put_formulas-loop-formula-init
put_formulas-loop-formula-init g t c = record { printed = puts_nothing _ _ _; good = refl }
