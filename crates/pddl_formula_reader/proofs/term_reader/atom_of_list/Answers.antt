use Rattle.std.proofs.Common.{map, refl, arith}
use Rattle.pddl_build.proofs.Parts.{found_reads}
use Rattle.pddl_formula.specs.Terms.{term_view, atom_view}
use Rattle.pddl_formula_reader.proofs.Turns.{atom_by_head}
use Rattle.pddl_formula_reader.proofs.term_reader.atom_of_list.Goals as goal

pub returns-in_default-2 : goal.returns-in_default-2
returns-in_default-2 g c =
    rw (atom_by_head c.args.items.now c.head-item.result (omega arith) c.head-item.is, ← c.in_ok-predicate.ensures, c.in_default-2.is) refl

pub returns : goal.returns
returns g c =
    rw (atom_by_head c.args.items.now c.head-item.result (omega arith) c.head-item.is, ← c.in_ok-predicate.ensures, c.in-Some.is)
    (found_reads (λ terms. record { predicate = c.in-Some.predicate; terms = terms }) atom_view (λ v. map term_view v.items) (λ terms. record { predicate = c.in-Some.predicate; terms = terms }) (λ v. refl)
    c.terms_of.result c.atom.result _ c.atom.ensures c.terms_of.ensures)
