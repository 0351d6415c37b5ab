use Rattle.std.proofs.Common.{◌≡◌, ap, ◌∙◌, ◌∷◌, ◌⊎◌, List, Vec, Box, map, refl, inl, inr, arith}
use denote.Param.Weighed.{most}
use Rattle.std.proofs.lemmas.List.Concat.{flat_map-append}
use Rattle.pddl_formula.specs.TypedLists.{TypedValue, typed_view}
use Rattle.pddl_formula.specs.Formulas.{formula_view, formulas_of}
use Rattle.pddl_formula.specs.declared.type_names.Typed.{Typed}
use Rattle.pddl_formula.specs.declared.formula.Formula.{Formula}
use Rattle.pddl_formula.specs.declared.formula.Formula.TheVariants.{Exists, Forall}
use Rattle.pddl_formula.specs.declared.formula.Formula.TheFolds as folds
use Rattle.pddl_formula.proofs.formula.Formula.TheLaws.{the_size}
use Rattle.pddl_formula.proofs.Depths.{among}
use Rattle.pddl_formula.proofs.Views.{view_atom, view_equal, view_not, view_imply, view_and, view_or, view_exists, view_forall}
use Rattle.pddl_task.specs.Places.{at, binds, places_in, places_in_all, binding}
use Rattle.pddl_task.proofs.Lists.{append-none}
use Rattle.pddl_names.specs.Scopes.{bound_in}
use Rattle.pddl_names.specs.Uses.{faults_by}
use Rattle.pddl_names.proofs.Walks.{stopped, one_more, at_end}
use Rattle.pddl_names.proofs.walk.+search_formula.Goals as goal

pub returns-in-Atom-clause-found : goal.returns-in-Atom-clause-found
returns-in-Atom-clause-found g t c = rw (c.in-Atom.is, view_atom _) (rw c.of_atom.ensures at c.look.ensures.found)

pub returns-in-Equal-clause-found : goal.returns-in-Equal-clause-found
returns-in-Equal-clause-found g t c = rw (c.in-Equal.is, view_equal _ _) c.look-in-Equal.ensures.found

pub returns-in-Not-clause-found : goal.returns-in-Not-clause-found
returns-in-Not-clause-found g t c = rw (c.in-Not.is, view_not _) (rw c.deref.ensures at c.search_formula.ensures.found)

pub returns-in-Imply-clause-found : goal.returns-in-Imply-clause-found
returns-in-Imply-clause-found g t c =
    rw (c.in-Imply.is, view_imply _ _, flat_map-append)
    (c.lower.ensures.found _ _ (rw c.deref-in-Imply.ensures at c.search_formula-first.ensures.found)
    (rw (c.deref-in-Imply-2.ensures, c.search_formula-first.ensures.kept) at c.search_formula-in-Imply.ensures.found))

-- a quantifier's place, and those behind it
quantified : {A : Type 0} (f : Formula A) (v : Vec (Typed A) A) (p : Box (Formula A) A) (b : List TypedValue) → (f ≡ Exists v p) ⊎ (f ≡ Forall v p)
    → places_in (formula_view f) b ≡ at b (binds (map typed_view v.items)) ∷ places_in (formula_view p.value) (binding (map typed_view v.items) b)
quantified f v p b (inl is) = rw (is, view_exists v p) refl
quantified f v p b (inr is) = rw (is, view_forall v p) refl

pub returns-in-Err-clause-found : goal.returns-in-Err-clause-found
returns-in-Err-clause-found g t c =
    let xs = map typed_view c.in-Exists.variables.items in
    rw (quantified _ _ _ _ c.in-Exists.is)
    (stopped c.args.known.now xs (places_in (formula_view c.in-Exists.inner.value) (binding xs (bound_in c.args.scope.now))) c.in-Err.fault c.in-Err.ensures.passes)

pub returns-in-Ok-clause-found : goal.returns-in-Ok-clause-found
returns-in-Ok-clause-found g t c =
    rw (quantified _ _ _ _ c.in-Exists.is, c.in-Ok.ensures.passes, append-none)
    (c.lower-in-Ok.ensures.found _ _ c.in-Ok.ensures.found (rw (c.deref-in-Ok.ensures, c.in-Ok.ensures.bound) at c.search_formula-found.ensures.found))

pub loop-part-preserved : goal.loop-part-preserved
loop-part-preserved g t c =
    let before = c.loop-part.invariant in
    let next = c.search_formula-in-loop-part.ensures in
    record {
      told = next.told;
      kept = next.kept ∙ before.kept;
      so_far = one_more (faults_by c.args.known.now) (λ fs. places_in_all (formulas_of (map formula_view fs)) (bound_in c.args.scope.now)) c.deref-part-items.result.now _ _ _ c.loop-part-test.true c.part-item.is
          (λ rest. refl) c.lower-found.ensures.found (rw before.kept at next.found) before.so_far;
    }

pub returns-after-loop-part-clause-found : goal.returns-after-loop-part-clause-found
returns-after-loop-part-clause-found g t c =
    let whole = at_end (faults_by c.args.known.now) (λ fs. places_in_all (formulas_of (map formula_view fs)) (bound_in c.args.scope.now)) c.deref-part-items.result.now c.loop-part-test.false refl c.deref-part-items.ensures.value
    c.loop-part.invariant.so_far in
    elim c.in-And.is [
      | inl here ↦ rw (here, view_and _) whole
      | inr here ↦ rw (here, view_or _) whole
    ]

pub search_formula-requires-in-loop-part : goal.search_formula-requires-in-loop-part
search_formula-requires-in-loop-part g t c κs lives =
    let depth = the_size g.row.A g.A.Allocator g.A.laws in
    let deepest = among depth c.deref-part-items.result.now c.loop-part.part-index c.part-item.result c.loop-part-test.true c.part-item.is in
    let same = ap (most depth) c.deref-part-items.ensures.value in
    (grind (folds.the_lemmas, arith, deepest, same, c.in-And.is, c.decreases), (lives.0, (lives.1, c.loop-part.invariant.told)))
