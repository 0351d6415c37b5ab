use Rattle.std.proofs.Common.{[], ◌∷◌, ◌++◌, ap, sym, ◌∙◌, append_assoc}
use Rattle.pddl_formula.specs.TypedLists.{of_type}
use Rattle.pddl_formula.proofs.Grouped.{added_more}
use Rattle.pddl_domain.specs.Declarations.{type_view}
use Rattle.pddl_domain.proofs.declared_types.add_below.Goals as goal

pub returns-in_err-parent-clause-grown : goal.returns-in_err-parent-clause-grown
returns-in_err-parent-clause-grown g c = (of_type c.loop-name.yielded c.args.parent.now.value, c.loop-name.invariant.added)

pub loop-name-preserved : goal.loop-name-preserved
loop-name-preserved g c =
    let l = c.loop-name in
    record {
      added = rw c.in_ok-push.ensures.items (added_more type_view l.types.items c.args.types.now.items _ l.yielded c.args.parent.now.value l.invariant.added c.in_ok-parent.ensures.cases);
      left = append_assoc l.yielded (c.in-Some.name ∷ []) c.next.new.self.rest.items ∙ ap (λ rest. l.yielded ++ rest) (sym c.in-Some.ensures.steps.0) ∙ l.invariant.left;
    }
