use Rattle.std.proofs.Common.{[], ◌∷◌, ◌++◌, ap, sym, ◌∙◌, append_assoc}
use Rattle.pddl_formula.specs.TypedLists.{typed_view, of_type}
use Rattle.pddl_formula.proofs.Grouped.{added_more}
use Rattle.pddl_formula.proofs.typed_list.add_names.Goals as goal

pub returns-in_err-types-clause-grown : goal.returns-in_err-types-clause-grown
returns-in_err-types-clause-grown g c = (of_type c.loop-name.yielded c.args.types.now, c.loop-name.invariant.added)

pub loop-name-preserved : goal.loop-name-preserved
loop-name-preserved g c =
    let l = c.loop-name in
    record {
      added = rw c.in_ok-push.ensures.items (added_more typed_view l.items.items c.args.items.now.items _ l.yielded c.args.types.now l.invariant.added c.in_ok-types.ensures);
      left = append_assoc l.yielded (c.in-Some.name ∷ []) c.next.new.self.rest.items ∙ ap (λ rest. l.yielded ++ rest) (sym c.in-Some.ensures.steps.0) ∙ l.invariant.left;
    }
