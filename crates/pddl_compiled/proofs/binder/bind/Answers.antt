use Rattle.std.proofs.Common.{◌≡◌, ◌++◌, map, reverse, ap, ◌∙◌}
use Rattle.pddl_formula.specs.TypedLists.{typed_view}
use Rattle.pddl_compiled.specs.Compiler.{binder_of}
use Rattle.pddl_compiled.specs.Scopes.{slot_view, range_items}
use Rattle.pddl_compiled.proofs.Binders.{after, turned_round}
use Rattle.pddl_compiled.proofs.binder.bind.Goals as goal

pub returns : goal.returns
returns g c =
    let whole = binder_of (g.L.Lookups.tables c.args.lookups.now).range (map typed_view c.args.variables.now.items) in
    let made = c.add_all-made in
    rw c.and.ensures (record {
      slots = after made.result _ _ (λ b. map slot_view b.slots.items ≡ reverse whole.slots) made.ensures
          (λ bound. turned_round slot_view made.new.binder.slots.items c.reverse.new.self.items whole.slots c.reverse.ensures.items (bound.slots_are ∙ ap (λ l. map slot_view l ++ whole.slots) c.new.ensures.items));
      ranges = after made.result _ _ (λ b. map range_items b.ranges.items ≡ whole.ranges) made.ensures (λ bound. bound.ranges_are ∙ ap (λ l. map range_items l ++ whole.ranges) c.new-2.ensures.items);
      closed = after made.result _ _ (λ b. b.closed ≡ whole.closed) made.ensures (λ bound. bound.closed_is);
    })
