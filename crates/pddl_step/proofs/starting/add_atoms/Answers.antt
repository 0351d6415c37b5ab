use Rattle.std.proofs.Common.{◌≡◌, ◌+◌, Bool, ◌||◌, ◌∷◌, drop, arith, ap, sym, ◌∙◌}
use Rattle.std.proofs.lemmas.List.{drop_more, at_drop_all}
use Rattle.pddl_state.specs.Atoms.{atom_eq}
use Rattle.pddl_state.specs.AtomSets.{is_listed}
use Rattle.pddl_step.proofs.starting.add_atoms.Goals as goal

-- an atom that is put into the set is no longer left
one_put : (atom left old new : Bool) → new ≡ (atom || old) → ((atom || left) || old) ≡ (left || new)
one_put atom left old new is = grind arith

pub loop-atom-preserved : goal.loop-atom-preserved
loop-atom-preserved g c =
    let atoms = c.args.atoms.now in
    let i = c.loop-atom.atom-index in
    let a = c.atom-item.result in
    let left = drop (i + 1) atoms in
    let front = drop_more atoms i a c.loop-atom-test.true ∙ ap (λ b. b ∷ left) (sym c.atom-item.is) in
    let old = g.S.AtomStore.content c.loop-atom.store c.loop-atom.set in
    record {
      own = c.in_ok-insert.ensures.own;
      rest = λ x. c.loop-atom.invariant.rest x ∙ (ap (λ l. is_listed l x || old x) front ∙ one_put (atom_eq x a) (is_listed left x) (old x) _ (ap (λ s. s x) c.in_ok-insert.ensures.ok));
    }

pub returns : goal.returns
returns g c =
    let content = g.S.AtomStore.content c.loop-atom.store c.loop-atom.set in
    record {
      own = c.loop-atom.invariant.own;
      content = λ x. sym (c.loop-atom.invariant.rest x ∙ ap (λ b. b || content x) (at_drop_all (λ atoms. is_listed atoms x) c.args.atoms.now c.loop-atom.atom-index c.loop-atom-test.false));
    }
