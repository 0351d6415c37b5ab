use Rattle.std.proofs.Common.{◌≡◌, ◌||◌, drop}
use Rattle.pddl_state.specs.Atoms.{AtomValue}
use Rattle.pddl_state.specs.AtomSets.{is_listed}
use Rattle.pddl_step.proofs.starting.add_atoms.Given as goal

-- the atoms so far are in the set
abbrev pub invariant-loop-atom : goal.invariant-loop-atom
invariant-loop-atom g l =
    let owns = g.S.AtomStore.owns in
    let content = g.S.AtomStore.content in
    record {
      own : owns l.store l.set;
      rest : (x : AtomValue) → (is_listed l.atoms x || content l.fn.store l.fn.set x) ≡ (is_listed (drop l.atom-index l.atoms) x || content l.store l.set x);
    }
