use Rattle.std.proofs.Common.{◌≡◌, [], map, take, drop, flat_map}
use Rattle.pddl_task.specs.Names.{repeated}
use Rattle.pddl_task.specs.Settings.{symbol_of, parameters_of}
use Rattle.pddl_types.specs.Told.{AreTold, AreKept, unknown_among}
use Rattle.pddl_types.specs.Signatures.{HaveFirst}
use Rattle.pddl_types.proofs.FirstFaults.{IsFirst}
use Rattle.pddl_types.proofs.signatures.put.Given as goal

-- what was declared so far is held, the first name that stands twice is found, and what is unknown is unknown in the rest
abbrev pub invariant-loop-each : goal.invariant-loop-each
invariant-loop-each g l =
    let seen = map g.D.Declares.signature (take l.each-index l.declared.items) in
    let left = map g.D.Declares.signature (drop l.each-index l.declared.items) in
    let all = map g.D.Declares.signature l.declared.items in
    record {
      types : AreTold l.types l.told;
      kept : AreKept l.fn.told l.told;
      held : HaveFirst l.told l.table.entries seen;
      found : IsFirst (repeated (map symbol_of seen) (map symbol_of left)) (repeated [] (map symbol_of all)) l.found;
      left : unknown_among l.types.declared (flat_map parameters_of left) ≡ unknown_among l.types.declared (flat_map parameters_of all);
    }
