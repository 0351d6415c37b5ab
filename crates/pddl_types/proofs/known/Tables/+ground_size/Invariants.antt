use Rattle.std.proofs.Common.{◌≡◌, ◌≤◌, ◌+◌, drop, map}
use Rattle.pddl_formula.specs.Formulas.{formula_view, formulas_of}
use Rattle.pddl_task.specs.GroundSize.{capped, formulas_size}
use Rattle.pddl_types.specs.Known.{count_in}
use Rattle.pddl_types.proofs.known.Tables.+ground_size.Given as goal

abbrev pub invariant-loop-part : goal.invariant-loop-part
invariant-loop-part g l =
    let count = count_in l.self.known in
    record {
      low : l.size ≤ 1000001;
      whole : capped (l.size + formulas_size count (formulas_of (map formula_view (drop l.part-index l.part-items)))) ≡ capped (1 + formulas_size count (formulas_of (map formula_view l.part-items)));
    }
