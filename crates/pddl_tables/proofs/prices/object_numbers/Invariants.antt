use Rattle.std.proofs.Common.{◌≡◌, ◌++◌, map, drop}
use Rattle.pddl_task.specs.Names.{number_in}
use Rattle.pddl_tables.proofs.prices.object_numbers.Given as goal

-- the numbers so far, and those that are left
abbrev pub invariant-loop-i : goal.invariant-loop-i
invariant-loop-i g l =
    l.numbers.items ++ map (number_in (g.L.Lookups.tables l.lookups).objects) (drop l.i l.names) ≡ map (number_in (g.L.Lookups.tables l.lookups).objects) l.names
