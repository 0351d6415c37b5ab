use Rattle.std.proofs.Common.{◌-◌, ℕ, rules, tests, map}
use Rattle.std.proofs.lemmas.Iterator.{YieldsList-from_map, items_from_collect}
use Rattle.std.proofs.lemmas.Iterator.Consumers.{YieldsList-from_rest}
use Rattle.std.proofs.lemmas.Simd.{map-map}
use Rattle.pddl_types.specs.TypeTables.{Row}
use Rattle.pddl_types.proofs.types.parent_places.Goals as goal

pub returns : goal.returns
returns g c =
    rw (← map-map (λ (p : ℕ). p - 1) (λ (r : Row). r.1) c.args.table.now.entries)
    (items_from_collect _ c.collect.ensures.ran (YieldsList-from_map _ (λ p. p - 1) (YieldsList-from_rest (map (λ (r : Row). r.1) c.args.table.now.entries) (search rules)) c.map.ensures.closure (λ x r q k. search (rules, tests))))
