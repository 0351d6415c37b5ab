use Rattle.std.proofs.Common.{◌-◌, ◌≡◌, ◌<◌, length, arith, sym, ap, ◌∙◌}
use Rattle.std.proofs.lemmas.List.{length-map, get_or_past, get_or_default}
use Rattle.pddl_task.specs.Names.{number_in}
use Rattle.pddl_types.specs.TypeTables.{Row, names_in}
use Rattle.pddl_types.proofs.TypeTables.{found_number, number_past, no_place}
use Rattle.pddl_types.proofs.types.Types.span.Goals as goal

pub returns-in-Some : goal.returns-in-Some
returns-in-Some g c =
    let rows = c.self.inside.parents.entries in
    let spans = c.self.inside.spans.items in
    let low : c.in-Some.place < length spans = omega (arith, c.in-Some.ensures.within, c.self.invariant.1.many, length-map rows (λ (r : Row). r.1 - 1)) in
    rw (← c.self.view_is, found_number rows c.args.name.now c.in-Some.place (sym c.in-Some.ensures.index)) (c.index.ensures ∙ get_or_default spans c.in-Some.place _ _ low)

pub returns-in-None : goal.returns-in-None
returns-in-None g c =
    let rows = c.self.inside.parents.entries in
    let spans = c.self.inside.spans.items in
    let past : length spans ≡ number_in (names_in rows) c.args.name.now = omega (arith, number_past rows c.args.name.now (no_place rows c.args.name.now (sym c.in-None.ensures.index)), c.self.invariant.1.many, length-map rows (λ (r : Row). r.1 - 1)) in
    rw (← c.self.view_is, get_or_past spans (number_in (names_in rows) c.args.name.now) _ (omega (arith, past))) (ap (λ n. record { first = n; last = n }) (omega (arith, c.len-past.ensures, c.self.inside.spans.ok.0)))
