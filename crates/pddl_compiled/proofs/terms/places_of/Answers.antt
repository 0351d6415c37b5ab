use Rattle.std.proofs.Common.{arith, map, drop, ◌+◌, ◌∷◌, sym, ap, ◌∙◌}
use Rattle.std.proofs.lemmas.List.{drop_more, drop_all}
use Rattle.pddl_formula.specs.Terms.{term_view}
use Rattle.pddl_compiled.specs.Compiler.{resolved, place_of, places_of}
use Rattle.pddl_compiled.specs.Views.{place_view}
use Rattle.pddl_compiled.specs.Scopes.{scope_view}
use Rattle.pddl_compiled.proofs.Binders.{pushed, finished}
use Rattle.pddl_compiled.proofs.terms.places_of.Goals as goal

pub loop-term-preserved : goal.loop-term-preserved
loop-term-preserved g c =
    let t = g.L.Lookups.tables c.args.lookups.now in
    let scope = scope_view c.args.scope.now in
    let terms = c.args.terms.now in
    let i = c.loop-term.term-index in
    let left = places_of t scope (map term_view (drop (i + 1) terms)) in
    let is = c.place_of.ensures ∙ ap (place_of t) (c.in_ok-resolved.ensures ∙ ap (λ x. resolved scope (term_view x)) c.term-item.is) in
    pushed place_view c.loop-term.places.items c.push.new.self.items c.place_of.result left (places_of t scope (map term_view (drop i terms))) (places_of t scope (map term_view terms)) c.in_ok-push.ensures.items
    (ap (λ l. places_of t scope (map term_view l)) (drop_more terms i c.term-item.result c.loop-term-test.true) ∙ ap (λ p. p ∷ left) (sym is)) c.loop-term.invariant

pub returns : goal.returns
returns g c =
    let t = g.L.Lookups.tables c.args.lookups.now in
    let scope = scope_view c.args.scope.now in
    let terms = c.args.terms.now in
    finished place_view c.loop-term.places.items _ (places_of t scope (map term_view terms)) (ap (λ l. places_of t scope (map term_view l)) (drop_all c.loop-term.term-index terms (omega (arith, c.loop-term-test.false)))) c.loop-term.invariant
