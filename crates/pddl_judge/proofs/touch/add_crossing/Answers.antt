use Rattle.std.proofs.Common.{◌≡◌, ap, arith, ◌∙◌}
use Rattle.std.specs.Prelude.{Bool, ◌||◌}
use Rattle.std.proofs.lemmas.Result.{on_ok_weaker}
use Rattle.pddl_state.specs.AtomSets.{union, intersection}
use Rattle.pddl_judge.proofs.touch.add_crossing.Goals as goal

in_turn : (s x y z : Bool) → (((s || x) || y) || z) ≡ (s || ((x || y) || z))
in_turn s x y z = grind arith

pub returns-clause-own : goal.returns-clause-own
returns-clause-own g c = c.add_both-3.ensures.own

pub returns-clause-content : goal.returns-clause-content
returns-clause-content g c =
    let content = g.S.AtomStore.content c.args.store.now in
    let all = content c.args.all.now in
    let adds = content c.args.one.now.adds in
    let dels = content c.args.one.now.dels in
    let reads = content c.args.other.now.reads in
    let undone = content c.args.other.now.dels in
    let before : content c.add_both-2.new.all ≡ union (union all (intersection adds reads)) (intersection dels reads) = c.in_ok-add_both-2.ensures.content ∙ ap (λ s. union s (intersection dels reads)) c.in_ok-add_both.ensures.content in
    on_ok_weaker c.add_both-3.result (λ is. is ∙ (ap (λ s. union s (intersection adds undone)) before ∙ (λ i x. in_turn (all x) (intersection adds reads x) (intersection dels reads x) (intersection adds undone x) i))) c.add_both-3.ensures.content
