use Rattle.std.proofs.Common.{◌≡◌, ℕ, List, Err, ap, subst, sym, ◌∙◌, rules, arith}
use Rattle.std.specs.List.{insert}
use Rattle.std.specs.List.Sorted.{IsBinarySearchResult}
use Rattle.std.specs.Ordering.{nat_cmp}
use Rattle.std.proofs.lemmas.List.Edits.{length-insert}
use Rattle.pddl_mixed_rows.specs.SparseRows.{has_number, AreRising}
use Rattle.pddl_mixed_rows.proofs.SparseNumbers.{found_none, found_one, put_same, put_has, put_rises}
use Rattle.pddl_mixed_rows.proofs.sparse.put_number.Goals as goal

pub insert-requires : goal.insert-requires
insert-requires g c =
    let position = subst (λ (xs : List ℕ). IsBinarySearchResult (λ y. nat_cmp y c.args.number) xs (Err c.in-Err.place)) c.deref.ensures.value c.in-Err.ensures.position in
    omega (arith, (found_none c.args.numbers.now.items c.args.number c.in-Err.place c.requires position).0, c.args.numbers.now.ok.0)

pub returns-in-Ok-clause-ok : goal.returns-in-Ok-clause-ok
returns-in-Ok-clause-ok g c = λ i. put_same c.args.numbers.now.items c.args.number i (found_one c.args.numbers.now.items c.args.number c.in-Ok.field-0 c.requires (search rules))

pub returns-in_ok-insert-in-Err-clause-rising : goal.returns-in_ok-insert-in-Err-clause-rising
returns-in_ok-insert-in-Err-clause-rising g c =
    let is : c.insert.new.self.items ≡ insert c.args.numbers.now.items c.in-Err.place c.args.number = search rules in
    let same : c.deref.result.now ≡ c.args.numbers.now.items = search rules in
    let position = subst (λ (xs : List ℕ). IsBinarySearchResult (λ y. nat_cmp y c.args.number) xs (Err c.in-Err.place)) same c.in-Err.ensures.position in
    let r = found_none c.args.numbers.now.items c.args.number c.in-Err.place c.requires position in
    subst AreRising (sym is) (put_rises c.args.numbers.now.items c.in-Err.place c.args.number c.requires r.0 (length-insert c.args.numbers.now.items c.in-Err.place c.args.number r.0) r.1 r.2)

pub returns-in_ok-insert-in-Err-clause-ok : goal.returns-in_ok-insert-in-Err-clause-ok
returns-in_ok-insert-in-Err-clause-ok g c = λ i.
    let is : c.insert.new.self.items ≡ insert c.args.numbers.now.items c.in-Err.place c.args.number = search rules in
    ap (λ (xs : List ℕ). has_number xs i) is ∙ put_has c.args.numbers.now.items c.in-Err.place c.args.number i
