use Rattle.std.proofs.Common.{rules, ◌≡◌, ◌+◌, ◌-◌, ◌≤◌, [], ◌∷◌, ◌++◌, length, take, drop, sym, ap, ◌∙◌, subst, arith, inl, inr}
use Rattle.std.specs.Prelude.{◌⊎◌}
use Rattle.std.proofs.lemmas.Bool.Decides.{nat_tests}
use Rattle.pddl_mixed_rows.specs.SparseRows.{AreRising, has_number}
use Rattle.pddl_mixed_rows.proofs.MergedNumbers.{AreMerged, merge_step, merge_same, merge_rises, rest_both}
use Rattle.pddl_mixed_rows.proofs.sparse.united_numbers.Goals as goal
use Rattle.pddl_mixed_rows.proofs.sparse.united_numbers.Goals.{then-loop-at-test+else-other-b, else-loop-at-test}

pub loop-at-preserved : goal.loop-at-preserved
loop-at-preserved g c =
    let a = c.args.a.now in
    let b = c.args.b.now in
    let i = c.loop-at.at in
    let j = c.loop-at.other in
    let pushed : c.push.new.self.items ≡ c.loop-at.all.items ++ c.min.result ∷ [] = search rules in
    let at_one = c.from-at.ensures in
    let at_two = c.from-other.ensures in
    let least = c.min.ensures in
    subst (λ l. AreMerged a b l (i + c.from-at.result) (j + c.from-other.result)) (sym pushed)
    (merge_step a b c.loop-at.all.items c.requires.a c.requires.b i j c.loop-at-test.true c.if-other-b.true c.loop-at.invariant c.min.result (i + c.from-at.result) (j + c.from-other.result)
    (λ le. (omega (arith, least), grind (arith, nat_tests, at_one)))
    (λ gt. (omega (arith, least), grind (arith, nat_tests, at_one)))
    (λ le. grind (arith, nat_tests, at_two))
    (λ lt. grind (arith, nat_tests, at_two)))

pub returns-clause-rising : goal.returns-clause-rising
returns-clause-rising g c =
    let a = c.args.a.now in
    let b = c.args.b.now in
    let i = c.loop-at.at in
    let j = c.loop-at.other in
    let taken : c.extend_from_slice-2.new.self.items ≡ (c.loop-at.all.items ++ take (length a - i) (drop i a)) ++ take (length b - j) (drop j b) = search rules in
    let all : c.extend_from_slice-2.new.self.items ≡ (c.loop-at.all.items ++ drop i a) ++ drop j b = taken ∙ rest_both c.loop-at.all.items a b i j in
    let ended : (length a ≤ i) ⊎ (length b ≤ j) = elim c.loop-at-test.branch [
      | then-loop-at-test+else-other-b w ↦ inr w.if-other-b.false
      | else-loop-at-test w ↦ inl w.loop-at-test.false
    ] in
    subst AreRising (sym all) (merge_rises a b c.loop-at.all.items c.requires.a c.requires.b i j c.loop-at.invariant ended)

pub returns-clause-all : goal.returns-clause-all
returns-clause-all g c = λ v.
    let a = c.args.a.now in
    let b = c.args.b.now in
    let i = c.loop-at.at in
    let j = c.loop-at.other in
    let taken : c.extend_from_slice-2.new.self.items ≡ (c.loop-at.all.items ++ take (length a - i) (drop i a)) ++ take (length b - j) (drop j b) = search rules in
    let all : c.extend_from_slice-2.new.self.items ≡ (c.loop-at.all.items ++ drop i a) ++ drop j b = taken ∙ rest_both c.loop-at.all.items a b i j in
    ap (λ l. has_number l v) all ∙ merge_same a b c.loop-at.all.items c.requires.a c.requires.b i j c.loop-at.invariant v
