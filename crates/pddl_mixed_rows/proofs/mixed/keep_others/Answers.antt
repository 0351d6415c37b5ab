use Rattle.std.proofs.Common.{rules, ◌≡◌, ℕ, Bool, not, filter, ap, sym, ◌∙◌, subst}
use Rattle.std.proofs.lemmas.Fn.{filter_same}
use Rattle.pddl_mixed_rows.specs.MixedRows.{is_set}
use Rattle.pddl_mixed_rows.specs.SparseRows.{AreRising, has_number}
use Rattle.pddl_mixed_rows.proofs.KeptNumbers.{has_filter, rising_filter}
use Rattle.pddl_mixed_rows.proofs.mixed.keep_others.Goals as goal

pub returns-clause-rising : goal.returns-clause-rising
returns-clause-rising g c =
    let others : ℕ → Bool = λ n. not (is_set c.args.less.now n) in
    let all : c.retain.new.self.items ≡ filter others c.args.numbers.now.items = filter_same _ others _ (λ x b f' k. search rules) _ _ c.retain.ensures.filtered in
    subst AreRising (sym all) (rising_filter others c.args.numbers.now.items c.requires.numbers)

pub returns-clause-others : goal.returns-clause-others
returns-clause-others g c = λ i.
    let others : ℕ → Bool = λ n. not (is_set c.args.less.now n) in
    let all : c.retain.new.self.items ≡ filter others c.args.numbers.now.items = filter_same _ others _ (λ x b f' k. search rules) _ _ c.retain.ensures.filtered in
    ap (λ l. has_number l i) all ∙ has_filter others c.args.numbers.now.items i
