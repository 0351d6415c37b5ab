-- Rows of the bits of numbers that spans begin at and hold: set in turn, and what they say of others.
use Rattle.std.proofs.Common.{◌≡◌, ◌↔◌, ℕ, ◌==◌, ◌&&◌, Bool, true, List, get_or, ltb, refl, sym, ap, ◌∙◌, eq-eqb, eqb-true, IsTrue}
use Rattle.std.proofs.lemmas.List.Folds.{list_any_at, Any-from_list_any}
use Rattle.std.proofs.lemmas.List.Sums.{AllPass-from_list_all, list_all-from_AllPass}
use Rattle.pddl_bit_rows.specs.BitRows.{has_bit}
use Rattle.pddl_forest.specs.Spans.{holds, some_holds, hold_all}
use Rattle.pddl_forest.specs.declared.spans.Span.{Span}
use Rattle.pddl_task.proofs.Numbers.{both_ways}
use Rattle.pddl_types.specs.TopRows.{AreRowsOf}

-- the numbers of a span that are below another
abbrev pub below : Span → ℕ → ℕ → Bool
below s n i = holds s i && ltb i n

-- all numbers are held that others begin at
pub all_held : {begun row others others_held : List ℕ} {outer inner : List Span} → AreRowsOf begun row outer → AreRowsOf others others_held inner
    → (all : Bool) → (IsTrue all ↔ ((i : ℕ) → has_bit others i ≡ true → has_bit row i ≡ true)) → all ≡ hold_all outer inner
all_held {outer} {inner} rows of_others all is =
    both_ways all (hold_all outer inner)
    (λ yes. list_all-from_AllPass (λ s. some_holds outer s.first) inner (λ k d low.
    let n = (get_or inner k d).first in
    sym (rows.hold n) ∙ is.0 yes n (of_others.begin n ∙ list_any_at (λ s. s.first == n) inner k d low (eq-eqb n n refl))))
    (λ each. is.1 (λ n begun.
    let (k, s, low, at, on) = Any-from_list_any (λ s. s.first == n) inner (sym (of_others.begin n) ∙ begun) in
    rows.hold n ∙ ap (some_holds outer) (sym (eqb-true s.first n on)) ∙ ap (λ (t : Span). some_holds outer t.first) (sym at)
    ∙ AllPass-from_list_all (λ s. some_holds outer s.first) inner each k s low))
