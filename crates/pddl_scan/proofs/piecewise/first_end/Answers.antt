use Rattle.std.proofs.Common.{arith, subst, sym, ◌≡◌, ◌<◌, ℕ, List, length, take, ◌+◌, ◌≤◌}
use Rattle.std.specs.List.{AllPass, prefix_len}
use Rattle.std.proofs.lemmas.List.{take_all}
use Rattle.pddl_token.proofs.Runs.{run_passes}
use Rattle.std.proofs.lemmas.List.Sums.{prefix_len_stops}
use Rattle.pddl_token.specs.Bytes.{is_inner_byte}
use Rattle.pddl_scan.specs.Inner.Parts.{IsEnded}
use Rattle.pddl_scan.proofs.Ended.{ended_at}
use Rattle.pddl_scan.proofs.piecewise.first_end.Goals as goal

through_first : (n : ℕ) (text : List ℕ) → n ≡ prefix_len is_inner_byte text → n < length text → (n + 1 ≤ length text) × IsEnded (take (n + 1) text)
through_first n text n_is lt =
    let k : ℕ = prefix_len is_inner_byte text in
    (omega (arith, lt), subst (λ (m : ℕ). IsEnded (take (m + 1) text)) (sym n_is) (ended_at k text (omega (arith, lt, n_is)) (prefix_len_stops is_inner_byte text 0 (omega (arith, lt, n_is)))))

pub returns-then-len-text : goal.returns-then-len-text
returns-then-len-text c = through_first _ c.args.text.now c.inner_len-len.ensures.value c.if-len-text.true

none_ends : (n : ℕ) (text : List ℕ) → n ≡ prefix_len is_inner_byte text → length text ≤ n → AllPass is_inner_byte text
none_ends n text n_is le = subst (AllPass is_inner_byte) (take_all (prefix_len is_inner_byte text) text (omega (arith, le, n_is))) (run_passes is_inner_byte text)

pub returns-else-len-text : goal.returns-else-len-text
returns-else-len-text c = none_ends _ c.args.text.now c.inner_len-len.ensures.value c.if-len-text.false
