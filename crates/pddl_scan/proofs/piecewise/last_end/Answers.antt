use Rattle.std.proofs.Common.{arith, subst, sym, ◌≡◌, ◌<◌, ℕ, List, length, drop, ◌-◌, ◌≤◌, get_or, true, ◌∙◌}
use Rattle.std.specs.List.{AllPass}
use Rattle.pddl_token.specs.Bytes.{is_inner_byte}
use Rattle.pddl_scan.proofs.Ended.{held_more}
use Rattle.pddl_scan.proofs.piecewise.last_end.Goals as goal

one_back : (n : ℕ) (text : List ℕ) → 0 < n → n ≤ length text → is_inner_byte (get_or text (n - 1) 0) ≡ true → AllPass is_inner_byte (drop n text) → AllPass is_inner_byte (drop (n - 1) text)
one_back n text some le passes all = held_more (n - 1) text (omega (arith, some, le)) passes (subst (λ (k : ℕ). AllPass is_inner_byte (drop k text)) (omega (arith, some)) all)

pub loop-len-preserved : goal.loop-len-preserved
loop-len-preserved c = record {
  in_range = omega (arith, c.loop-len.invariant.in_range);
  held = one_back c.loop-len.len c.args.text.now c.loop-len-test.true c.loop-len.invariant.in_range (sym c.is_inner_byte.ensures ∙ c.if-is_inner_byte.true) c.loop-len.invariant.held;
}
