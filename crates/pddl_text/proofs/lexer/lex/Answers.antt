use Rattle.std.proofs.Common.{◌≡◌, ◌<◌, ℕ, List, length, map, subst, arith}
use Rattle.std.proofs.lemmas.List.{map_push}
use Rattle.std.proofs.lemmas.Result.{err_from_is_err_and}
use Rattle.pddl_token.specs.Spelling.{view}
use Rattle.pddl_scan.specs.Faults.{Stands}
use Rattle.pddl_scan.specs.declared.fault.TextFault.{TextFault}
use Rattle.pddl_scan.specs.declared.fault.TextFault.TheVariants.{TooLong}
use Rattle.pddl_scan.proofs.Lexed.{one_spelling}
use Rattle.pddl_text.proofs.WordSpans.{are_slices, are_in_order}
use Rattle.pddl_text.proofs.TextFaults.{no_fault_in_words}
use Rattle.pddl_text.proofs.lexer.lex.Goals as goal

pub loop-tokens-preserved : goal.loop-tokens-preserved
loop-tokens-preserved g c =
    let l = c.loop-tokens in
    let next = rw c.in-Some.is at (c.in_ok-token.ensures.next (map view l.tokens.items) l.invariant.lexed) in
    record { lexed = rw (c.in_ok-push.ensures.items, map_push view l.tokens.items c.in-Some.token) next; short = l.invariant.short }

pub loop-tokens-smaller : goal.loop-tokens-smaller
loop-tokens-smaller g c =
    let l = c.loop-tokens in
    let next = rw c.in-Some.is at (c.in_ok-token.ensures.next (map view l.tokens.items) l.invariant.lexed) in
    let further = rw c.in-Some.is at c.in_ok-token.ensures.further in
    omega (arith, next.in_range, further)

pub returns-in_err-token-clause-fault : goal.returns-in_err-token-clause-fault
returns-in_err-token-clause-fault g c =
    let p = err_from_is_err_and c.from_residual.result c.from_residual.ensures.1 in
    rw (p.1, p.2) (c.in_err-token.ensures.next _ c.loop-tokens.invariant.lexed)

pub returns-in_err-token-clause-only : goal.returns-in_err-token-clause-only
returns-in_err-token-clause-only g c = λ words spelled valued short.
    let p = err_from_is_err_and c.from_residual.result c.from_residual.ensures.1 in
    rw (p.1, p.2) (no_fault_in_words c.args.text.now _ words (c.in_err-token.ensures.next _ c.loop-tokens.invariant.lexed) spelled valued short)

-- a text that is answered as too long is
is_long : (text : List ℕ) (fault : TextFault) → Stands fault text → fault ≡ TooLong → 16777216 < length text
is_long text fault stands e = subst (λ f. Stands f text) e stands

pub returns-in_err-token-clause-too_long : goal.returns-in_err-token-clause-too_long
returns-in_err-token-clause-too_long g c =
    let p = err_from_is_err_and c.from_residual.result c.from_residual.ensures.1 in
    let stands = c.in_err-token.ensures.next _ c.loop-tokens.invariant.lexed in
    rw (p.1, p.2) (λ e. is_long c.args.text.now _ stands (cc e), λ lt. absurd (omega (arith, lt, c.loop-tokens.invariant.short)))

pub returns-clause-only : goal.returns-clause-only
returns-clause-only g c = λ words spelled valued short.
    one_spelling _ words c.args.text.now (rw c.in_default.is at (c.in_ok-token.ensures.next _ c.loop-tokens.invariant.lexed)) spelled

pub returns-clause-slices : goal.returns-clause-slices
returns-clause-slices g c = are_slices _ c.args.text.now (rw c.in_default.is at (c.in_ok-token.ensures.next _ c.loop-tokens.invariant.lexed))

pub returns-clause-in_order : goal.returns-clause-in_order
returns-clause-in_order g c = are_in_order _ c.args.text.now (rw c.in_default.is at (c.in_ok-token.ensures.next _ c.loop-tokens.invariant.lexed))
