use Rattle.std.proofs.Common.{rules, ◌≡◌, ◌<◌, ◌≤◌, ℕ, true, false, length, get_or, sym}
use Rattle.std.proofs.lemmas.Bool.{true≢false}
use Rattle.pddl_serial.specs.Inner.Places.{IsOrderBy}
use Rattle.pddl_serial.proofs.Passes.{too_large, seen_before, too_late, never_seen, all_seen}
use Rattle.pddl_serial.proofs.listing.passes.Goals.{then-k-places-via-then-k-places, then-k-places-via-else-k-places+then-seen-k, then-k-places-via-else-k-places+else-seen-k+then-places-k}
use Rattle.pddl_serial.proofs.listing.passes.Goals as goal

pub returns-then-k-places : goal.returns-then-k-places
returns-then-k-places c =
    let place : ℕ → ℕ = λ k. get_or c.args.places.now k 0 in
    let n : ℕ = length c.args.places.now in
    let order = c.args.order.now in
    let i = c.loop-step.step-index in
    let off : IsOrderBy place n order → ⊥ = elim c.then-k-places.branch [
      | then-k-places-via-then-k-places w ↦ too_large place n c.args.seen.now c.requires.none_seen c.requires.length_is order i c.loop-step.seen c.loop-step.last c.loop-step.invariant c.loop-step-test.true w.if-k-places.true
      | then-k-places-via-else-k-places+then-seen-k w ↦ seen_before place n c.args.seen.now c.requires.none_seen c.requires.length_is order i c.loop-step.seen c.loop-step.last c.loop-step.invariant c.loop-step-test.true (search rules)
      | then-k-places-via-else-k-places+else-seen-k+then-places-k w ↦ too_late place n c.args.seen.now c.requires.none_seen c.requires.length_is order i c.loop-step.seen c.loop-step.last c.loop-step.invariant c.loop-step-test.true w.if-places-k.true
    ] in
    (λ h. absurd (true≢false (sym h)), λ o. absurd (off o))

pub returns-then-not-known : goal.returns-then-not-known
returns-then-not-known c =
    let place : ℕ → ℕ = λ k. get_or c.args.places.now k 0 in
    let n : ℕ = length c.args.places.now in
    let order = c.args.order.now in
    let i = c.loop-step.step-index in
    let unseen : get_or c.loop-step.seen c.loop-known.known-index false ≡ false = search rules in
    let lt : c.loop-known.known-index < n = search rules in
    let done : length order ≤ i = search rules in
    let off : IsOrderBy place n order → ⊥ = never_seen place n c.args.seen.now c.requires.none_seen c.requires.length_is order i c.loop-step.seen c.loop-step.last c.loop-step.invariant done c.loop-known.known-index lt unseen in
    (λ h. absurd (true≢false (sym h)), λ o. absurd (off o))

pub returns : goal.returns
returns c =
    let place : ℕ → ℕ = λ k. get_or c.args.places.now k 0 in
    let n : ℕ = length c.args.places.now in
    let order = c.args.order.now in
    let i = c.loop-step.step-index in
    let done : length order ≤ i = search rules in
    let all : (k : ℕ) → k < n → get_or c.loop-step.seen k false ≡ true = search rules in
    let is : IsOrderBy place n order = all_seen place n c.args.seen.now c.requires.none_seen c.requires.length_is order i c.loop-step.seen c.loop-step.last c.loop-step.invariant done all in
    (λ _. is, λ _. search rules)
