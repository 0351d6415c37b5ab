-- Runs of bytes that pass a test.
use Rattle.std.proofs.Common.{◌≡◌, ℕ, ◌+◌, ◌≤◌, Bool, true, false, List, [], ◌∷◌, ◌++◌, length, take, drop, refl, arith}
use Rattle.std.proofs.Math.Numerals.{one-add}
use Rattle.std.proofs.lemmas.Bool.{cond_both}
use Rattle.std.specs.List.{AllPass, prefix_len}
use Rattle.std.proofs.lemmas.List.Elements.{All-head, All-tail, All-nil, All-cons}
use Rattle.pddl_token.specs.Bytes.{begins}

-- a run that what follows doesn't go on has its own length
pub run_len : (p : ℕ → Bool) (run after : List ℕ) → AllPass p run → begins p after ≡ false → prefix_len p (run ++ after) ≡ length run
run_len p [] [] all stops = refl
run_len p [] (b ∷ after) all stops = rw stops refl
run_len p (b ∷ run) after all stops =
    let passes : p b ≡ true = All-head (λ x. p x ≡ true) b run all in
    let ih = run_len p run after (All-tail (λ x. p x ≡ true) b run all) stops in
    rw passes (omega (arith, ih))

-- a run is no longer than the longest
pub run_le : (p : ℕ → Bool) (run after : List ℕ) → AllPass p run → length run ≤ prefix_len p (run ++ after)
run_le p [] after all = omega arith
run_le p (b ∷ run) after all =
    let passes : p b ≡ true = All-head (λ x. p x ≡ true) b run all in
    let ih = run_le p run after (All-tail (λ x. p x ≡ true) b run all) in
    rw passes (omega (arith, ih))

-- the longest run passes
pub run_passes : (p : ℕ → Bool) (bytes : List ℕ) → AllPass p (take (prefix_len p bytes) bytes)
run_passes p [] = All-nil (λ x. p x ≡ true)
run_passes p (b ∷ bytes) =
    let rest = run_passes p bytes in
    cond_both (p b) (1 + prefix_len p bytes) 0 (λ n. AllPass p (take n (b ∷ bytes)))
    (λ yes. rw one-add (All-cons (λ x. p x ≡ true) b (take (prefix_len p bytes) bytes) yes rest))
    (λ no. All-nil (λ x. p x ≡ true))

-- and what follows doesn't go on
pub run_stops : (p : ℕ → Bool) (bytes : List ℕ) → begins p (drop (prefix_len p bytes) bytes) ≡ false
run_stops p [] = refl
run_stops p (b ∷ bytes) =
    let rest = run_stops p bytes in
    cond_both (p b) (1 + prefix_len p bytes) 0 (λ n. begins p (drop n (b ∷ bytes)) ≡ false)
    (λ yes. rw one-add rest)
    (λ no. no)
