-- A fault of a text stands in the text, and so do its items.
use Rattle.std.proofs.Common.{◌≡◌, ℕ, ◌≤◌, ◌<◌, List, [], ◌∷◌, ◌++◌, length, drop, sym, ap, subst, arith}
use Rattle.std.specs.Prelude.{All, Some}
use Rattle.std.proofs.lemmas.List.{length-append, length-drop}
use Rattle.std.proofs.lemmas.List.Elements.{All-head, All-tail, All-nil, All-cons}
use Rattle.pddl_scan.specs.declared.fault.TextFault.{TextFault}
use Rattle.pddl_scan.specs.declared.fault.TextFault.TheVariants.{Memory, TooLong, Stray, Glued, NumberRange, Unopened, TooDeep, Unclosed, AlreadyFailed}
use Rattle.pddl_token.specs.Spelling.{PlacedWord, Spells}
use Rattle.pddl_text.specs.Spans.{IsSlice}
use Rattle.pddl_scan.specs.Faults.{IsLongestNumber}
use Rattle.pddl_scan.specs.Places.{text_place}
use Rattle.pddl_token.specs.Trees.{Placed, placed_leaf, placed_node, PlacedList, no_placed, placed_tree, placed_of}
use Rattle.pddl_items.specs.Items.{span_of}
use Rattle.pddl_text.specs.Lists.{AreItems, none, plain, nested, IsUnopened, IsTooDeep, IsFirstMisplaced}
use Rattle.pddl_text.specs.Texts.{HasItems, TextStands}
use Rattle.pddl_scan.proofs.Numbers.{number_nonempty}
use Rattle.pddl_text.proofs.WordSpans.{are_slices}

-- ---- faults of words

abbrev StartsBy : ℕ → PlacedWord → Type 0
StartsBy n w = w.span.start ≤ n

in_text : (text : List ℕ) (at : ℕ) → 0 < length (drop at text) → at ≤ length text
in_text text at some = omega (arith, some, length-drop at text)

number_there : (number after rest : List ℕ) → IsLongestNumber number after rest → 0 < length rest
number_there number after rest longest =
    omega (arith, number_nonempty number longest.is_number, length-append number after, ap (λ (t : List ℕ). length t) longest.rest_is)

-- ---- words and items

one_of : (P : PlacedWord → Type 0) (before : List PlacedWord) (here : PlacedWord) (after : List PlacedWord) → All P (before ++ here ∷ after) → P here
one_of P [] here after all = All-head P here after all
one_of P (w ∷ before) here after all = one_of P before here after (All-tail P w (before ++ here ∷ after) all)

front : (P : PlacedWord → Type 0) (before after : List PlacedWord) → All P (before ++ after) → All P before
front P [] after all = All-nil P
front P (w ∷ before) after all = All-cons P w before (All-head P w (before ++ after) all) (front P before after (All-tail P w (before ++ after) all))

behind : (P : PlacedWord → Type 0) (before after : List PlacedWord) → All P (before ++ after) → All P after
behind P [] after all = all
behind P (w ∷ before) after all = behind P before after (All-tail P w (before ++ after) all)

-- an item starts at this place at the latest, and so does each item in it
abbrev mutual
  pub StartsIn : ℕ → Placed → Type 0
  StartsIn n (placed_leaf w) = w.span.start ≤ n
  StartsIn n (placed_node span items) = (span.start ≤ n) × AllStartIn n items

  pub AllStartIn : ℕ → PlacedList → Type 0
  AllStartIn n no_placed = Unit {0}
  AllStartIn n (placed_tree item items) = StartsIn n item × AllStartIn n items

items_start : {levels : ℕ} {words : List PlacedWord} {items : List Placed} → AreItems levels words items → (n : ℕ) → All (StartsBy n) words → AllStartIn n (placed_of items)
items_start none n all = tt
items_start (plain {words = words} {items = items} w no_open no_close rest) n all =
    (All-head (StartsBy n) w words all, items_start rest n (All-tail (StartsBy n) w words all))
items_start (nested opening closing inner after children others is_open is_close in_inner in_after words_are items_are) n all =
    let words_start = subst (All (StartsBy n)) words_are all in
    let within = All-tail (StartsBy n) opening (inner ++ closing ∷ after) words_start in
    let later = All-tail (StartsBy n) closing after (behind (StartsBy n) inner (closing ∷ after) within) in
    subst (λ (items : List Placed). AllStartIn n (placed_of items)) (sym items_are)
    ((All-head (StartsBy n) opening (inner ++ closing ∷ after) words_start, items_start in_inner n (front (StartsBy n) inner (closing ∷ after) within)), items_start in_after n later)

each_starts : (words : List PlacedWord) (text : List ℕ) → All (IsSlice text) words → All (StartsBy (length text)) words
each_starts [] text all = All-nil (StartsBy (length text))
each_starts (w ∷ words) text all =
    let here = All-head (IsSlice text) w words all in
    All-cons (StartsBy (length text)) w words (omega (arith, here.nonempty, here.in_range)) (each_starts words text (All-tail (IsSlice text) w words all))

words_start : (words : List PlacedWord) (text : List ℕ) → Spells words text → All (StartsBy (length text)) words
words_start words text spells = each_starts words text (are_slices words text spells)

-- the items of a text start in it
pub items_inside : (text : List ℕ) (items : List Placed) → HasItems text items → AllStartIn (length text) (placed_of items)
items_inside text items has = items_start has.form (length text) (words_start has.words text has.spells)

-- ---- the fault of a text

-- a place in a text
abbrev pub IsInside : List ℕ → ℕ → Type 0
IsInside text at = (at ≤ length text) × (at ≤ 16777216)

misplaced_inside : (Fault : List PlacedWord → PlacedWord → Type 0) (words : List PlacedWord) (text : List ℕ) (at : ℕ) → Spells words text → length text ≤ 16777216 → IsFirstMisplaced Fault words at → IsInside text at
misplaced_inside Fault words text at spells within first =
    let starts = one_of (StartsBy (length text)) first.before first.here first.after (subst (All (StartsBy (length text))) first.words_are (words_start words text spells)) in
    (omega (arith, starts, first.starts_at), omega (arith, starts, first.starts_at, within))

pub text_inside : (fault : TextFault) (text : List ℕ) (at : ℕ) → TextStands fault text → text_place fault ≡ Some at → IsInside text at
text_inside Memory text at stands e = absurd (cc (e))
text_inside TooLong text at stands e = absurd (cc (e))
text_inside AlreadyFailed text at stands e = absurd stands
text_inside (Stray place) text at stands e = subst (IsInside text) (same_place place at e) (let le : place ≤ length text = in_text text place stands.leftmost.fault.some_byte in (le, omega (arith, le, stands.within)))
  where
    same_place : (a b : ℕ) → Some a ≡ Some b → a ≡ b
    same_place a b e = cc (e)
text_inside (Glued place) text at stands e =
    let number = stands.leftmost.fault in
    let le : place ≤ length text = in_text text place (number_there number.number number.after (drop place text) number.longest) in
    let same : place ≡ at = cc (e) in
    subst (IsInside text) same (le, omega (arith, le, stands.within))
text_inside (NumberRange place) text at stands e =
    let number = stands.leftmost.fault in
    let le : place ≤ length text = in_text text place (number_there number.number number.after (drop place text) number.longest) in
    let same : place ≡ at = cc (e) in
    subst (IsInside text) same (le, omega (arith, le, stands.within))
text_inside (Unopened place) text at stands e = let same : place ≡ at = cc (e) in subst (IsInside text) same (misplaced_inside IsUnopened stands.words text place stands.spells stands.within stands.stands)
text_inside (TooDeep place) text at stands e = let same : place ≡ at = cc (e) in subst (IsInside text) same (misplaced_inside IsTooDeep stands.words text place stands.spells stands.within stands.stands)
text_inside (Unclosed place) text at stands e =
    let unclosed = stands.stands in
    let starts = one_of (StartsBy (length text)) unclosed.before unclosed.opening unclosed.after (subst (All (StartsBy (length text))) unclosed.words_are (words_start stands.words text stands.spells)) in
    let same : place ≡ at = cc (e) in
    subst (IsInside text) same (omega (arith, starts, unclosed.starts_at), omega (arith, starts, unclosed.starts_at, stands.within))

pub starts_by : (n : ℕ) (item : Placed) → StartsIn n item → (span_of item).start ≤ n
starts_by n (placed_leaf w) starts = starts
starts_by n (placed_node span items) starts = starts.0

-- what starts in a text, of items behind others
pub rest_of : (n : ℕ) (before after : List Placed) → AllStartIn n (placed_of (before ++ after)) → AllStartIn n (placed_of after)
rest_of n [] after starts = starts
rest_of n (item ∷ before) after starts = rest_of n before after starts.1
