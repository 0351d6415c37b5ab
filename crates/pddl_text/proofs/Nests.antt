-- Reading words with a stack, against the items that they form.
use Rattle.std.proofs.Common.{◌≡◌, ℕ, zero, suc, ◌+◌, ◌-◌, ◌≤◌, ◌<◌, true, false, ltb, List, [], ◌∷◌, ◌++◌, length, refl, sym, ap, subst, ◌∙◌, arith, inl, inr}
use Rattle.std.specs.Prelude.{◌⊎◌, ◌≢◌, Option, Some, None, Result, Ok, Err, IfOk, IfErr, MatchResult}
use Rattle.std.proofs.lemmas.Bool.{cond_both, cases_lt, ltb-true}
use Rattle.std.proofs.lemmas.Bool.Decides.{nat_tests}
use Rattle.std.proofs.lemmas.List.{append_assoc, append-nil, length-append}
use Rattle.pddl_token.specs.declared.token.TokenKind.{TokenKind}
use Rattle.pddl_token.specs.declared.token.TokenKind.TheVariants.{Open, Close}
use Rattle.pddl_token.specs.Spelling.{PlacedWord}
use Rattle.pddl_token.specs.Trees.{Placed, placed_leaf, placed_node, placed_of}
use Rattle.pddl_text.specs.Lists.{span_over, AreItems, none, plain, nested, LeaveOpen, none_open, one_more, IsUnopened, IsTooDeep, IsMisplaced, IsFirstMisplaced, IsUnclosed, ListStands}
use Rattle.pddl_scan.specs.declared.fault.TextFault.{TextFault}
use Rattle.pddl_scan.specs.declared.fault.TextFault.TheVariants as faults
use Rattle.pddl_text.specs.Inner.Nesting.{Opened, Nest, empty, closed, next_by, next_nest, IsRefused, IsLeftOpen}

-- ---- a run over words

-- one step after another, if none stops
abbrev pub then : Option Nest → (Nest → Option Nest) → Option Nest
then None on = None
then (Some nest) on = on nest

-- read the words one after the other
abbrev pub run : List PlacedWord → Nest → Option Nest
run [] nest = Some nest
run (w ∷ words) nest = then (next_nest w nest) (λ after. run words after)

-- steps join
then_then : (o : Option Nest) (f g : Nest → Option Nest) → then (then o f) g ≡ then o (λ nest. then (f nest) g)
then_then None f g = refl
then_then (Some nest) f g = refl

-- reading joined words is reading one after the other
pub run_append : (words more : List PlacedWord) (nest : Nest) → run (words ++ more) nest ≡ then (run words nest) (λ after. run more after)
run_append [] more nest = refl
run_append (w ∷ words) more nest = by_next (next_nest w nest) (λ after. run_append words more after)
  where
    by_next : (o : Option Nest) → ((after : Nest) → run (words ++ more) after ≡ then (run words after) (λ nest. run more nest)) → then o (λ after. run (words ++ more) after) ≡ then (then o (λ after. run words after)) (λ after. run more after)
    by_next None on = refl
    by_next (Some after) on = on after

-- ---- one word

-- an opening opens a list where there is room
pub opens : (w : PlacedWord) (nest : Nest) → w.kind ≡ Open → length nest.opened < 128 → next_nest w nest ≡ Some (record { opened = record { items = nest.items; start = w.span.start } ∷ nest.opened; items = [] })
opens w nest is_open room =
    let test : ltb (length nest.opened) 128 ≡ true = grind (arith, nat_tests, room) in
    rw (is_open, test) refl

-- an opening stops where there is none
pub stops_deep : (w : PlacedWord) (nest : Nest) → w.kind ≡ Open → 128 ≤ length nest.opened → next_nest w nest ≡ None
stops_deep w nest is_open full =
    let test : ltb (length nest.opened) 128 ≡ false = grind (arith, nat_tests, full) in
    rw (is_open, test) refl

-- the nest with more items
abbrev added : Nest → List Placed → Nest
added nest items = record { opened = nest.opened; items = nest.items ++ items }

-- a plain word is one more item
keeps_by : (kind : TokenKind) (w : PlacedWord) (nest : Nest) → kind ≢ Open → kind ≢ Close → next_by kind w nest ≡ Some (added nest (placed_leaf w ∷ []))
keeps_by Open w nest no_open no_close = absurd (no_open refl)
keeps_by Close w nest no_open no_close = absurd (no_close refl)
keeps_by _ w nest no_open no_close = refl

-- ---- items, read

-- the same nest, or a stop for want of room
abbrev Reaches : Type 0 → Option Nest → Option Nest → Type 0
Reaches P a b = (a ≡ b) ⊎ ((a ≡ None) × P)

-- the same nest
one_step : (a b : Option Nest) → a ≡ b → Reaches ⊥ a b
one_step a b e = inl e

-- two runs join
reach_then : {P Q : Type 0} (a b c : Option Nest) → Reaches P a b → (P → Q) → Reaches Q b c → Reaches Q a c
reach_then a b c (inl e) f (inl d) = inl (e ∙ d)
reach_then a b c (inl e) f (inr d) = inr (e ∙ d.0, d.1)
reach_then a b c (inr e) f d = inr (e.0, f e.1)

-- a run over a list and what follows it
nested_reads : (levels : ℕ) (opening closing : PlacedWord) (inner after more : List PlacedWord) (children others : List Placed) (nest : Nest) → opening.kind ≡ Open → closing.kind ≡ Close
    → ((rest : List PlacedWord) (at : Nest) → Reaches (128 < length at.opened + levels) (run (inner ++ rest) at) (run rest (added at children)))
    → ((rest : List PlacedWord) (at : Nest) → Reaches (128 < length at.opened + suc levels) (run (after ++ rest) at) (run rest (added at others)))
    → Reaches (128 < length nest.opened + suc levels) (run (opening ∷ ((inner ++ closing ∷ after) ++ more)) nest) (run more (added nest (placed_node (span_over opening closing) (placed_of children) ∷ others)))
nested_reads levels opening closing inner after more children others nest is_open is_close read_inner read_after =
    elim (cases_lt (length nest.opened) 128) [
      | inr full ↦ inr (ap (λ o. then o (λ at. run ((inner ++ closing ∷ after) ++ more) at)) (stops_deep opening nest is_open full), omega (arith, full))
      | inl room ↦
          let within : Nest = record { opened = record { items = nest.items; start = opening.span.start } ∷ nest.opened; items = [] } in
          let whole : Placed = placed_node (span_over opening closing) (placed_of children) in
          let beyond : Nest = record { opened = nest.opened; items = nest.items ++ whole ∷ [] } in
          let enter : run (opening ∷ ((inner ++ closing ∷ after) ++ more)) nest ≡ run (inner ++ (closing ∷ (after ++ more))) within =
          ap (λ o. then o (λ at. run ((inner ++ closing ∷ after) ++ more) at)) (opens opening nest is_open room) ∙ ap (λ (t : List PlacedWord). run t within) (append_assoc inner (closing ∷ after) more) in
          let leave : run (closing ∷ (after ++ more)) (added within children) ≡ run (after ++ more) beyond = ap (λ kind. then (next_by kind closing (added within children)) (λ at. run (after ++ more) at)) is_close in
          let last : run more (added beyond others) ≡ run more (added nest (whole ∷ others)) = ap (λ (t : List Placed). run more (record { opened = nest.opened; items = t })) (append_assoc nest.items (whole ∷ []) others) in
          reach_then _ _ _ (one_step _ _ enter) (λ no_case. absurd no_case)
          (reach_then _ _ _ (read_inner (closing ∷ (after ++ more)) within) (λ deep. omega (arith, deep))
          (reach_then _ _ _ (one_step _ _ leave) (λ no_case. absurd no_case)
          (reach_then _ _ _ (read_after more beyond) (λ deep. deep) (inl last))))
    ]

-- a run over items adds these items, or stops for want of room
reads : {levels : ℕ} {words : List PlacedWord} {items : List Placed} → AreItems levels words items → (more : List PlacedWord) (nest : Nest)
    → Reaches (128 < length nest.opened + levels) (run (words ++ more) nest) (run more (added nest items))
reads none more nest = inl (ap (λ (t : List Placed). run more (record { opened = nest.opened; items = t })) (sym (append-nil nest.items)))
reads (plain {words = words} {items = items} w no_open no_close rest) more nest =
    reach_then _ _ _ (one_step _ _ (ap (λ o. then o (λ at. run (words ++ more) at)) (keeps_by w.kind w nest no_open no_close))) (λ no_case. absurd no_case)
    (reach_then _ _ _ (reads rest more (added nest (placed_leaf w ∷ []))) (λ deep. deep)
    (inl (ap (λ (t : List Placed). run more (record { opened = nest.opened; items = t })) (append_assoc nest.items (placed_leaf w ∷ []) items))))
reads (nested {levels = levels} opening closing inner after children others is_open is_close in_inner in_after words_are items_are) more nest =
    rw (words_are, items_are) (nested_reads levels opening closing inner after more children others nest is_open is_close (λ rest at. reads in_inner rest at) (λ rest at. reads in_after rest at))

-- items that stand no deeper than the nest has room for
fits_run : {levels : ℕ} {words : List PlacedWord} {items : List Placed} → AreItems levels words items → (nest : Nest) → length nest.opened + levels ≤ 128 → run words nest ≡ Some (added nest items)
fits_run {words = words} form nest room = elim (reads form [] nest) [
  | inl e ↦ ap (λ (t : List PlacedWord). run t nest) (sym (append-nil words)) ∙ e
  | inr e ↦ absurd (omega (arith, e.1, room))
]

-- a run over items from nothing gives these items
pub whole_run : {words : List PlacedWord} {items : List Placed} → AreItems 128 words items → run words empty ≡ Some (record { opened = []; items = items })
whole_run form = fits_run form empty (omega arith)

-- the items of a run
abbrev items_in : Option Nest → List Placed
items_in None = []
items_in (Some nest) = nest.items

-- the open lists of a run
abbrev opened_in : Option Nest → List Opened
opened_in None = []
opened_in (Some nest) = nest.opened

-- two lists of items of the same words are one
pub one_nesting : (words : List PlacedWord) (items others : List Placed) → AreItems 128 words items → AreItems 128 words others → items ≡ others
one_nesting words items others p q = ap items_in (sym (whole_run p) ∙ whole_run q)

-- ---- what the stack says of the words read

-- items join
pub items_append : {levels : ℕ} {words : List PlacedWord} {items : List Placed} → AreItems levels words items → (more : List PlacedWord) (others : List Placed) → AreItems levels more others → AreItems levels (words ++ more) (items ++ others)
items_append none more others then_more = then_more
items_append (plain w no_open no_close rest) more others then_more = plain w no_open no_close (items_append rest more others then_more)
items_append (nested opening closing inner after children siblings is_open is_close in_inner in_after words_are items_are) more others then_more =
    nested opening closing inner (after ++ more) children (siblings ++ others) is_open is_close in_inner (items_append in_after more others then_more)
    (ap (λ (t : List PlacedWord). t ++ more) words_are ∙ ap (λ (t : List PlacedWord). opening ∷ t) (append_assoc inner (closing ∷ after) more))
    (ap (λ (t : List Placed). t ++ others) items_are)

-- items within some levels are within more
pub deeper : {levels : ℕ} {words : List PlacedWord} {items : List Placed} → AreItems levels words items → (n : ℕ) → levels ≤ n → AreItems n words items
deeper none n le = none
deeper (plain w no_open no_close rest) n le = plain w no_open no_close (deeper rest n le)
deeper (nested opening closing inner after children siblings is_open is_close in_inner in_after words_are items_are) zero le = absurd (omega (arith, le))
deeper (nested opening closing inner after children siblings is_open is_close in_inner in_after words_are items_are) (suc n) le =
    nested opening closing inner after children siblings is_open is_close (deeper in_inner n (omega (arith, le))) (deeper in_after (suc n) le) words_are items_are

-- the words before each opening of the stack, and the items behind it
abbrev pub Leaves : List Opened → List Placed → List PlacedWord → Type 0
Leaves [] items words = AreItems 128 words items
Leaves (list ∷ opened) items words = (before : List PlacedWord) × (opening : PlacedWord) × (inner : List PlacedWord)
    × Leaves opened list.items before × (opening.kind ≡ Open) × (opening.span.start ≡ list.start) × AreItems (128 - suc (length opened)) inner items × (words ≡ before ++ opening ∷ inner)

-- more items behind the innermost opening
leaves_more : (opened : List Opened) (items : List Placed) (words : List PlacedWord) (more : List PlacedWord) (others : List Placed) → Leaves opened items words → AreItems (128 - length opened) more others
    → Leaves opened (items ++ others) (words ++ more)
leaves_more [] items words more others leaves then_more = items_append leaves more others then_more
leaves_more (list ∷ opened) items words more others (before, opening, inner, outer, is_open, starts, in_inner, words_are) then_more =
    (before, opening, inner ++ more, outer, is_open, starts, items_append in_inner more others then_more, ap (λ (t : List PlacedWord). t ++ more) words_are ∙ append_assoc before (opening ∷ inner) more)

-- the stack counts the openings without a partner
leave_open : (opened : List Opened) (items : List Placed) (words : List PlacedWord) → Leaves opened items words → LeaveOpen (length opened) words
leave_open [] items words leaves = none_open (items, leaves)
leave_open (list ∷ opened) items words (before, opening, inner, outer, is_open, starts, in_inner, words_are) =
    one_more before opening inner (leave_open opened list.items before outer) is_open (items, deeper in_inner 128 (omega arith)) words_are

-- the words leave this nest
pub record IsNestOf (words : List PlacedWord) (nest : Nest) : Type 0 where
  pub in_range : length nest.opened ≤ 128
  pub leaves : Leaves nest.opened nest.items words

-- a fact on the nest, if there is one
abbrev IfSome : Option Nest → (Nest → Type 0) → Type 0
IfSome None P = Unit {0}
IfSome (Some nest) P = P nest

-- behind an opening
open_on : (words : List PlacedWord) (nest : Nest) (w : PlacedWord) → w.kind ≡ Open → IsNestOf words nest → IfSome (next_by Open w nest) (λ after. IsNestOf (words ++ w ∷ []) after)
open_on words nest w is_open is_nest =
    cond_both (ltb (length nest.opened) 128) (Some (record { opened = record { items = nest.items; start = w.span.start } ∷ nest.opened; items = [] })) None (λ o. IfSome o (λ after. IsNestOf (words ++ w ∷ []) after))
    (λ room. record { in_range = omega (arith, ltb-true _ _ room); leaves = (words, w, [], is_nest.leaves, is_open, refl, none, refl) })
    (λ full. tt)

-- behind a closing
close_on : (words : List PlacedWord) (opened : List Opened) (items : List Placed) (w : PlacedWord) → w.kind ≡ Close → length opened ≤ 128 → Leaves opened items words
    → IfSome (closed opened items w) (λ after. IsNestOf (words ++ w ∷ []) after)
close_on words [] items w is_close in_range leaves = tt
close_on words (list ∷ opened) items w is_close in_range (before, opening, inner, outer, is_open, starts, in_inner, words_are) =
    let whole : Placed = placed_node (record { start = list.start; end = w.span.end }) (placed_of items) in
    let form : AreItems (128 - length opened) (opening ∷ (inner ++ w ∷ [])) (whole ∷ []) =
    subst (λ n. AreItems n (opening ∷ (inner ++ w ∷ [])) (whole ∷ [])) (omega (arith, in_range))
    (nested {levels = 128 - suc (length opened)} opening w inner [] items [] is_open is_close in_inner none refl (ap (λ (n : ℕ). placed_node (record { start = n; end = w.span.end }) (placed_of items) ∷ []) (sym starts))) in
    record {
      in_range = omega (arith, in_range);
      leaves = rw (words_are, append_assoc before (opening ∷ inner) (w ∷ [])) (leaves_more opened list.items before (opening ∷ (inner ++ w ∷ [])) (whole ∷ []) outer form);
    }

-- behind a plain word
keep_on : (words : List PlacedWord) (nest : Nest) (w : PlacedWord) → w.kind ≢ Open → w.kind ≢ Close → IsNestOf words nest → IsNestOf (words ++ w ∷ []) (added nest (placed_leaf w ∷ []))
keep_on words nest w no_open no_close is_nest = record { in_range = is_nest.in_range; leaves = leaves_more nest.opened nest.items words (w ∷ []) (placed_leaf w ∷ []) is_nest.leaves (plain w no_open no_close none) }

-- behind any word
word_on : (kind : TokenKind) (words : List PlacedWord) (nest : Nest) (w : PlacedWord) → w.kind ≡ kind → IsNestOf words nest → IfSome (next_by kind w nest) (λ after. IsNestOf (words ++ w ∷ []) after)
word_on Open words nest w is_kind is_nest = open_on words nest w is_kind is_nest
word_on Close words nest w is_kind is_nest = close_on words nest.opened nest.items w is_kind is_nest.in_range is_nest.leaves
word_on _ words nest w is_kind is_nest = keep_on words nest w (λ e. absurd (cc (e, is_kind))) (λ e. absurd (cc (e, is_kind))) is_nest

-- ---- the loop

-- the words were read, and left this nest
pub record StandsAt (words : List PlacedWord) (nest : Nest) : Type 0 where
  pub run_is : run words empty ≡ Some nest
  pub is_nest : IsNestOf words nest

-- before the first word
pub nothing_read : StandsAt [] empty
nothing_read = record { run_is = refl; is_nest = record { in_range = omega arith; leaves = none } }

-- behind one word more
pub stands_on : (words : List PlacedWord) (nest after : Nest) (w : PlacedWord) → StandsAt words nest → next_nest w nest ≡ Some after → StandsAt (words ++ w ∷ []) after
stands_on words nest after w stands next = record {
  run_is = run_append words (w ∷ []) empty ∙ ap (λ o. then o (λ at. run (w ∷ []) at)) stands.run_is ∙ ap (λ o. then o (λ at. Some at)) next;
  is_nest = subst (λ o. IfSome o (λ at. IsNestOf (words ++ w ∷ []) at)) next (word_on w.kind words nest w refl stands.is_nest);
}

-- ---- misplaced words stop a run

-- a run over words that leave lists open, or one that stopped
opens_run : {opened : ℕ} {words : List PlacedWord} → LeaveOpen opened words → (more : List PlacedWord)
    → ((nest : Nest) × (length nest.opened ≡ opened) × (run (words ++ more) empty ≡ run more nest)) ⊎ (run (words ++ more) empty ≡ None)
opens_run (none_open form) more = elim (reads form.1 more empty) [
  | inl e ↦ inl (record { opened = []; items = form.0 }, refl, e)
  | inr e ↦ inr e.0
]
opens_run (one_more {opened = opened} before opening inner outer is_open form words_are) more =
    rw words_are (by_outer (opens_run outer (opening ∷ (inner ++ more))))
  where
    regroup : (before ++ opening ∷ inner) ++ more ≡ before ++ (opening ∷ (inner ++ more))
    regroup = append_assoc before (opening ∷ inner) more

    by_outer : ((nest : Nest) × (length nest.opened ≡ opened) × (run (before ++ (opening ∷ (inner ++ more))) empty ≡ run (opening ∷ (inner ++ more)) nest)) ⊎ (run (before ++ (opening ∷ (inner ++ more))) empty ≡ None)
        → ((nest : Nest) × (length nest.opened ≡ suc opened) × (run ((before ++ opening ∷ inner) ++ more) empty ≡ run more nest)) ⊎ (run ((before ++ opening ∷ inner) ++ more) empty ≡ None)
    by_outer (inr e) = inr (ap (λ (t : List PlacedWord). run t empty) regroup ∙ e)
    by_outer (inl (nest, depth, e)) = elim (cases_lt (length nest.opened) 128) [
      | inr full ↦ inr (ap (λ (t : List PlacedWord). run t empty) regroup ∙ e ∙ ap (λ o. then o (λ at. run (inner ++ more) at)) (stops_deep opening nest is_open full))
      | inl room ↦
          let within : Nest = record { opened = record { items = nest.items; start = opening.span.start } ∷ nest.opened; items = [] } in
          let entered : run ((before ++ opening ∷ inner) ++ more) empty ≡ run (inner ++ more) within = ap (λ (t : List PlacedWord). run t empty) regroup ∙ e ∙ ap (λ o. then o (λ at. run (inner ++ more) at)) (opens opening nest is_open room) in
          elim (reads form.1 more within) [
            | inl d ↦ inl (added within form.0, omega (arith, depth), entered ∙ d)
            | inr d ↦ inr (entered ∙ d.0)
          ]
    ]

-- a misplaced word stops each run over it
pub misplaced_stops : (front : List PlacedWord) (other : PlacedWord) → IsMisplaced front other → (back : List PlacedWord) → run (front ++ other ∷ back) empty ≡ None
misplaced_stops front other (inl unopened) back = elim (reads unopened.1.1 (other ∷ back) empty) [
  | inl e ↦ e ∙ ap (λ kind. then (next_by kind other (record { opened = []; items = unopened.1.0 })) (λ at. run back at)) unopened.0
  | inr e ↦ e.0
]
misplaced_stops front other (inr deep) back = elim (opens_run deep.1 (other ∷ back)) [
  | inl (nest, depth, e) ↦ e ∙ ap (λ o. then o (λ at. run back at)) (stops_deep other nest deep.0 (omega (arith, depth)))
  | inr e ↦ e
]

-- of two fronts of one list the shorter begins the longer
pub prefix_of : (a b c d : List PlacedWord) → a ++ b ≡ c ++ d → length a ≤ length c → (e : List PlacedWord) × (c ≡ a ++ e)
prefix_of [] b c d same le = (c, refl)
prefix_of (x ∷ a) b [] d same le = absurd (omega (arith, le))
prefix_of (x ∷ a) b (y ∷ c) d same le =
    let tail : a ++ b ≡ c ++ d = cc in
    let on = prefix_of a b c d tail (omega (arith, le)) in
    let head : y ≡ x = cc in
    (on.0, ap (λ (v : PlacedWord). v ∷ c) head ∙ ap (λ (t : List PlacedWord). x ∷ t) on.1)

-- words that were read have no misplaced word among them
pub none_before : (before rest words front : List PlacedWord) (nest : Nest) (other : PlacedWord) (back : List PlacedWord) → run before empty ≡ Some nest → words ≡ before ++ rest → words ≡ front ++ other ∷ back → IsMisplaced front other
    → length front < length before → ⊥
none_before before rest words front nest other back run_is words_are split misplaced lt =
    let regroup : (front ++ other ∷ []) ++ back ≡ front ++ other ∷ back = append_assoc front (other ∷ []) back in
    let found = prefix_of (front ++ other ∷ []) back before rest (regroup ∙ sym split ∙ words_are) (omega (arith, length-append front (other ∷ []), lt)) in
    let stopped : run before empty ≡ None = ap (λ (t : List PlacedWord). run t empty) (found.1 ∙ append_assoc front (other ∷ []) found.0) ∙ misplaced_stops front other misplaced found.0 in
    absurd (cc (stopped, run_is))

-- a misplaced word behind words that were read is the first
first_misplaced : (Fault : List PlacedWord → PlacedWord → Type 0) (before : List PlacedWord) (w : PlacedWord) (after : List PlacedWord) (words : List PlacedWord) (nest : Nest) (at : ℕ)
    → StandsAt before nest → words ≡ before ++ w ∷ after → w.span.start ≡ at → Fault before w → IsFirstMisplaced Fault words at
first_misplaced Fault before w after words nest at stands words_are starts fault = record {
  before = before;
  here = w;
  after = after;
  words_are = words_are;
  starts_at = starts;
  fault = fault;
  first = λ front other back split misplaced. elim (cases_lt (length front) (length before)) [
    | inl lt ↦ absurd (none_before before (w ∷ after) words front nest other back stands.run_is words_are split misplaced lt)
    | inr le ↦ le
  ];
}

-- a closing with no open list is unopened
pub unopened_here : (before : List PlacedWord) (w : PlacedWord) (nest : Nest) → StandsAt before nest → w.kind ≡ Close → nest.opened ≡ [] → IsUnopened before w
unopened_here before w nest stands is_close is_empty = (is_close, (nest.items, subst (λ (o : List Opened). Leaves o nest.items before) is_empty stands.is_nest.leaves))

-- an opening with no room left is too deep
pub too_deep_here : (before : List PlacedWord) (w : PlacedWord) (nest : Nest) → StandsAt before nest → w.kind ≡ Open → 128 ≤ length nest.opened → IsTooDeep before w
too_deep_here before w nest stands is_open full = (is_open, subst (λ (n : ℕ). LeaveOpen n before) (omega (arith, full, stands.is_nest.in_range)) (leave_open nest.opened nest.items before stands.is_nest.leaves))

-- what a refused word answers stands in the words
pub refused_stands : (fault : TextFault) (before : List PlacedWord) (w : PlacedWord) (after : List PlacedWord) (words : List PlacedWord) (nest : Nest)
    → StandsAt before nest → words ≡ before ++ w ∷ after → IsRefused fault w nest → ListStands fault words
refused_stands faults.Memory before w after words nest stands words_are refused = tt
refused_stands (faults.Unopened at) before w after words nest stands words_are (is_close, is_empty, starts) = first_misplaced IsUnopened before w after words nest at stands words_are starts (unopened_here before w nest stands is_close is_empty)
refused_stands (faults.TooDeep at) before w after words nest stands words_are (is_open, full, starts) = first_misplaced IsTooDeep before w after words nest at stands words_are starts (too_deep_here before w nest stands is_open full)
refused_stands (faults.Unclosed at) before w after words nest stands words_are refused = absurd refused
refused_stands faults.TooLong before w after words nest stands words_are refused = absurd refused
refused_stands (faults.Stray at) before w after words nest stands words_are refused = absurd refused
refused_stands (faults.Glued at) before w after words nest stands words_are refused = absurd refused
refused_stands (faults.NumberRange at) before w after words nest stands words_are refused = absurd refused
refused_stands faults.AlreadyFailed before w after words nest stands words_are refused = absurd refused

-- words with a misplaced one form no items
pub no_items : (before : List PlacedWord) (w : PlacedWord) (after : List PlacedWord) (words : List PlacedWord) (items : List Placed) → words ≡ before ++ w ∷ after → IsMisplaced before w → AreItems 128 words items → ⊥
no_items before w after words items words_are misplaced form =
    let stopped : run words empty ≡ None = ap (λ (t : List PlacedWord). run t empty) words_are ∙ misplaced_stops before w misplaced after in
    absurd (cc (stopped, whole_run form))

-- words that form items are refused for want of memory alone
pub refused_only : (fault : TextFault) (before : List PlacedWord) (w : PlacedWord) (after : List PlacedWord) (words : List PlacedWord) (nest : Nest) (items : List Placed)
    → StandsAt before nest → words ≡ before ++ w ∷ after → IsRefused fault w nest → AreItems 128 words items → fault ≡ faults.Memory
refused_only faults.Memory before w after words nest items stands words_are refused form = refl
refused_only (faults.Unopened at) before w after words nest items stands words_are (is_close, is_empty, starts) form = absurd (no_items before w after words items words_are (inl (unopened_here before w nest stands is_close is_empty)) form)
refused_only (faults.TooDeep at) before w after words nest items stands words_are (is_open, full, starts) form = absurd (no_items before w after words items words_are (inr (too_deep_here before w nest stands is_open full)) form)
refused_only (faults.Unclosed at) before w after words nest items stands words_are refused form = absurd refused
refused_only faults.TooLong before w after words nest items stands words_are refused form = absurd refused
refused_only (faults.Stray at) before w after words nest items stands words_are refused form = absurd refused
refused_only (faults.Glued at) before w after words nest items stands words_are refused form = absurd refused
refused_only (faults.NumberRange at) before w after words nest items stands words_are refused form = absurd refused
refused_only faults.AlreadyFailed before w after words nest items stands words_are refused form = absurd refused

-- ---- the end

-- items that the words form are those of the nest
closed_only : (words : List PlacedWord) (nest : Nest) (items : List Placed) → StandsAt words nest → AreItems 128 words items → nest.items ≡ items
closed_only words nest items stands form = ap items_in (sym stands.run_is ∙ whole_run form)

-- with a list open they form none
open_only : (words : List PlacedWord) (nest : Nest) (outer : List Opened) (list : Opened) (items : List Placed) → StandsAt words nest → nest.opened ≡ outer ++ list ∷ [] → AreItems 128 words items → ⊥
open_only words nest outer list items stands opened_are form =
    let none_left : outer ++ list ∷ [] ≡ [] = sym opened_are ∙ ap opened_in (sym stands.run_is ∙ whole_run form) in
    absurd (omega (arith, ap (λ (t : List Opened). length t) none_left, length-append outer (list ∷ [])))

-- the lowest open list, and a run over what stands behind its opening
record Bottom (words : List PlacedWord) (list : Opened) (depth : ℕ) : Type 0 where
  before : List PlacedWord
  opening : PlacedWord
  after : List PlacedWord
  words_are : words ≡ before ++ opening ∷ after
  is_opening : opening.kind ≡ Open
  starts_at : opening.span.start ≡ list.start
  items : AreItems 128 before list.items
  nest : Nest
  run_is : run after empty ≡ Some nest
  depth_is : length nest.opened ≡ depth

-- each stack has its lowest open list
bottom : (opened : List Opened) (list : Opened) (items : List Placed) (words : List PlacedWord) → length opened < 128 → Leaves (opened ++ list ∷ []) items words → Bottom words list (length opened)
bottom [] list items words room (before, opening, inner, outer, is_open, starts, in_inner, words_are) = record {
  before = before;
  opening = opening;
  after = inner;
  words_are = words_are;
  is_opening = is_open;
  starts_at = starts;
  items = outer;
  nest = record { opened = []; items = items };
  run_is = fits_run in_inner empty (omega arith);
  depth_is = refl;
}
bottom (top ∷ opened) list items words room (before, opening, inner, outer, is_open, starts, in_inner, words_are) =
    let below = bottom opened list top.items before (omega (arith, room)) outer in
    let within : Nest = record { opened = record { items = below.nest.items; start = opening.span.start } ∷ below.nest.opened; items = [] } in
    record {
      before = below.before;
      opening = below.opening;
      after = below.after ++ opening ∷ inner;
      words_are = words_are ∙ ap (λ (t : List PlacedWord). t ++ opening ∷ inner) below.words_are ∙ append_assoc below.before (below.opening ∷ below.after) (opening ∷ inner);
      is_opening = below.is_opening;
      starts_at = below.starts_at;
      items = below.items;
      nest = added within items;
      run_is = run_append below.after (opening ∷ inner) empty ∙ ap (λ o. then o (λ at. run (opening ∷ inner) at)) below.run_is
          ∙ ap (λ o. then o (λ at. run inner at)) (opens opening below.nest is_open (omega (arith, below.depth_is, room)))
          ∙ fits_run in_inner within (omega (arith, below.depth_is, room, length-append opened (list ∷ [])));
      depth_is = ap (λ (n : ℕ). suc n) below.depth_is;
    }

-- the lowest open list is the leftmost opening without a partner
unclosed : (words : List PlacedWord) (nest : Nest) (outer : List Opened) (list : Opened) → StandsAt words nest → nest.opened ≡ outer ++ list ∷ [] → IsUnclosed words list.start
unclosed words nest outer list stands opened_are =
    let in_range : length outer < 128 = omega (arith, stands.is_nest.in_range, ap (λ (t : List Opened). length t) opened_are, length-append outer (list ∷ [])) in
    let low = bottom outer list nest.items words in_range (subst (λ (o : List Opened). Leaves o nest.items words) opened_are stands.is_nest.leaves) in
    record {
      before = low.before;
      opening = low.opening;
      after = low.after;
      words_are = low.words_are;
      is_opening = low.is_opening;
      starts_at = low.starts_at;
      items = (list.items, low.items);
      no_partner = λ inner closing rest is_close form after_is.
          let stopped : run low.after empty ≡ None = ap (λ (t : List PlacedWord). run t empty) after_is ∙ misplaced_stops inner closing (inl (is_close, form)) rest in
          absurd (cc (stopped, low.run_is));
      none_misplaced = λ front other back split misplaced.
          let stopped : run words empty ≡ None = ap (λ (t : List PlacedWord). run t empty) split ∙ misplaced_stops front other misplaced back in
          absurd (cc (stopped, stands.run_is));
    }

-- the last answer: words that form items are answered so
pub ends_only : {V : Type 0} (answer : Result V TextFault) (items_of : V → List Placed) (words : List PlacedWord) (nest : Nest) (items : List Placed) → StandsAt words nest
    → IfOk answer (λ v. nest ≡ record { opened = []; items = items_of v }) → IfErr answer (λ fault. IsLeftOpen fault nest)
    → AreItems 128 words items → MatchResult answer (λ v. items_of v ≡ items) (λ fault. fault ≡ faults.Memory)
ends_only (Ok v) items_of words nest items stands nest_is left_open form = sym (ap (λ (n : Nest). n.items) nest_is) ∙ closed_only words nest items stands form
ends_only (Err fault) items_of words nest items stands nest_is (inner, outermost, opened_are, fault_is) form = absurd (open_only words nest inner outermost items stands opened_are form)

-- and its fault stands in the words
pub ends_fault : {V : Type 0} (answer : Result V TextFault) (words : List PlacedWord) (nest : Nest) → StandsAt words nest → IfErr answer (λ fault. IsLeftOpen fault nest) → IfErr answer (λ fault. ListStands fault words)
ends_fault (Ok v) words nest stands left_open = tt
ends_fault (Err fault) words nest stands (inner, outermost, opened_are, fault_is) = subst (λ f. ListStands f words) (sym fault_is) (unclosed words nest inner outermost stands opened_are)
