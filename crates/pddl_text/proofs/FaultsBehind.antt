-- What is wrong behind whole items is wrong with all.
use Rattle.std.proofs.Common.{◌≡◌, ℕ, suc, ◌+◌, ◌≤◌, List, [], ◌∷◌, ◌++◌, length, refl, sym, ap, subst, ◌∙◌, arith, inl, inr}
use Rattle.std.specs.Prelude.{Option, Some, None}
use Rattle.std.proofs.lemmas.Bool.{cases_lt}
use Rattle.std.proofs.lemmas.List.{append_assoc, append-nil, append_cancel_left, length-append}
use Rattle.pddl_token.specs.declared.token.TokenKind.{TokenKind}
use Rattle.pddl_token.specs.declared.token.TokenKind.TheVariants.{Open, Close}
use Rattle.pddl_token.specs.Spelling.{PlacedWord}
use Rattle.pddl_token.specs.Trees.{Placed}
use Rattle.pddl_text.specs.Lists.{AreItems, FormItems, LeaveOpen, none_open, one_more, IsUnopened, IsTooDeep, IsMisplaced, IsFirstMisplaced, IsUnclosed, ListStands}
use Rattle.pddl_scan.specs.declared.fault.TextFault.{TextFault}
use Rattle.pddl_scan.specs.declared.fault.TextFault.TheVariants as faults
use Rattle.pddl_text.specs.Inner.Nesting.{Opened, Nest, empty, closed, next_by, next_nest}
use Rattle.pddl_text.proofs.Nests.{run, run_append, whole_run, then, opens, stops_deep, items_append, StandsAt, nothing_read, stands_on, unopened_here, too_deep_here, misplaced_stops, no_items, prefix_of}

-- ---- where a run stops depends on how many lists are open

-- two steps stop both, or leave as many lists open
abbrev AsDeep : Option Nest → Option Nest → Type 0
AsDeep None None = Unit {0}
AsDeep (Some n) (Some m) = length n.opened ≡ length m.opened
AsDeep _ _ = ⊥

as_deep : (kind : TokenKind) (w : PlacedWord) (n m : Nest) → w.kind ≡ kind → length n.opened ≡ length m.opened → AsDeep (next_by kind w n) (next_by kind w m)
as_deep Open w n m is same = elim (cases_lt (length n.opened) 128) [
  | inl room ↦ subst (λ kind. AsDeep (next_by kind w n) (next_by kind w m)) is (rw (opens w n is room, opens w m is (omega (arith, room, same))) (ap (λ (d : ℕ). suc d) same))
  | inr full ↦ subst (λ kind. AsDeep (next_by kind w n) (next_by kind w m)) is (rw (stops_deep w n is full, stops_deep w m is (omega (arith, full, same))) tt)
]
as_deep Close w n m is same = by_lists n.opened m.opened same
  where
    by_lists : (xs ys : List Opened) → length xs ≡ length ys → AsDeep (closed xs n.items w) (closed ys m.items w)
    by_lists [] [] e = tt
    by_lists [] (y ∷ ys) e = absurd (omega (arith, e))
    by_lists (x ∷ xs) [] e = absurd (omega (arith, e))
    by_lists (x ∷ xs) (y ∷ ys) e = omega (arith, e)
as_deep _ w n m is same = same

stops_alike : (words : List PlacedWord) (n m : Nest) → length n.opened ≡ length m.opened → run words n ≡ None → run words m ≡ None
stops_alike [] n m same stops = absurd (cc (stops))
stops_alike (w ∷ words) n m same stops = by_next (λ a b alike e. stops_alike words a b alike e) (next_nest w n) (next_nest w m) (as_deep w.kind w n m refl same) stops
  where
    by_next : ((a b : Nest) → length a.opened ≡ length b.opened → run words a ≡ None → run words b ≡ None)
        → (a b : Option Nest) → AsDeep a b → then a (λ after. run words after) ≡ None → then b (λ after. run words after) ≡ None
    by_next on None None alike e = refl
    by_next on (Some a) (Some b) alike e = on a b alike e
    by_next on None (Some b) bad e = absurd bad
    by_next on (Some a) None bad e = absurd bad

-- ---- a run that stops has a misplaced word

-- a misplaced word among words that follow others
record HasMisplaced (front words : List PlacedWord) : Type 0 where
  before : List PlacedWord
  here : PlacedWord
  after : List PlacedWord
  words_are : words ≡ before ++ here ∷ after
  misplaced : IsMisplaced (front ++ before) here

refused_here : (kind : TokenKind) (front : List PlacedWord) (w : PlacedWord) (nest : Nest) → w.kind ≡ kind → StandsAt front nest → next_by kind w nest ≡ None → IsMisplaced front w
refused_here Open front w nest is stands stops = elim (cases_lt (length nest.opened) 128) [
  | inl room ↦
      let after : Nest = record { opened = record { items = nest.items; start = w.span.start } ∷ nest.opened; items = [] } in
      let opened : next_by Open w nest ≡ Some after = subst (λ kind. next_by kind w nest ≡ Some after) is (opens w nest is room) in
      absurd (cc (opened, stops))
  | inr full ↦ inr (too_deep_here front w nest stands is full)
]
refused_here Close front w nest is stands stops = by_opened nest.opened refl
  where
    by_opened : (opened : List Opened) → nest.opened ≡ opened → IsMisplaced front w
    by_opened [] e = inl (unopened_here front w nest stands is e)
    by_opened (list ∷ opened) e = absurd (cc (stops, ap (λ (o : List Opened). closed o nest.items w) e))
refused_here _ front w nest is stands stops = absurd (cc (stops))

stopped : (words front : List PlacedWord) (nest : Nest) → StandsAt front nest → run words nest ≡ None → HasMisplaced front words
stopped [] front nest stands stops = absurd (cc (stops))
stopped (w ∷ words) front nest stands stops = by_next (λ after stands stops. stopped words (front ++ w ∷ []) after stands stops) (next_nest w nest) refl stops
  where
    by_next : ((after : Nest) → StandsAt (front ++ w ∷ []) after → run words after ≡ None → HasMisplaced (front ++ w ∷ []) words)
        → (o : Option Nest) → next_nest w nest ≡ o → then o (λ after. run words after) ≡ None → HasMisplaced front (w ∷ words)
    by_next on None e d = record {
      before = [];
      here = w;
      after = words;
      words_are = refl;
      misplaced = subst (λ (f : List PlacedWord). IsMisplaced f w) (sym (append-nil front)) (refused_here w.kind front w nest refl stands e);
    }
    by_next on (Some after) e d =
        let found = on after (stands_on front nest after w stands e) d in
        record {
          before = w ∷ found.before;
          here = found.here;
          after = found.after;
          words_are = ap (λ (t : List PlacedWord). w ∷ t) found.words_are;
          misplaced = subst (λ (f : List PlacedWord). IsMisplaced f found.here) (append_assoc front (w ∷ []) found.before) found.misplaced;
        }

-- ---- misplaced words behind whole items

-- a misplaced word among the words behind the items, no further on
record MisplacedBehind (done words front : List PlacedWord) : Type 0 where
  before : List PlacedWord
  here : PlacedWord
  after : List PlacedWord
  words_are : words ≡ before ++ here ∷ after
  misplaced : IsMisplaced before here
  no_later : length done + length before ≤ length front

module _ (done : List PlacedWord) (items : List Placed) (form : AreItems 128 done items) where
  -- a word that is misplaced behind the items, and behind other words
  behind_words : (more : List PlacedWord) (other : PlacedWord) → IsMisplaced (done ++ more) other → HasMisplaced [] (more ++ other ∷ [])
  behind_words more other misplaced =
      let stops : run ((done ++ more) ++ other ∷ []) empty ≡ None = misplaced_stops (done ++ more) other misplaced [] in
      let run_is : run ((done ++ more) ++ other ∷ []) empty ≡ run (more ++ other ∷ []) (record { opened = []; items = items }) =
      ap (λ (t : List PlacedWord). run t empty) (append_assoc done more (other ∷ [])) ∙ run_append done (more ++ other ∷ []) empty ∙ ap (λ o. then o (λ after. run (more ++ other ∷ []) after)) (whole_run form) in
      stopped (more ++ other ∷ []) [] empty nothing_read (stops_alike (more ++ other ∷ []) (record { opened = []; items = items }) empty refl (sym run_is ∙ stops))

  misplaced_behind : (words front : List PlacedWord) (other : PlacedWord) (back : List PlacedWord) → done ++ words ≡ front ++ other ∷ back → IsMisplaced front other → MisplacedBehind done words front
  misplaced_behind words front other back split misplaced = elim (cases_lt (length front) (length done)) [
    | inl lt ↦
        let regroup : (front ++ other ∷ []) ++ back ≡ front ++ other ∷ back = append_assoc front (other ∷ []) back in
        let found = prefix_of (front ++ other ∷ []) back done words (regroup ∙ sym split) (omega (arith, length-append front (other ∷ []), lt)) in
        absurd (no_items front other found.0 done items (found.1 ∙ append_assoc front (other ∷ []) found.0) misplaced form)
    | inr le ↦
        let found = prefix_of done words front (other ∷ back) split le in
        let more : List PlacedWord = found.0 in
        let words_are : words ≡ more ++ other ∷ back = append_cancel_left done words (more ++ other ∷ back) (split ∙ ap (λ (t : List PlacedWord). t ++ other ∷ back) found.1 ∙ append_assoc done more (other ∷ back)) in
        let here = behind_words more other (subst (λ (f : List PlacedWord). IsMisplaced f other) found.1 misplaced) in
        let regroup : (more ++ other ∷ []) ++ back ≡ more ++ other ∷ back = append_assoc more (other ∷ []) back in
        let joined : (more ++ other ∷ []) ++ back ≡ here.before ++ here.here ∷ (here.after ++ back) = ap (λ (t : List PlacedWord). t ++ back) here.words_are ∙ append_assoc here.before (here.here ∷ here.after) back in
        record {
          before = here.before;
          here = here.here;
          after = here.after ++ back;
          words_are = words_are ∙ sym regroup ∙ joined;
          misplaced = here.misplaced;
          no_later = omega (arith, ap (λ (t : List PlacedWord). length t) found.1, length-append done more, ap (λ (t : List PlacedWord). length t) here.words_are, length-append more (other ∷ []), length-append here.before (here.here ∷ here.after));
        }
  ]

  forms_behind : (words : List PlacedWord) → FormItems words → FormItems (done ++ words)
  forms_behind words forms = (items ++ forms.0, items_append form words forms.0 forms.1)

  open_behind : {opened : ℕ} {words : List PlacedWord} → LeaveOpen opened words → LeaveOpen opened (done ++ words)
  open_behind {words = words} (none_open forms) = none_open (forms_behind words forms)
  open_behind (one_more before opening inner outer is_open forms words_are) =
      one_more (done ++ before) opening inner (open_behind outer) is_open forms (ap (λ (t : List PlacedWord). done ++ t) words_are ∙ sym (append_assoc done before (opening ∷ inner)))

  first_behind : (Fault : List PlacedWord → PlacedWord → Type 0) (words : List PlacedWord) (at : ℕ) → ((before : List PlacedWord) (w : PlacedWord) → Fault before w → Fault (done ++ before) w)
      → IsFirstMisplaced Fault words at → IsFirstMisplaced Fault (done ++ words) at
  first_behind Fault words at on here = record {
    before = done ++ here.before;
    here = here.here;
    after = here.after;
    words_are = ap (λ (t : List PlacedWord). done ++ t) here.words_are ∙ sym (append_assoc done here.before (here.here ∷ here.after));
    starts_at = here.starts_at;
    fault = on here.before here.here here.fault;
    first = λ front other back split misplaced.
        let found = misplaced_behind words front other back split misplaced in
        omega (arith, length-append done here.before, found.no_later, here.first found.before found.here found.after found.words_are found.misplaced);
  }

  unclosed_behind : (words : List PlacedWord) (at : ℕ) → IsUnclosed words at → IsUnclosed (done ++ words) at
  unclosed_behind words at here = record {
    before = done ++ here.before;
    opening = here.opening;
    after = here.after;
    words_are = ap (λ (t : List PlacedWord). done ++ t) here.words_are ∙ sym (append_assoc done here.before (here.opening ∷ here.after));
    is_opening = here.is_opening;
    starts_at = here.starts_at;
    items = forms_behind here.before here.items;
    no_partner = here.no_partner;
    none_misplaced = λ front other back split misplaced.
        let found = misplaced_behind words front other back split misplaced in
        here.none_misplaced found.before found.here found.after found.words_are found.misplaced;
  }

  pub fault_behind : (words : List PlacedWord) (fault : TextFault) → ListStands fault words → ListStands fault (done ++ words)
  fault_behind words faults.Memory stands = tt
  fault_behind words (faults.Unopened at) stands = first_behind IsUnopened words at (λ before w fault. (fault.0, forms_behind before fault.1)) stands
  fault_behind words (faults.TooDeep at) stands = first_behind IsTooDeep words at (λ before w fault. (fault.0, open_behind fault.1)) stands
  fault_behind words (faults.Unclosed at) stands = unclosed_behind words at stands
  fault_behind words faults.TooLong stands = absurd stands
  fault_behind words (faults.Stray at) stands = absurd stands
  fault_behind words (faults.Glued at) stands = absurd stands
  fault_behind words (faults.NumberRange at) stands = absurd stands
  fault_behind words faults.AlreadyFailed stands = absurd stands
