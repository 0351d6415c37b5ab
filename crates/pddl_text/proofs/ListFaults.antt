-- Words have at most one fault of lists, and none where they form items.
use Rattle.std.proofs.Common.{◌≡◌, ℕ, ◌≤◌, ◌<◌, List, [], ◌∷◌, ◌++◌, length, take, drop, refl, sym, ap, subst, ◌∙◌, arith, inl, inr}
use Rattle.std.specs.Prelude.{◌⊎◌, ◌≢◌}
use Rattle.std.proofs.lemmas.Bool.{cases_lt}
use Rattle.std.proofs.lemmas.List.{append_assoc, append_cancel_left, take_at, drop_at, length-append}
use Rattle.pddl_token.specs.declared.token.TokenKind.{TokenKind}
use Rattle.pddl_token.specs.declared.token.TokenKind.TheVariants.{Open, Close}
use Rattle.pddl_scan.specs.declared.fault.TextFault.{TextFault}
use Rattle.pddl_scan.specs.declared.fault.TextFault.TheVariants as faults
use Rattle.pddl_token.specs.Spelling.{PlacedWord}
use Rattle.pddl_token.specs.Trees.{Placed}
use Rattle.pddl_text.specs.Lists.{AreItems, none, plain, nested, FormItems, IsUnopened, IsTooDeep, IsMisplaced, IsFirstMisplaced, IsUnclosed, ListStands}
use Rattle.pddl_text.proofs.Nests.{deeper, whole_run, prefix_of, none_before, no_items}

-- ---- splits of one list

-- two splits at one length are one
pub same_split : {A : Type 0} (a b c d : List A) → a ++ b ≡ c ++ d → length a ≡ length c → (a ≡ c) × (b ≡ d)
same_split a b c d same len = (
  sym (take_at a b (length c) len) ∙ ap (take (length c)) same ∙ take_at c d (length c) refl,
  sym (drop_at a b (length c) len) ∙ ap (drop (length c)) same ∙ drop_at c d (length c) refl,
)

-- ---- the partner of an opening among items

-- behind items the same closing comes first
closing_first : (words inner after other back : List PlacedWord) (closing last : PlacedWord) → FormItems inner → FormItems other → closing.kind ≡ Close → words ≡ inner ++ closing ∷ after → words ≡ other ++ last ∷ back → length inner < length other → ⊥
closing_first words inner after other back closing last form others is_close split words_are lt = none_before other (last ∷ back) words inner _ closing after (whole_run others.1) words_are split (inl (is_close, form)) lt

-- a word that begins items stands alone
record IsPlain (w : PlacedWord) (rest : List PlacedWord) : Type 0 where
  not_open : w.kind ≢ Open
  form : FormItems rest

-- or it opens a list
record IsOpening (w : PlacedWord) (rest : List PlacedWord) : Type 0 where
  is_open : w.kind ≡ Open
  inner : List PlacedWord
  closing : PlacedWord
  after : List PlacedWord
  is_close : closing.kind ≡ Close
  in_inner : FormItems inner
  in_after : FormItems after
  rest_is : rest ≡ inner ++ closing ∷ after

-- how items go on behind their first word
first_word : {levels : ℕ} {words : List PlacedWord} {items : List Placed} → AreItems levels words items → levels ≤ 128 → (w : PlacedWord) (rest : List PlacedWord) → words ≡ w ∷ rest → IsPlain w rest ⊎ IsOpening w rest
first_word none le w rest words_are = absurd (cc words_are)
first_word (plain {words = words} {items = items} v no_open no_close form) le w rest words_are =
    let same : v ≡ w = cc words_are in
    let tail : words ≡ rest = cc words_are in
    inl (record { not_open = λ e. no_open (ap (λ (x : PlacedWord). x.kind) same ∙ e); form = (items, subst (λ (t : List PlacedWord). AreItems 128 t items) tail (deeper form 128 le)) })
first_word (nested opening closing inner after children others is_open is_close in_inner in_after words_are items_are) le w rest e =
    let tail : inner ++ closing ∷ after ≡ rest = cc (words_are, e) in
    let same : opening ≡ w = cc (words_are, e) in
    inr (record {
      is_open = sym (ap (λ (x : PlacedWord). x.kind) same) ∙ is_open;
      inner = inner;
      closing = closing;
      after = after;
      is_close = is_close;
      in_inner = (children, deeper in_inner 128 (omega (arith, le)));
      in_after = (others, deeper in_after 128 le);
      rest_is = sym tail;
    })

-- an opening with its closing, and items between
pub record HasPartner (after : List PlacedWord) : Type 0 where
  pub inner : List PlacedWord
  pub closing : PlacedWord
  pub rest : List PlacedWord
  pub is_close : closing.kind ≡ Close
  pub form : FormItems inner
  pub after_is : after ≡ inner ++ closing ∷ rest

-- an opening that begins items has its partner
opening_partner : (opening : PlacedWord) (after : List PlacedWord) → opening.kind ≡ Open → IsPlain opening after ⊎ IsOpening opening after → HasPartner after
opening_partner opening after is_open (inl alone) = absurd (alone.not_open is_open)
opening_partner opening after is_open (inr list) = record { inner = list.inner; closing = list.closing; rest = list.after; is_close = list.is_close; form = list.in_inner; after_is = list.rest_is }

-- behind a list, items go on
list_rest : (inner after : List PlacedWord) (closing w : PlacedWord) → closing.kind ≡ Close → FormItems inner → w.kind ≡ Open → IsPlain w (inner ++ closing ∷ after) ⊎ IsOpening w (inner ++ closing ∷ after) → FormItems after
list_rest inner after closing w is_close form is_open (inl alone) = absurd (alone.not_open is_open)
list_rest inner after closing w is_close form is_open (inr list) =
    let len : length inner ≡ length list.inner = elim (cases_lt (length inner) (length list.inner)) [
      | inl lt ↦ absurd (closing_first _ inner after list.inner list.after closing list.closing form list.in_inner is_close refl list.rest_is lt)
      | inr le ↦ elim (cases_lt (length list.inner) (length inner)) [
        | inl lt ↦ absurd (closing_first _ list.inner list.after inner after list.closing closing list.in_inner form list.is_close list.rest_is refl lt)
        | inr ge ↦ omega (arith, le, ge)
      ]
    ] in
    let same = same_split inner (closing ∷ after) list.inner (list.closing ∷ list.after) list.rest_is len in
    let tail : list.after ≡ after = cc (same.1) in
    subst FormItems tail list.in_after

-- among items an opening behind items has its partner
pub partner_of : {levels : ℕ} {before : List PlacedWord} {items : List Placed} → AreItems levels before items → levels ≤ 128 → (opening : PlacedWord) (after : List PlacedWord) → opening.kind ≡ Open → FormItems (before ++ opening ∷ after) → HasPartner after
partner_of none le opening after is_open form = opening_partner opening after is_open (first_word form.1 (omega arith) opening after refl)
partner_of (plain {words = words} w no_open no_close rest) le opening after is_open form =
    elim (first_word form.1 (omega arith) w (words ++ opening ∷ after) refl) [
      | inl alone ↦ partner_of rest le opening after is_open alone.form
      | inr list ↦ absurd (no_open list.is_open)
    ]
partner_of (nested first closing inner more children others is_first is_close in_inner in_more words_are items_are) le opening after is_open form =
    let words_on = ap (λ (t : List PlacedWord). t ++ opening ∷ after) words_are ∙ ap (λ (t : List PlacedWord). first ∷ t) (append_assoc inner (closing ∷ more) (opening ∷ after)) in
    partner_of in_more le opening after is_open
    (list_rest inner (more ++ opening ∷ after) closing first is_close (children, deeper in_inner 128 (omega (arith, le))) is_first (first_word form.1 (omega arith) first _ words_on))

-- ---- two faults

-- the fault of a misplaced word, which is a closing or an opening
abbrev misplaced_fault : TokenKind → ℕ → TextFault
misplaced_fault Open at = faults.TooDeep at
misplaced_fault _ at = faults.Unopened at

-- a fault at the first misplaced word
record IsMisplacedFault (fault : TextFault) (words : List PlacedWord) : Type 0 where
  at : ℕ
  first : IsFirstMisplaced IsMisplaced words at
  fault_is : fault ≡ misplaced_fault first.here.kind at

-- a fault at the leftmost opening without a partner
record IsUnclosedFault (fault : TextFault) (words : List PlacedWord) : Type 0 where
  at : ℕ
  unclosed : IsUnclosed words at
  fault_is : fault ≡ faults.Unclosed at

-- a first misplaced word, whichever it is
abbrev any_misplaced : (Fault : List PlacedWord → PlacedWord → Type 0) (words : List PlacedWord) (at : ℕ) → ((before : List PlacedWord) (w : PlacedWord) → Fault before w → IsMisplaced before w) → IsFirstMisplaced Fault words at → IsFirstMisplaced IsMisplaced words at
any_misplaced Fault words at is_misplaced first = record {
  before = first.before;
  here = first.here;
  after = first.after;
  words_are = first.words_are;
  starts_at = first.starts_at;
  fault = is_misplaced first.before first.here first.fault;
  first = first.first;
}

-- memory, a misplaced word, or an opening without a partner
abbrev ListReason : TextFault → List PlacedWord → Type 0
ListReason fault words = (fault ≡ faults.Memory) ⊎ (IsMisplacedFault fault words ⊎ IsUnclosedFault fault words)

-- the reason of each fault that stands
list_reason : (fault : TextFault) (words : List PlacedWord) → ListStands fault words → ListReason fault words
list_reason faults.Memory words stands = inl refl
list_reason (faults.Unopened at) words stands = inr (inl (record { at = at; first = any_misplaced IsUnopened words at (λ before w unopened. inl unopened) stands; fault_is = sym (ap (λ k. misplaced_fault k at) stands.fault.0) }))
list_reason (faults.TooDeep at) words stands = inr (inl (record { at = at; first = any_misplaced IsTooDeep words at (λ before w deep. inr deep) stands; fault_is = sym (ap (λ k. misplaced_fault k at) stands.fault.0) }))
list_reason (faults.Unclosed at) words stands = inr (inr (record { at = at; unclosed = stands; fault_is = refl }))
list_reason faults.TooLong words stands = absurd stands
list_reason (faults.Stray at) words stands = absurd stands
list_reason (faults.Glued at) words stands = absurd stands
list_reason (faults.NumberRange at) words stands = absurd stands
list_reason faults.AlreadyFailed words stands = absurd stands

-- two first misplaced words are one
one_misplaced : (fault other : TextFault) (words : List PlacedWord) → IsMisplacedFault fault words → IsMisplacedFault other words → fault ≡ other
one_misplaced fault other words p q =
    let len : length p.first.before ≡ length q.first.before = omega (arith, p.first.first q.first.before q.first.here q.first.after q.first.words_are q.first.fault, q.first.first p.first.before p.first.here p.first.after p.first.words_are p.first.fault) in
    let same = same_split p.first.before (p.first.here ∷ p.first.after) q.first.before (q.first.here ∷ q.first.after) (sym p.first.words_are ∙ q.first.words_are) len in
    let here : p.first.here ≡ q.first.here = cc (same.1) in
    let at_is : p.at ≡ q.at = sym p.first.starts_at ∙ ap (λ (w : PlacedWord). w.span.start) here ∙ q.first.starts_at in
    p.fault_is ∙ (λ i. misplaced_fault (here i).kind (at_is i)) ∙ sym q.fault_is

-- of two splits of the words the later one's front has the earlier word in it
record IsEarlier (before : List PlacedWord) (here : PlacedWord) (after front : List PlacedWord) (other : PlacedWord) (back : List PlacedWord) : Type 0 where
  between : List PlacedWord
  front_is : front ≡ before ++ here ∷ between
  after_is : after ≡ between ++ other ∷ back

-- such splits, by their lengths
earlier : (words before after front back : List PlacedWord) (here other : PlacedWord) → words ≡ before ++ here ∷ after → words ≡ front ++ other ∷ back → length before < length front → IsEarlier before here after front other back
earlier words before after front back here other e d lt =
    let regroup : (before ++ here ∷ []) ++ after ≡ before ++ here ∷ after = append_assoc before (here ∷ []) after in
    let found = prefix_of (before ++ here ∷ []) after front (other ∷ back) (regroup ∙ sym e ∙ d) (omega (arith, length-append before (here ∷ []), lt)) in
    let between : List PlacedWord = found.0 in
    let front_is : front ≡ before ++ here ∷ between = found.1 ∙ append_assoc before (here ∷ []) between in
    let split : before ++ here ∷ after ≡ before ++ (here ∷ (between ++ other ∷ back)) = sym e ∙ d ∙ ap (λ (t : List PlacedWord). t ++ other ∷ back) front_is ∙ append_assoc before (here ∷ between) (other ∷ back) in
    record { between = between; front_is = front_is; after_is = cc (append_cancel_left before (here ∷ after) (here ∷ (between ++ other ∷ back)) split) }

-- a partner stays one, more words following
partner_more : (between back after : List PlacedWord) (other : PlacedWord) → HasPartner between → after ≡ between ++ other ∷ back → HasPartner after
partner_more between back after other p after_is = record {
  inner = p.inner;
  closing = p.closing;
  rest = p.rest ++ other ∷ back;
  is_close = p.is_close;
  form = p.form;
  after_is = after_is ∙ ap (λ (t : List PlacedWord). t ++ other ∷ back) p.after_is ∙ append_assoc p.inner (p.closing ∷ p.rest) (other ∷ back);
}

-- an unclosed opening has no partner
has_no_partner : (words : List PlacedWord) (at : ℕ) → (p : IsUnclosed words at) → HasPartner p.after → ⊥
has_no_partner words at p partner = p.no_partner partner.inner partner.closing partner.rest partner.is_close partner.form partner.after_is

-- of two openings without a partner neither stands before the other
not_before : (words : List PlacedWord) (a b : ℕ) → (p : IsUnclosed words a) → (q : IsUnclosed words b) → length p.before < length q.before → ⊥
not_before words a b p q lt =
    let split = earlier words p.before p.after q.before q.after p.opening q.opening p.words_are q.words_are lt in
    let partner = partner_of p.items.1 (omega arith) p.opening split.between p.is_opening (subst FormItems split.front_is q.items) in
    has_no_partner words a p (partner_more split.between q.after p.after q.opening partner split.after_is)

-- two leftmost openings without a partner are one
one_unclosed : (words : List PlacedWord) (a b : ℕ) → IsUnclosed words a → IsUnclosed words b → a ≡ b
one_unclosed words a b p q =
    let len : length p.before ≡ length q.before = elim (cases_lt (length p.before) (length q.before)) [
      | inl lt ↦ absurd (not_before words a b p q lt)
      | inr le ↦ elim (cases_lt (length q.before) (length p.before)) [
        | inl lt ↦ absurd (not_before words b a q p lt)
        | inr ge ↦ omega (arith, le, ge)
      ]
    ] in
    let same = same_split p.before (p.opening ∷ p.after) q.before (q.opening ∷ q.after) (sym p.words_are ∙ q.words_are) len in
    let here : p.opening ≡ q.opening = cc (same.1) in
    sym p.starts_at ∙ ap (λ (w : PlacedWord). w.span.start) here ∙ q.starts_at

-- where a word is misplaced, no opening is unclosed
misplaced_or_unclosed : (fault : TextFault) (words : List PlacedWord) (at : ℕ) → IsMisplacedFault fault words → IsUnclosed words at → ⊥
misplaced_or_unclosed fault words at p q = q.none_misplaced p.first.before p.first.here p.first.after p.first.words_are p.first.fault

-- two faults of the same words are one
pub one_list_fault : (fault other : TextFault) (words : List PlacedWord) → ListStands fault words → ListStands other words → fault ≢ faults.Memory → other ≢ faults.Memory → fault ≡ other
one_list_fault fault other words stands others some_fault other_fault = by_reason (list_reason fault words stands) (list_reason other words others)
  where
    by_reason : ListReason fault words → ListReason other words → fault ≡ other
    by_reason (inl memory) q = absurd (some_fault memory)
    by_reason p (inl memory) = absurd (other_fault memory)
    by_reason (inr (inl p)) (inr (inl q)) = one_misplaced fault other words p q
    by_reason (inr (inl p)) (inr (inr q)) = absurd (misplaced_or_unclosed fault words q.at p q.unclosed)
    by_reason (inr (inr p)) (inr (inl q)) = absurd (misplaced_or_unclosed other words p.at q p.unclosed)
    by_reason (inr (inr p)) (inr (inr q)) = p.fault_is ∙ ap (λ (at : ℕ). faults.Unclosed at) (one_unclosed words p.at q.at p.unclosed q.unclosed) ∙ sym q.fault_is

-- words that form items have no fault of lists
pub no_list_fault : (fault : TextFault) (words : List PlacedWord) (items : List Placed) → ListStands fault words → AreItems 128 words items → fault ≡ faults.Memory
no_list_fault fault words items stands form = by_reason (list_reason fault words stands)
  where
    by_reason : ListReason fault words → fault ≡ faults.Memory
    by_reason (inl memory) = memory
    by_reason (inr (inl p)) = absurd (no_items p.first.before p.first.here p.first.after words items p.first.words_are p.first.fault form)
    by_reason (inr (inr p)) =
        let partner = partner_of p.unclosed.items.1 (omega arith) p.unclosed.opening p.unclosed.after p.unclosed.is_opening (items, subst (λ (t : List PlacedWord). AreItems 128 t items) p.unclosed.words_are form) in
        absurd (has_no_partner words p.at p.unclosed partner)
