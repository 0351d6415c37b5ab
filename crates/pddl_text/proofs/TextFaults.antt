-- A text has at most one fault, and none where it has items.
use Rattle.std.proofs.Common.{◌≡◌, ℕ, ◌<◌, ◌≤◌, List, length, take, drop, refl, sym, subst, ◌∙◌, arith, inl, inr}
use Rattle.std.specs.Prelude.{◌⊎◌, ◌≢◌, Result, Ok, Err, IfOk, IfErr, MatchResult}
use Rattle.std.proofs.lemmas.Bool.{cases_lt}
use Rattle.std.proofs.lemmas.List.{take-append-drop}
use Rattle.pddl_token.specs.declared.token.TokenKind.TheVariants.{Number}
use Rattle.pddl_scan.specs.declared.fault.TextFault.{TextFault}
use Rattle.pddl_scan.specs.declared.fault.TextFault.TheVariants as faults
use Rattle.pddl_token.specs.Spelling.{PlacedWord, Spells}
use Rattle.pddl_scan.specs.Faults.{IsStray, IsLongestNumber, IsGlued, IsOutOfRange, IsFaulty, IsLeftmost, HasFaultAt, AreValued, Stands}
use Rattle.pddl_token.specs.Trees.{Placed}
use Rattle.pddl_text.specs.Lists.{ListStands}
use Rattle.pddl_text.specs.Texts.{HasItems, HasListFault, TextStands}
use Rattle.pddl_scan.proofs.Lexed.{one_spelling, no_other}
use Rattle.pddl_text.proofs.ListFaults.{same_split, one_list_fault, no_list_fault}
use Rattle.pddl_text.proofs.TextItems.{items_form, one_items}

-- ---- one fault at a place

-- the three faults of words
data Wrong : Type 0 where
  stray : Wrong
  glued : Wrong
  out_of_range : Wrong

-- the fault stands at the front
abbrev IsWrong : Wrong → List ℕ → Type 0
IsWrong stray rest = IsStray rest
IsWrong glued rest = IsGlued rest
IsWrong out_of_range rest = IsOutOfRange rest

-- as `lex` answers it
abbrev fault_at : Wrong → ℕ → TextFault
fault_at stray at = faults.Stray at
fault_at glued at = faults.Glued at
fault_at out_of_range at = faults.NumberRange at

-- no number begins at a stray byte
no_number_at_stray : (rest number after : List ℕ) → IsStray rest → IsLongestNumber number after rest → ⊥
no_number_at_stray rest number after nothing longest = nothing.no_word Number number after longest.is_number longest.rest_is

-- behind two longest numbers stands the same
one_longest : (rest number after other more : List ℕ) → IsLongestNumber number after rest → IsLongestNumber other more rest → after ≡ more
one_longest rest number after other more p q =
    let len : length number ≡ length other = omega (arith, p.longest other more q.is_number q.rest_is, q.longest number after p.is_number p.rest_is) in
    (same_split number after other more (sym p.rest_is ∙ q.rest_is) len).1

-- a number is glued, or it isn't
glued_or_out : (rest : List ℕ) → IsGlued rest → IsOutOfRange rest → ⊥
glued_or_out rest p q = let same = one_longest rest p.number p.after q.number q.after p.longest q.longest in absurd (cc (same, p.word_byte, q.not_glued))

-- at most one fault stands at a place
same_wrong : (rest : List ℕ) (a b : Wrong) → IsWrong a rest → IsWrong b rest → a ≡ b
same_wrong rest stray stray p q = refl
same_wrong rest stray glued p q = absurd (no_number_at_stray rest q.number q.after p q.longest)
same_wrong rest stray out_of_range p q = absurd (no_number_at_stray rest q.number q.after p q.longest)
same_wrong rest glued stray p q = absurd (no_number_at_stray rest p.number p.after q p.longest)
same_wrong rest glued glued p q = refl
same_wrong rest glued out_of_range p q = absurd (glued_or_out rest p q)
same_wrong rest out_of_range stray p q = absurd (no_number_at_stray rest p.number p.after q p.longest)
same_wrong rest out_of_range glued p q = absurd (glued_or_out rest q p)
same_wrong rest out_of_range out_of_range p q = refl

-- it is one of the three
is_faulty : (wrong : Wrong) (rest : List ℕ) → IsWrong wrong rest → IsFaulty rest
is_faulty stray rest p = inl p
is_faulty glued rest p = inr (inl p)
is_faulty out_of_range rest p = inr (inr p)

-- ---- one leftmost fault

-- of two leftmost faults neither stands before the other
not_left : (wrong other : Wrong) (text : List ℕ) (a b : ℕ) → IsLeftmost (IsWrong wrong) text a → IsLeftmost (IsWrong other) text b → a < b → ⊥
not_left wrong other text a b p q lt = q.leftmost a lt p.reached (is_faulty wrong (drop a text) p.fault)

-- so they stand at one place
same_place : (wrong other : Wrong) (text : List ℕ) (a b : ℕ) → IsLeftmost (IsWrong wrong) text a → IsLeftmost (IsWrong other) text b → a ≡ b
same_place wrong other text a b p q = elim (cases_lt a b) [
  | inl lt ↦ absurd (not_left wrong other text a b p q lt)
  | inr le ↦ elim (cases_lt b a) [
    | inl lt ↦ absurd (not_left other wrong text b a q p lt)
    | inr ge ↦ omega (arith, le, ge)
  ]
]

-- ---- the reason of a fault

-- a fault of words at a place
record IsWordsFault (fault : TextFault) (text : List ℕ) : Type 0 where
  wrong : Wrong
  at : ℕ
  stands : HasFaultAt (IsWrong wrong) text at
  fault_is : fault ≡ fault_at wrong at

-- the limit of length is passed
record IsTooLong (fault : TextFault) (text : List ℕ) : Type 0 where
  beyond : 16777216 < length text
  fault_is : fault ≡ faults.TooLong

-- memory, length, words or lists
abbrev Reason : TextFault → List ℕ → Type 0
Reason fault text = ((fault ≡ faults.Memory) ⊎ IsTooLong fault text) ⊎ (IsWordsFault fault text ⊎ HasListFault fault text)

-- the reason of each fault that stands
reason : (fault : TextFault) (text : List ℕ) → TextStands fault text → Reason fault text
reason faults.Memory text stands = inl (inl refl)
reason faults.TooLong text stands = inl (inr (record { beyond = stands; fault_is = refl }))
reason (faults.Stray at) text stands = inr (inl (record { wrong = stray; at = at; stands = stands; fault_is = refl }))
reason (faults.Glued at) text stands = inr (inl (record { wrong = glued; at = at; stands = stands; fault_is = refl }))
reason (faults.NumberRange at) text stands = inr (inl (record { wrong = out_of_range; at = at; stands = stands; fault_is = refl }))
reason (faults.Unopened at) text stands = inr (inr stands)
reason (faults.TooDeep at) text stands = inr (inr stands)
reason (faults.Unclosed at) text stands = inr (inr stands)
reason faults.AlreadyFailed text stands = absurd stands

-- two faults of words are one
one_words_fault : (fault other : TextFault) (text : List ℕ) → IsWordsFault fault text → IsWordsFault other text → fault ≡ other
one_words_fault fault other text p q =
    let at_is = same_place p.wrong q.wrong text p.at q.at p.stands.leftmost q.stands.leftmost in
    let theirs : IsWrong q.wrong (drop p.at text) = subst (λ (at : ℕ). IsWrong q.wrong (drop at text)) (sym at_is) q.stands.leftmost.fault in
    let wrong_is = same_wrong (drop p.at text) p.wrong q.wrong p.stands.leftmost.fault theirs in
    p.fault_is ∙ (λ i. fault_at (wrong_is i) (at_is i)) ∙ sym q.fault_is

-- a fault of words leaves no words that spell the text
no_words_fault : (fault : TextFault) (text : List ℕ) (words : List PlacedWord) → IsWordsFault fault text → Spells words text → AreValued words → ⊥
no_words_fault fault text words p spells valued =
    let first = p.stands.leftmost in
    no_other first.reached.0 words text (take p.at text) (drop p.at text) (sym (take-append-drop p.at text)) first.reached.1 (is_faulty p.wrong (drop p.at text) first.fault) spells valued

-- valued words that spell a text within the limit leave no fault but want of memory
pub no_fault_in_words : (text : List ℕ) (fault : TextFault) (words : List PlacedWord) → Stands fault text → Spells words text → AreValued words → length text ≤ 16777216 → fault ≡ faults.Memory
no_fault_in_words text faults.Memory words stands spells valued short = refl
no_fault_in_words text faults.TooLong words stands spells valued short = absurd (omega (arith, stands, short))
no_fault_in_words text (faults.Stray at) words stands spells valued short = absurd (no_words_fault (faults.Stray at) text words (record { wrong = stray; at = at; stands = stands; fault_is = refl }) spells valued)
no_fault_in_words text (faults.Glued at) words stands spells valued short = absurd (no_words_fault (faults.Glued at) text words (record { wrong = glued; at = at; stands = stands; fault_is = refl }) spells valued)
no_fault_in_words text (faults.NumberRange at) words stands spells valued short = absurd (no_words_fault (faults.NumberRange at) text words (record { wrong = out_of_range; at = at; stands = stands; fault_is = refl }) spells valued)
no_fault_in_words text (faults.Unopened at) words stands spells valued short = absurd stands
no_fault_in_words text (faults.TooDeep at) words stands spells valued short = absurd stands
no_fault_in_words text (faults.Unclosed at) words stands spells valued short = absurd stands
no_fault_in_words text faults.AlreadyFailed words stands spells valued short = absurd stands

-- two faults of a text's lists are one
one_lists_fault : (fault other : TextFault) (text : List ℕ) → HasListFault fault text → HasListFault other text → fault ≢ faults.Memory → other ≢ faults.Memory → fault ≡ other
one_lists_fault fault other text p q some_fault other_fault =
    one_list_fault fault other p.words p.stands (subst (ListStands other) (one_spelling q.words p.words text q.spells p.spells) q.stands) some_fault other_fault

-- ---- the laws

-- two faults of a text are one
pub one_text_fault : (text : List ℕ) (fault other : TextFault) → TextStands fault text → TextStands other text → fault ≢ faults.Memory → other ≢ faults.Memory → fault ≡ other
one_text_fault text fault other stands others some_fault other_fault = by_reason (reason fault text stands) (reason other text others)
  where
    by_reason : Reason fault text → Reason other text → fault ≡ other
    by_reason (inl (inl memory)) q = absurd (some_fault memory)
    by_reason p (inl (inl memory)) = absurd (other_fault memory)
    by_reason (inl (inr p)) (inl (inr q)) = p.fault_is ∙ sym q.fault_is
    by_reason (inl (inr p)) (inr (inl q)) = absurd (omega (arith, p.beyond, q.stands.within))
    by_reason (inl (inr p)) (inr (inr q)) = absurd (omega (arith, p.beyond, q.within))
    by_reason (inr (inl p)) (inl (inr q)) = absurd (omega (arith, q.beyond, p.stands.within))
    by_reason (inr (inr p)) (inl (inr q)) = absurd (omega (arith, q.beyond, p.within))
    by_reason (inr (inl p)) (inr (inl q)) = one_words_fault fault other text p q
    by_reason (inr (inl p)) (inr (inr q)) = absurd (no_words_fault fault text q.words p q.spells q.valued)
    by_reason (inr (inr p)) (inr (inl q)) = absurd (no_words_fault other text p.words q p.spells p.valued)
    by_reason (inr (inr p)) (inr (inr q)) = one_lists_fault fault other text p q some_fault other_fault

-- a text with items has no fault but want of memory
pub no_fault_in_items : (text : List ℕ) (fault : TextFault) (items : List Placed) → TextStands fault text → HasItems text items → fault ≡ faults.Memory
no_fault_in_items text fault items stands has = by_reason (reason fault text stands)
  where
    by_reason : Reason fault text → fault ≡ faults.Memory
    by_reason (inl (inl memory)) = memory
    by_reason (inl (inr p)) = absurd (omega (arith, p.beyond, has.within))
    by_reason (inr (inl p)) = absurd (no_words_fault fault text has.words p has.spells has.valued)
    by_reason (inr (inr p)) = no_list_fault fault p.words items p.stands (items_form text p.words items p.spells has)

-- so where each answer is right, a text that has items is answered so
pub items_only : {V : Type 0} (answer : Result V TextFault) (items_of : V → List Placed) (text : List ℕ) (items : List Placed) → IfOk answer (λ v. HasItems text (items_of v)) → IfErr answer (λ fault. TextStands fault text)
    → HasItems text items → MatchResult answer (λ v. items_of v ≡ items) (λ fault. fault ≡ faults.Memory)
items_only (Ok v) items_of text items right first has = one_items text (items_of v) items right has
items_only (Err fault) items_of text items right first has = no_fault_in_items text fault items first has
