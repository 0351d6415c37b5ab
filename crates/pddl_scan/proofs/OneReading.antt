-- A text has at most one reading.
use Rattle.std.proofs.Common.{◌≡◌, ℕ, ◌≤◌, ◌<◌, Bool, true, false, List, [], ◌∷◌, ◌++◌, length, take, drop, refl, sym, ap, subst, ◌∙◌, arith, inl, inr}
use Rattle.std.specs.Prelude.{◌==◌, ◌||◌, IsSome, IsNone, Option, Some, None}
use Rattle.std.specs.List.{flat_map}
use Rattle.std.specs.Char.{is_ascii_digit, is_ascii_whitespace}
use Rattle.std.proofs.lemmas.Bool.{or_left}
use Rattle.std.proofs.lemmas.List.{append_assoc, append_cancel_left, take_at, drop_at, length-append}
use Rattle.pddl_token.specs.declared.token.TokenKind.{TokenKind}
use Rattle.pddl_token.specs.declared.token.TokenKind.TheVariants.{Open, Close, Name, Variable, Keyword, Number, Dash, Equal, Colon, Bracket, Compare, Arithmetic}
use Rattle.pddl_token.specs.Bytes.{is_word_byte, begins}
use Rattle.pddl_token.specs.Words.{IsNumber, IsSpelling, MayFollow}
use Rattle.pddl_token.specs.Spelling.{Word, Part, gap, word, spelling, IsPart, InTurn}
use Rattle.pddl_token.specs.Number.{value_of}
use Rattle.pddl_scan.specs.Faults.{IsStray, IsLongestNumber, IsFaulty, IsValued}
use Rattle.pddl_scan.specs.Inner.Reading.{number_len}
use Rattle.pddl_scan.proofs.Numbers.{EndsNumber, ends_number, number_nonempty, number_begins, number_len_is, number_len_ge}
use Rattle.pddl_scan.proofs.Classes.{class_of_digit}
use Rattle.pddl_scan.proofs.FirstPart.{first_part, part_by, taken, part_first}

-- two parts at the front of one text are one
pub one_part : (p q : Part) (a b : List ℕ) → IsPart p a → IsPart q b → spelling p ++ a ≡ spelling q ++ b → p ≡ q
one_part p q a b at_p at_q same = sym (part_first p a at_p) ∙ ap first_part same ∙ part_first q b at_q

-- one length for one text
length_of : (text other : List ℕ) → text ≡ other → length text ≡ length other
length_of text other e = ap (λ (t : List ℕ). length t) e

-- a word has a byte
word_nonempty : (kind : TokenKind) (text : List ℕ) → IsSpelling kind text → 0 < length text
word_nonempty Open text e = omega (arith, length_of text (40 ∷ []) e)
word_nonempty Close text e = omega (arith, length_of text (41 ∷ []) e)
word_nonempty Name [] name = absurd name
word_nonempty Name (b ∷ text) name = omega arith
word_nonempty Variable text marked = omega (arith, length_of text (63 ∷ marked.0) marked.2)
word_nonempty Keyword text marked = omega (arith, length_of text (58 ∷ marked.0) marked.2)
word_nonempty Number text number = number_nonempty text number
word_nonempty Dash text e = omega (arith, length_of text (45 ∷ []) e)
word_nonempty Equal text e = omega (arith, length_of text (61 ∷ []) e)
word_nonempty Colon text e = omega (arith, length_of text (58 ∷ []) e)
word_nonempty Bracket text (inl e) = omega (arith, length_of text (91 ∷ []) e)
word_nonempty Bracket text (inr e) = omega (arith, length_of text (93 ∷ []) e)
word_nonempty Compare text (inl (inl e)) = omega (arith, length_of text (60 ∷ []) e)
word_nonempty Compare text (inl (inr e)) = omega (arith, length_of text (62 ∷ []) e)
word_nonempty Compare text (inr (inl e)) = omega (arith, length_of text (60 ∷ 61 ∷ []) e)
word_nonempty Compare text (inr (inr e)) = omega (arith, length_of text (62 ∷ 61 ∷ []) e)
word_nonempty Arithmetic text (inl e) = omega (arith, length_of text (43 ∷ []) e)
word_nonempty Arithmetic text (inr (inl e)) = omega (arith, length_of text (42 ∷ []) e)
word_nonempty Arithmetic text (inr (inr e)) = omega (arith, length_of text (47 ∷ []) e)

-- a part has a byte
pub part_nonempty : (part : Part) (after : List ℕ) → IsPart part after → 0 < length (spelling part)
part_nonempty (gap text) after (inl blank) = omega (arith, length_of text (blank.0 ∷ []) blank.2)
part_nonempty (gap text) after (inr comment) = omega (arith, length_of text (59 ∷ (comment.0 ++ 10 ∷ [])) comment.2)
part_nonempty (word w) after is_word = word_nonempty w.kind w.text is_word.0

-- the bytes of the parts
abbrev pub text_of : List Part → List ℕ
text_of parts = flat_map spelling parts

-- a longer reading of one text goes on from the shorter
pub record Continues (shorter longer : List Part) (a b : List ℕ) : Type 0 where
  pub more : List Part
  pub in_turn : InTurn more b
  pub parts_are : longer ≡ shorter ++ more
  pub after_is : a ≡ text_of more ++ b

-- of two readings of one text the longer goes on from the shorter
pub continues : (ps qs : List Part) (a b : List ℕ) → InTurn ps a → InTurn qs b → text_of ps ++ a ≡ text_of qs ++ b → length (text_of ps) ≤ length (text_of qs) → Continues ps qs a b
continues [] qs a b at_p at_q same le = record { more = qs; in_turn = at_q; parts_are = refl; after_is = same }
continues (p ∷ ps) [] a b at_p at_q same le = absurd (omega (arith, part_nonempty p (text_of ps ++ a) at_p.0, length-append (spelling p) (text_of ps)))
continues (p ∷ ps) (q ∷ qs) a b at_p at_q same le =
    let regrouped : spelling p ++ (text_of ps ++ a) ≡ spelling q ++ (text_of qs ++ b) = sym (append_assoc (spelling p) (text_of ps) a) ∙ same ∙ append_assoc (spelling q) (text_of qs) b in
    let one : p ≡ q = one_part p q _ _ at_p.0 at_q.0 regrouped in
    let len : length (spelling p) ≡ length (spelling q) = ap (λ (x : Part). length (spelling x)) one in
    let rest : text_of ps ++ a ≡ text_of qs ++ b = append_cancel_left (spelling p) _ _ (regrouped ∙ ap (λ (x : Part). spelling x ++ (text_of qs ++ b)) (sym one)) in
    let on = continues ps qs a b at_p.1 at_q.1 rest (omega (arith, length-append (spelling p) (text_of ps), length-append (spelling q) (text_of qs))) in
    record { more = on.more; in_turn = on.in_turn; parts_are = cc (one, on.parts_are); after_is = on.after_is }

-- ---- a part that stands at the front is no fault

-- at a digit the first part is a number
number_part : (rest : List ℕ) → begins is_ascii_digit rest ≡ true → first_part rest ≡ taken Number (number_len rest) rest
number_part [] digit = absurd cc
number_part (b ∷ bytes) digit = ap (λ c. part_by c (b ∷ bytes)) (class_of_digit b digit)

-- the longest number is the one that nothing goes on
longest_is : (number after text more rest : List ℕ) → IsLongestNumber number after rest → IsNumber text → EndsNumber text more → rest ≡ text ++ more → (number ≡ text) × (after ≡ more)
longest_is number after text more rest longest is_number ends rest_is =
    let len : length number ≡ length text = omega (arith, longest.longest text more is_number rest_is, number_len_ge number after longest.is_number, ap number_len longest.rest_is, ap number_len rest_is, number_len_is text more is_number ends) in
    let same : number ++ after ≡ text ++ more = sym longest.rest_is ∙ rest_is in (
      sym (take_at number after (length text) len) ∙ ap (take (length text)) same ∙ take_at text more (length text) refl,
      sym (drop_at number after (length text) len) ∙ ap (drop (length text)) same ∙ drop_at text more (length text) refl,
    )

-- what begins goes on beginning, more bytes following
begins_more : (test : ℕ → Bool) (text after : List ℕ) → begins test text ≡ true → begins test (text ++ after) ≡ true
begins_more test [] after begun = absurd cc
begins_more test (b ∷ text) after begun = begun

-- where a number begins, the part that stands there is the longest one
record IsTheNumber (part : Part) (after number more : List ℕ) : Type 0 where
  w : Word
  part_is : part ≡ word w
  kind_is : w.kind ≡ Number
  number_is : number ≡ w.text
  more_is : more ≡ after
  not_glued : begins is_word_byte after ≡ false

-- the part at a number is the longest number
is_the_number : (part : Part) (after number more rest : List ℕ) → IsPart part after → rest ≡ spelling part ++ after → IsLongestNumber number more rest → IsTheNumber part after number more
is_the_number part after number more rest at_part rest_is longest =
    let digit : begins is_ascii_digit rest ≡ true = ap (begins is_ascii_digit) longest.rest_is ∙ begins_more is_ascii_digit number more (number_begins number longest.is_number) in
    let read : part ≡ taken Number (number_len rest) rest = sym (part_first part after at_part) ∙ ap first_part (sym rest_is) ∙ number_part rest digit in
    by_part part at_part rest_is read
  where
    by_part : (part : Part) → IsPart part after → rest ≡ spelling part ++ after → part ≡ taken Number (number_len rest) rest → IsTheNumber part after number more
    by_part (gap text) at_part rest_is read = absurd (cc read)
    by_part (word w) at_part rest_is read =
        let w_is : w ≡ record { kind = Number; text = take (number_len rest) rest } = cc read in
        let kind_is : w.kind ≡ Number = ap (λ (x : Word). x.kind) w_is in
        let is_number : IsNumber w.text = subst (λ k. IsSpelling k w.text) kind_is at_part.0 in
        let follows : MayFollow Number w.text after = subst (λ k. MayFollow k w.text after) kind_is at_part.1 in
        let same = longest_is number more w.text after rest longest is_number (ends_number w.text after follows) rest_is in
        record { w = w; part_is = refl; kind_is = kind_is; number_is = same.0; more_is = same.1; not_glued = follows.0 }

-- the number in a part has a value
abbrev pub IsValuedPart : Part → Type 0
IsValuedPart (gap text) = Unit {0}
IsValuedPart (word w) = IsValued w.kind w.text

-- where a part stands, no byte is stray
no_stray : (part : Part) (after rest : List ℕ) → IsPart part after → rest ≡ spelling part ++ after → IsStray rest → ⊥
no_stray (word w) after rest at_part rest_is stray = stray.no_word w.kind w.text after at_part.0 rest_is
no_stray (gap text) after rest (inl blank) rest_is stray =
    let begun = ap (begins (λ b. is_ascii_whitespace b || (b == 59))) (rest_is ∙ ap (λ (t : List ℕ). t ++ after) blank.2) in
    absurd (cc (begun, stray.no_gap, or_left (is_ascii_whitespace blank.0) (blank.0 == 59) blank.1))
no_stray (gap text) after rest (inr comment) rest_is stray =
    let begun = ap (begins (λ b. is_ascii_whitespace b || (b == 59))) (rest_is ∙ ap (λ (t : List ℕ). t ++ after) comment.2) in
    absurd (cc (begun, stray.no_gap))

-- where a valued part stands, no fault does
pub no_fault : (part : Part) (after rest : List ℕ) → IsPart part after → IsValuedPart part → rest ≡ spelling part ++ after → IsFaulty rest → ⊥
no_fault part after rest at_part valued rest_is (inl stray) = no_stray part after rest at_part rest_is stray
no_fault part after rest at_part valued rest_is (inr (inl glued)) =
    let it = is_the_number part after glued.number glued.after rest at_part rest_is glued.longest in
    absurd (cc (glued.word_byte, it.not_glued, it.more_is))
no_fault part after rest at_part valued rest_is (inr (inr out)) =
    let it = is_the_number part after out.number out.after rest at_part rest_is out.longest in
    let is_valued : IsValued it.w.kind it.w.text = subst IsValuedPart it.part_is valued in
    let some : IsSome (value_of out.number) = rw it.number_is (is_valued it.kind_is) in
    none_or_some (value_of out.number) out.no_value some
  where
    none_or_some : (o : Option ℕ) → IsNone o → IsSome o → ⊥
    none_or_some None none some = absurd (cc some)
    none_or_some (Some n) none some = absurd (cc none)
