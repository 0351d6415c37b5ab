-- The part that a text begins with, as a function of the text: so at most one part fits.
use Rattle.std.proofs.Common.{◌≡◌, ℕ, ◌+◌, true, false, cond, List, [], ◌∷◌, ◌++◌, length, take, drop, refl, sym, ap, ◌∙◌, arith, inl, inr}
use Rattle.std.specs.Prelude.{◌==◌, ◌⊎◌}
use Rattle.std.specs.List.{AllPass, prefix_len}
use Rattle.std.specs.Char.{is_ascii_alphabetic}
use Rattle.std.proofs.lemmas.List.{append_assoc, take_at, length-append}
use Rattle.std.proofs.lemmas.List.Elements.{All-cons}
use Rattle.pddl_token.specs.declared.token.TokenKind.{TokenKind}
use Rattle.pddl_token.specs.declared.token.TokenKind.TheVariants.{Open, Close, Name, Variable, Keyword, Number, Dash, Equal, Colon, Bracket, Compare, Arithmetic}
use Rattle.pddl_scan.specs.declared.bytes.ByteClass.{ByteClass}
use Rattle.pddl_scan.specs.declared.bytes.ByteClass.TheVariants as classes
use Rattle.pddl_token.specs.Bytes.{is_line_byte, is_word_byte, begins}
use Rattle.pddl_scan.specs.Inner.ByteClass.{class_of}
use Rattle.pddl_token.specs.Words.{IsName, IsNumber, IsSpelling, MayFollow}
use Rattle.pddl_token.specs.Spelling.{Part, gap, word, spelling, IsBlank, IsComment, IsPart}
use Rattle.pddl_scan.specs.Inner.Reading.{number_len}
use Rattle.pddl_token.proofs.Runs.{run_len}
use Rattle.pddl_scan.proofs.Numbers.{number_nonempty, number_begins, number_len_is, ends_number}
use Rattle.pddl_token.proofs.FrontNames.{letter_is_word_byte}
use Rattle.pddl_scan.proofs.Classes.{class_of_blank, class_of_letter, class_of_digit}

-- the word in the first bytes
abbrev pub taken : TokenKind → ℕ → List ℕ → Part
taken kind len text = word (record { kind = kind; text = take len text })

-- the first part by the class of its first byte
abbrev pub part_by : ByteClass → List ℕ → Part
part_by classes.Blank text = gap (take 1 text)
part_by classes.Semicolon text = gap (take (prefix_len is_line_byte text + 1) text)
part_by classes.Letter text = taken Name (prefix_len is_word_byte text) text
part_by classes.Digit text = taken Number (number_len text) text
part_by classes.Question text = taken Variable (1 + prefix_len is_word_byte (drop 1 text)) text
part_by classes.Colon text = cond (begins is_ascii_alphabetic (drop 1 text)) (taken Keyword (1 + prefix_len is_word_byte (drop 1 text)) text) (taken Colon 1 text)
part_by classes.Angle text = cond (begins (λ b. b == 61) (drop 1 text)) (taken Compare 2 text) (taken Compare 1 text)
part_by (classes.Lone kind) text = taken kind 1 text
part_by classes.Other text = gap []

-- the part that stands at the front, if one does
abbrev pub first_part : List ℕ → Part
first_part [] = gap []
first_part (b ∷ bytes) = part_by (class_of b) (b ∷ bytes)

-- a word at the front is taken whole
taken_is : (kind : TokenKind) (len : ℕ) (text after : List ℕ) → len ≡ length text → taken kind len (text ++ after) ≡ word (record { kind = kind; text = text })
taken_is kind len text after e = ap (λ (t : List ℕ). word (record { kind = kind; text = t })) (take_at text after len (sym e))

-- a gap at the front is taken whole
gap_is : (len : ℕ) (text after : List ℕ) → len ≡ length text → gap (take len (text ++ after)) ≡ gap text
gap_is len text after e = ap gap (take_at text after len (sym e))

-- ---- names

-- a name runs to its end
name_run : (b : ℕ) (bytes after : List ℕ) → IsName (b ∷ bytes) → begins is_word_byte after ≡ false → prefix_len is_word_byte (b ∷ bytes ++ after) ≡ length (b ∷ bytes)
name_run b bytes after name stops = run_len is_word_byte (b ∷ bytes) after (All-cons (λ x. is_word_byte x ≡ true) b bytes (letter_is_word_byte b name.0) name.1) stops

-- a name is the first part
name_first : (text after : List ℕ) → IsName text → begins is_word_byte after ≡ false → first_part (text ++ after) ≡ word (record { kind = Name; text = text })
name_first [] after name stops = absurd name
name_first (b ∷ bytes) after name stops = ap (λ c. part_by c (b ∷ bytes ++ after)) (class_of_letter b name.0) ∙ taken_is Name _ (b ∷ bytes) after (name_run b bytes after name stops)

-- a name begins with a letter
name_begins : (text after : List ℕ) → IsName text → begins is_ascii_alphabetic (text ++ after) ≡ true
name_begins [] after name = absurd name
name_begins (b ∷ bytes) after name = name.0

-- a mark and a name run to their end
marked_run : (mark : ℕ) (name after : List ℕ) → IsName name → begins is_word_byte after ≡ false → 1 + prefix_len is_word_byte (name ++ after) ≡ length (mark ∷ name)
marked_run mark [] after is_name stops = absurd is_name
marked_run mark (b ∷ bytes) after is_name stops = omega (arith, name_run b bytes after is_name stops)

-- a variable is the first part
variable_first : (name after : List ℕ) → IsName name → begins is_word_byte after ≡ false → first_part (63 ∷ name ++ after) ≡ word (record { kind = Variable; text = 63 ∷ name })
variable_first name after is_name stops = taken_is Variable _ (63 ∷ name) after (marked_run 63 name after is_name stops)

-- a keyword is the first part
keyword_first : (name after : List ℕ) → IsName name → begins is_word_byte after ≡ false → first_part (58 ∷ name ++ after) ≡ word (record { kind = Keyword; text = 58 ∷ name })
keyword_first name after is_name stops = rw (name_begins name after is_name) (taken_is Keyword _ (58 ∷ name) after (marked_run 58 name after is_name stops))

-- ---- comments

-- a comment runs to its LF
comment_run : (bytes after : List ℕ) → AllPass is_line_byte bytes → prefix_len is_line_byte (59 ∷ bytes ++ 10 ∷ after) + 1 ≡ length (59 ∷ bytes ++ 10 ∷ [])
comment_run bytes after all =
    let run = run_len is_line_byte (59 ∷ bytes) (10 ∷ after) (All-cons (λ x. is_line_byte x ≡ true) 59 bytes refl all) refl in
    omega (arith, run, length-append bytes (10 ∷ []))

-- a gap is the first part
gap_first : (text after : List ℕ) → IsBlank text ⊎ IsComment text → first_part (text ++ after) ≡ gap text
gap_first text after (inl blank) = rw blank.2 (ap (λ c. part_by c (blank.0 ∷ after)) (class_of_blank blank.0 blank.1))
gap_first text after (inr comment) =
    let bytes = comment.0 in
    rw comment.2 (gap_is _ (59 ∷ bytes ++ 10 ∷ []) after (ap (λ (t : List ℕ). prefix_len is_line_byte (59 ∷ t) + 1) (append_assoc bytes (10 ∷ []) after) ∙ comment_run bytes after comment.1))

-- ---- numbers and marks

-- a number is the first part
number_first : (text after : List ℕ) → IsNumber text → MayFollow Number text after → first_part (text ++ after) ≡ word (record { kind = Number; text = text })
number_first [] after number follows = absurd (omega (arith, number_nonempty [] number))
number_first (b ∷ bytes) after number follows =
    ap (λ c. part_by c (b ∷ bytes ++ after)) (class_of_digit b (number_begins (b ∷ bytes) number))
    ∙ taken_is Number _ (b ∷ bytes) after (number_len_is (b ∷ bytes) after number (ends_number (b ∷ bytes) after follows))

-- a comparison is the first part
angle_first : (text after : List ℕ) → IsSpelling Compare text → MayFollow Compare text after → first_part (text ++ after) ≡ word (record { kind = Compare; text = text })
angle_first text after (inl (inl e)) follows = let stops = follows (ap (λ (t : List ℕ). length t) e) in rw (e, stops) refl
angle_first text after (inl (inr e)) follows = let stops = follows (ap (λ (t : List ℕ). length t) e) in rw (e, stops) refl
angle_first text after (inr (inl e)) follows = rw e refl
angle_first text after (inr (inr e)) follows = rw e refl

-- a word of any kind is the first part
word_first : (kind : TokenKind) (text after : List ℕ) → IsSpelling kind text → MayFollow kind text after → first_part (text ++ after) ≡ word (record { kind = kind; text = text })
word_first Open text after e follows = rw e refl
word_first Close text after e follows = rw e refl
word_first Name text after name follows = name_first text after name follows
word_first Variable text after marked follows = rw marked.2 (variable_first marked.0 after marked.1 follows)
word_first Keyword text after marked follows = rw marked.2 (keyword_first marked.0 after marked.1 follows)
word_first Number text after number follows = number_first text after number follows
word_first Dash text after e follows = rw e refl
word_first Equal text after e follows = rw e refl
word_first Colon text after e follows = rw (e, follows) refl
word_first Bracket text after (inl e) follows = rw e refl
word_first Bracket text after (inr e) follows = rw e refl
word_first Compare text after spelled follows = angle_first text after spelled follows
word_first Arithmetic text after (inl e) follows = rw e refl
word_first Arithmetic text after (inr (inl e)) follows = rw e refl
word_first Arithmetic text after (inr (inr e)) follows = rw e refl

-- a part that stands there is the first part
pub part_first : (part : Part) (after : List ℕ) → IsPart part after → first_part (spelling part ++ after) ≡ part
part_first (gap text) after is_gap = gap_first text after is_gap
part_first (word w) after is_word = word_first w.kind w.text after is_word.0 is_word.1
