-- The class of a byte, and back.
use Rattle.std.proofs.Common.{◌≡◌, ℕ, Bool, true, false, cond, refl, ap, arith, inl, inr}
use Rattle.std.specs.Char.{is_ascii_digit, is_ascii_alphabetic, is_ascii_whitespace}
use Rattle.std.proofs.lemmas.Bool.Decides.{nat_tests}
use Rattle.std.specs.Prelude.{◌==◌, ◌||◌, ◌⊎◌, ◌≢◌, List, [], ◌∷◌}
use Rattle.std.proofs.lemmas.Bool.{cond_both, eqb-true, or_cases}
use Rattle.pddl_token.specs.declared.token.TokenKind.{TokenKind}
use Rattle.pddl_token.specs.declared.token.TokenKind.TheVariants.{Open, Close, Number, Dash, Equal, Bracket, Arithmetic}
use Rattle.pddl_token.specs.Words.{IsSpelling, MayFollow}
use Rattle.pddl_token.specs.Bytes.{is_word_byte}
use Rattle.pddl_scan.specs.Inner.ByteClass.{class_of, class_of_mark}
use Rattle.pddl_scan.specs.declared.bytes.ByteClass.{ByteClass}
use Rattle.pddl_scan.specs.declared.bytes.ByteClass.TheVariants.{Blank, Semicolon, Letter, Digit, Question, Colon, Angle, Lone, Other}

-- a blank has its class
pub class_of_blank : (b : ℕ) → is_ascii_whitespace b ≡ true → class_of b ≡ Blank
class_of_blank b e = rw e refl

-- a letter is no blank
pub letter_no_blank : (b : ℕ) → is_ascii_alphabetic b ≡ true → is_ascii_whitespace b ≡ false
letter_no_blank b e = grind (arith, nat_tests)

-- a digit is no blank
pub digit_no_blank : (b : ℕ) → is_ascii_digit b ≡ true → is_ascii_whitespace b ≡ false
digit_no_blank b e = grind (arith, nat_tests)

-- a digit is no letter
pub digit_no_letter : (b : ℕ) → is_ascii_digit b ≡ true → is_ascii_alphabetic b ≡ false
digit_no_letter b e = grind (arith, nat_tests)

-- a digit is a word byte
pub digit_is_word_byte : (b : ℕ) → is_ascii_digit b ≡ true → is_word_byte b ≡ true
digit_is_word_byte b e = grind (arith, nat_tests)

-- a letter has its class
pub class_of_letter : (b : ℕ) → is_ascii_alphabetic b ≡ true → class_of b ≡ Letter
class_of_letter b e = rw (letter_no_blank b e, e) refl

-- a digit has its class
pub class_of_digit : (b : ℕ) → is_ascii_digit b ≡ true → class_of b ≡ Digit
class_of_digit b e = rw (digit_no_blank b e, digit_no_letter b e, e) refl

-- what the class of a byte says of it
abbrev pub Says : ByteClass → ℕ → Type 0
Says Blank b = is_ascii_whitespace b ≡ true
Says Letter b = is_ascii_alphabetic b ≡ true
Says Digit b = is_ascii_digit b ≡ true
Says Semicolon b = b ≡ 59
Says Question b = b ≡ 63
Says Colon b = b ≡ 58
Says Angle b = (b ≡ 60) ⊎ (b ≡ 62)
Says (Lone kind) b = (kind ≢ Number) × IsSpelling kind (b ∷ []) × ((after : List ℕ) → MayFollow kind (b ∷ []) after)
Says Other b = Unit {0}

-- a byte that is one of two
either : (b m n : ℕ) → (b == m || b == n) ≡ true → (b ≡ m) ⊎ (b ≡ n)
either b m n e = elim (or_cases (b == m) (b == n) e) [ inl x ↦ inl (eqb-true b m x) | inr x ↦ inr (eqb-true b n x) ]

-- a byte that is compared is known
one_byte : (b m : ℕ) → (b == m) ≡ true → b ∷ [] ≡ m ∷ []
one_byte b m e = ap (λ (n : ℕ). n ∷ []) (eqb-true b m e)

-- a record, so that the steps below find their arguments
record IsClassOf (class : ByteClass) (b : ℕ) : Type 0 where
  says : Says class b

-- one test of a chain
step : (b : ℕ) (test : Bool) (x y : ByteClass) → (test ≡ true → Says x b) → IsClassOf y b → IsClassOf (cond test x y) b
step b test x y passes fails = cond_both test x y (λ class. IsClassOf class b) (λ e. record { says = passes e }) (λ _. fails)

-- a byte that is a word by itself
lone : (b m : ℕ) (kind : TokenKind) → kind ≢ Number → ((text : List ℕ) → text ≡ m ∷ [] → IsSpelling kind text) → ((after : List ℕ) → MayFollow kind (b ∷ []) after) → (b == m) ≡ true → Says (Lone kind) b
lone b m kind differs spelled follows e = (differs, spelled (b ∷ []) (one_byte b m e), follows)

-- `[` and `]`
bracket : (b : ℕ) → (b == 91 || b == 93) ≡ true → Says (Lone Bracket) b
bracket b e = ((λ e. absurd (cc e)), elim (or_cases (b == 91) (b == 93) e) [ inl x ↦ inl (one_byte b 91 x) | inr x ↦ inr (one_byte b 93 x) ], λ after. tt)

-- `+`, `*` and `/`
arithmetic : (b : ℕ) → (b == 43 || (b == 42 || b == 47)) ≡ true → Says (Lone Arithmetic) b
arithmetic b e = ((λ e. absurd (cc e)), elim (or_cases (b == 43) (b == 42 || b == 47) e) [ inl x ↦ inl (one_byte b 43 x) | inr x ↦ elim (or_cases (b == 42) (b == 47) x) [ inl y ↦ inr (inl (one_byte b 42 y)) | inr y ↦ inr (inr (one_byte b 47 y)) ] ], λ after. tt)

-- what the class says of a byte that is no blank, letter or digit
mark_says : (b : ℕ) → IsClassOf (class_of_mark b) b
mark_says b =
    step b (b == 59) Semicolon _ (eqb-true b 59)
    (step b (b == 63) Question _ (eqb-true b 63)
    (step b (b == 58) Colon _ (eqb-true b 58)
    (step b (b == 60 || b == 62) Angle _ (either b 60 62)
    (step b (b == 40) (Lone Open) _ (lone b 40 Open (λ e. absurd (cc e)) (λ text e. e) (λ after. tt))
    (step b (b == 41) (Lone Close) _ (lone b 41 Close (λ e. absurd (cc e)) (λ text e. e) (λ after. tt))
    (step b (b == 45) (Lone Dash) _ (lone b 45 Dash (λ e. absurd (cc e)) (λ text e. e) (λ after. tt))
    (step b (b == 61) (Lone Equal) _ (lone b 61 Equal (λ e. absurd (cc e)) (λ text e. e) (λ after. tt))
    (step b (b == 91 || b == 93) (Lone Bracket) _ (bracket b)
    (step b (b == 43 || (b == 42 || b == 47)) (Lone Arithmetic) _ (arithmetic b)
    (record { says = tt }))))))))))

-- what the class says of any byte
pub class_says : (b : ℕ) → Says (class_of b) b
class_says b =
    (step b (is_ascii_whitespace b) Blank _ (λ e. e)
    (step b (is_ascii_alphabetic b) Letter _ (λ e. e)
    (step b (is_ascii_digit b) Digit _ (λ e. e)
    (mark_says b)))).says
