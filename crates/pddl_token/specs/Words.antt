-- The words of a text: their spellings (Kovacs, BNF definition of PDDL 3.1; that a keyword is one word is own), and what
-- may stand directly after each (own).
use Rattle.std.specs.Prelude.{◌≡◌, ℕ, ◌<◌, ◌⊎◌, false, true, List, [], ◌∷◌, ◌++◌, length, codes, ◌==◌}
use Rattle.std.specs.List.{AllPass}
use Rattle.std.specs.Char.{is_ascii_digit, is_ascii_alphabetic}
use Rattle.pddl_token.specs.Bytes.{is_word_byte, begins, begins_decimals}
use Rattle.pddl_token.specs.declared.token.TokenKind.{TokenKind}
use Rattle.pddl_token.specs.declared.token.TokenKind.TheVariants.{Open, Close, Name, Variable, Keyword, Number, Dash, Equal, Colon, Bracket, Compare, Arithmetic}

-- a letter, then word bytes
abbrev pub IsName : List ℕ → Type 0
IsName [] = ⊥
IsName (b ∷ bytes) = (is_ascii_alphabetic b ≡ true) × AllPass is_word_byte bytes

-- a mark, then a name
abbrev pub IsMarkedName : List ℕ → List ℕ → Type 0
IsMarkedName mark text = (name : List ℕ) × IsName name × (text ≡ mark ++ name)

-- one digit or more
abbrev pub IsDigits : List ℕ → Type 0
IsDigits text = (0 < length text) × AllPass is_ascii_digit text

-- digits, a point and digits
abbrev pub IsDecimal : List ℕ → Type 0
IsDecimal text = (whole : List ℕ) × (decimals : List ℕ) × IsDigits whole × IsDigits decimals × (text ≡ whole ++ (codes "." ++ decimals))

-- digits, or digits with decimals
abbrev pub IsNumber : List ℕ → Type 0
IsNumber text = IsDigits text ⊎ IsDecimal text

-- a word of this kind is spelled so
abbrev pub IsSpelling : TokenKind → List ℕ → Type 0
IsSpelling Open text = text ≡ codes "("
IsSpelling Close text = text ≡ codes ")"
IsSpelling Name text = IsName text
IsSpelling Variable text = IsMarkedName (codes "?") text
IsSpelling Keyword text = IsMarkedName (codes ":") text
IsSpelling Number text = IsNumber text
IsSpelling Dash text = text ≡ codes "-"
IsSpelling Equal text = text ≡ codes "="
IsSpelling Colon text = text ≡ codes ":"
IsSpelling Bracket text = (text ≡ codes "[") ⊎ (text ≡ codes "]")
IsSpelling Compare text = ((text ≡ codes "<") ⊎ (text ≡ codes ">")) ⊎ ((text ≡ codes "<=") ⊎ (text ≡ codes ">="))
IsSpelling Arithmetic text = (text ≡ codes "+") ⊎ ((text ≡ codes "*") ⊎ (text ≡ codes "/"))

-- what may stand directly after a word
abbrev pub MayFollow : TokenKind → List ℕ → List ℕ → Type 0
MayFollow Name text after = begins is_word_byte after ≡ false
MayFollow Variable text after = begins is_word_byte after ≡ false
MayFollow Keyword text after = begins is_word_byte after ≡ false
-- a number without a point isn't followed by a point and a digit
MayFollow Number text after = (begins is_word_byte after ≡ false) × (IsDigits text → begins_decimals after ≡ false)
MayFollow Colon text after = begins is_ascii_alphabetic after ≡ false
-- `<` and `>` aren't followed by `=`
MayFollow Compare text after = length text ≡ 1 → begins (λ b. b == 61) after ≡ false
MayFollow Open text after = Unit {0}
MayFollow Close text after = Unit {0}
MayFollow Dash text after = Unit {0}
MayFollow Equal text after = Unit {0}
MayFollow Bracket text after = Unit {0}
MayFollow Arithmetic text after = Unit {0}
