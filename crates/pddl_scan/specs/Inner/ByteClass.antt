-- What a byte can begin. No public contract names these.
use Rattle.std.specs.Prelude.{ℕ, ◌==◌, ◌||◌, if◌then◌else◌}
use Rattle.std.specs.Char.{is_ascii_digit, is_ascii_alphabetic, is_ascii_whitespace}
use Rattle.pddl_scan.specs.declared.bytes.ByteClass.{ByteClass}
use Rattle.pddl_scan.specs.declared.bytes.ByteClass.TheVariants.{Blank, Semicolon, Letter, Digit, Question, Colon, Angle, Lone, Other}
use Rattle.pddl_token.specs.declared.token.TokenKind.TheVariants as kinds

-- of a byte that is no blank, letter or digit
abbrev pub class_of_mark : ℕ → ByteClass
class_of_mark b =
    if b == 59 then Semicolon
    else (if b == 63 then Question
    else (if b == 58 then Colon
    else (if b == 60 || b == 62 then Angle
    else (if b == 40 then Lone kinds.Open
    else (if b == 41 then Lone kinds.Close
    else (if b == 45 then Lone kinds.Dash
    else (if b == 61 then Lone kinds.Equal
    else (if b == 91 || b == 93 then Lone kinds.Bracket
    else (if b == 43 || (b == 42 || b == 47) then Lone kinds.Arithmetic
    else Other)))))))))

-- of any byte
abbrev pub class_of : ℕ → ByteClass
class_of b =
    if is_ascii_whitespace b then Blank
    else (if is_ascii_alphabetic b then Letter
    else (if is_ascii_digit b then Digit
    else class_of_mark b))
