-- The line of a refused file is one.
use Rattle.std.proofs.Common.{◌≡◌, ℕ, ◌+◌, List, [], ◌∷◌, ◌++◌, length, take, refl, sym, ap, subst, ◌∙◌, append_assoc, arith, inl, inr, cond}
use Rattle.std.specs.Prelude.{codes, Bool, true, false, not, Option, Some, None, ◌==◌}
use Rattle.std.specs.List.{AllPass, fold}
use Rattle.std.specs.Fmt.{decimal}
use Rattle.std.proofs.lemmas.List.Sums.{fold-append}
use Rattle.std.proofs.lemmas.List.Elements.{All-head, All-tail}
use Rattle.pddl_token.specs.Bytes.{is_line_byte}
use Rattle.pddl_text.specs.declared.place.Pos.{Pos}
use Rattle.pddl_text.specs.Positions.{AreLines, IsBehind}
use Rattle.pddl_file_lines.specs.Inner.Faults.{shown_position}
use Rattle.pddl_file_lines.specs.Lines.{IsPlaceShown, IsPosition, IsFaultLine}

-- the same line, its pieces under other names
pub line_of : (word told text name other : List ℕ) (place at : Option ℕ) (line : List ℕ) → word ≡ told → name ≡ other → place ≡ at
    → IsFaultLine word text name place line → IsFaultLine told text other at line
line_of word told text name other place at line words names places is =
    subst (λ w. IsFaultLine w text other at line) words (subst (λ n. IsFaultLine word text n at line) names (subst (λ p. IsFaultLine word text name p line) places is))

-- what is shown of the position of a place is the place shown
shown_at : (text : List ℕ) (place : Option ℕ) (pos : Option Pos) → IsPosition text place pos → IsPlaceShown text place (shown_position pos)
shown_at text None None at = refl
shown_at text (Some place) (Some pos) behind = (pos, behind, refl)
shown_at text None (Some pos) bad = absurd bad
shown_at text (Some place) None bad = absurd bad

pub line_at : (word text name : List ℕ) (place : Option ℕ) (pos : Option Pos) (line : List ℕ) → IsPosition text place pos
    → line ≡ word ++ (codes ": fault " ++ (name ++ (shown_position pos ++ codes "\n"))) → IsFaultLine word text name place line
line_at word text name place pos line at is = record { shown = shown_position pos; place_is = shown_at text place pos at; line_is = is }

-- ---- one position

-- how many bytes stand since the last LF
abbrev since : ℕ → ℕ → ℕ
since n b = cond (b == 10) 0 (n + 1)

not_false : (b : Bool) → not b ≡ true → b ≡ false
not_false true e = absurd (cc (e))
not_false false e = refl

on_line : (bytes : List ℕ) (n : ℕ) → AllPass is_line_byte bytes → fold since n bytes ≡ n + length bytes
on_line [] n all = omega arith
on_line (b ∷ bytes) n all =
    let here = All-head (λ x. is_line_byte x ≡ true) b bytes all in
    let other : (b == 10) ≡ false = not_false (b == 10) here in
    ap (λ t. fold since (cond t 0 (n + 1)) bytes) other ∙ on_line bytes (n + 1) (All-tail (λ x. is_line_byte x ≡ true) b bytes all) ∙ omega arith

behind_lines : (lines : List ℕ) → AreLines lines → fold since 0 lines ≡ 0
behind_lines lines (inl none) = ap (fold since 0) none
behind_lines lines (inr (before, is)) = ap (fold since 0) is ∙ fold-append since 0 before (10 ∷ [])

col_since : (bytes : List ℕ) (pos : Pos) (at : IsBehind bytes pos) → pos.col ≡ 1 + fold since 0 bytes
col_since bytes pos at =
    let count = ap (fold since 0) at.bytes_are ∙ fold-append since 0 at.lines at.beginning ∙ ap (λ (n : ℕ). fold since n at.beginning) (behind_lines at.lines at.are_lines) ∙ on_line at.beginning 0 at.one_line in
    omega (arith, at.col_is, count)

one_position : (bytes : List ℕ) (pos other : Pos) → IsBehind bytes pos → IsBehind bytes other → (pos.line ≡ other.line) × (pos.col ≡ other.col)
one_position bytes pos other p q = (p.line_is ∙ sym q.line_is, col_since bytes pos p ∙ sym (col_since bytes other q))

-- ---- one line

one_shown : (text : List ℕ) (place : Option ℕ) (shown other : List ℕ) → IsPlaceShown text place shown → IsPlaceShown text place other → shown ≡ other
one_shown text None shown other p q = p ∙ sym q
one_shown text (Some at) shown other (pos, behind, is) (more, back, are) =
    let same = one_position (take at text) pos more behind back in
    is ∙ ap (λ (n : ℕ). codes " at " ++ (decimal n ++ (codes ":" ++ decimal pos.col))) same.0 ∙ ap (λ (n : ℕ). codes " at " ++ (decimal more.line ++ (codes ":" ++ decimal n))) same.1 ∙ sym are

pub one_line : (word text name other : List ℕ) (place at : Option ℕ) (line more : List ℕ) → name ≡ other → place ≡ at
    → IsFaultLine word text name place line → IsFaultLine word text other at more → line ≡ more
one_line word text name other place at line more names places p q =
    let shown = one_shown text at p.shown q.shown (subst (λ here. IsPlaceShown text here p.shown) places p.place_is) q.place_is in
    p.line_is ∙ ap (λ (t : List ℕ). word ++ (codes ": fault " ++ (t ++ (p.shown ++ codes "\n")))) names
    ∙ ap (λ (t : List ℕ). word ++ (codes ": fault " ++ (other ++ (t ++ codes "\n")))) shown ∙ sym q.line_is

-- five pieces are added to nothing
pub five_pieces : (empty one two three four five a b c d e : List ℕ) → empty ≡ [] → one ≡ empty ++ a → two ≡ one ++ b → three ≡ two ++ c → four ≡ three ++ d → five ≡ four ++ e
    → five ≡ a ++ (b ++ (c ++ (d ++ e)))
five_pieces empty one two three four five a b c d e none one_is two_is three_is four_is five_is =
    five_is
    ∙ ap (λ (t : List ℕ). t ++ e) (four_is ∙ ap (λ (t : List ℕ). t ++ d) (three_is ∙ ap (λ (t : List ℕ). t ++ c) (two_is ∙ ap (λ (t : List ℕ). t ++ b) (one_is ∙ ap (λ (t : List ℕ). t ++ a) none))))
    ∙ append_assoc ((a ++ b) ++ c) d e
    ∙ append_assoc (a ++ b) c (d ++ e)
    ∙ append_assoc a b (c ++ (d ++ e))
