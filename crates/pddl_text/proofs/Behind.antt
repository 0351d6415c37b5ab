-- The position one byte further.
use Rattle.std.proofs.Common.{◌≡◌, ℕ, ◌+◌, ◌≤◌, ◌<◌, true, false, cond, List, [], ◌∷◌, ◌++◌, length, take, get_or, refl, sym, ap, ◌∙◌, arith, inl, inr}
use Rattle.std.specs.Prelude.{◌==◌, not}
use Rattle.std.specs.List.{count_by}
use Rattle.std.proofs.lemmas.List.{append_assoc, append-nil, length-append, take_more}
use Rattle.std.proofs.lemmas.List.Sums.{sum_by-append}
use Rattle.std.proofs.lemmas.Bool.Decides.{nat_tests}
use Rattle.std.proofs.lemmas.List.Elements.{All-nil, All-push}
use Rattle.pddl_text.specs.declared.place.Pos.{Pos}
use Rattle.pddl_token.specs.Bytes.{is_line_byte}
use Rattle.pddl_text.specs.Positions.{IsBehind}

-- the position behind these bytes, and the beginning of its line
pub record Stands (bytes : List ℕ) (pos : Pos) : Type 0 where
  pub behind : IsBehind bytes pos
  pub small : pos.line + pos.col ≤ length bytes + 2

-- the position before all bytes
pub at_start : Stands [] (record { line = 1; col = 1 })
at_start = record {
  behind = record { lines = []; beginning = []; bytes_are = refl; are_lines = inl refl; one_line = All-nil (λ x. is_line_byte x ≡ true); line_is = refl; col_is = refl };
  small = omega arith;
}

-- LFs are counted byte by byte
count_more : (bytes : List ℕ) (b : ℕ) → count_by (λ x. x == 10) (bytes ++ b ∷ []) ≡ count_by (λ x. x == 10) bytes + count_by (λ x. x == 10) (b ∷ [])
count_more bytes b = sum_by-append (λ (x : ℕ). cond (x == 10) 1 0) bytes (b ∷ [])

-- an LF begins a line
pub line_end : (bytes : List ℕ) (pos : Pos) → Stands bytes pos → Stands (bytes ++ 10 ∷ []) (record { line = pos.line + 1; col = 1 })
line_end bytes pos stands = record {
  behind = record {
    lines = bytes ++ 10 ∷ [];
    beginning = [];
    bytes_are = sym (append-nil (bytes ++ 10 ∷ []));
    are_lines = inr (bytes, refl);
    one_line = All-nil (λ x. is_line_byte x ≡ true);
    line_is = omega (arith, stands.behind.line_is, count_more bytes 10);
    col_is = refl;
  };
  small = omega (arith, stands.small, stands.behind.col_is, length-append bytes (10 ∷ []));
}

-- another byte goes on with the line
pub line_goes_on : (bytes : List ℕ) (pos : Pos) (b : ℕ) → (b == 10) ≡ false → Stands bytes pos → Stands (bytes ++ b ∷ []) (record { line = pos.line; col = pos.col + 1 })
line_goes_on bytes pos b other stands = record {
  behind = record {
    lines = stands.behind.lines;
    beginning = stands.behind.beginning ++ b ∷ [];
    bytes_are = ap (λ (t : List ℕ). t ++ b ∷ []) stands.behind.bytes_are ∙ append_assoc stands.behind.lines stands.behind.beginning (b ∷ []);
    are_lines = stands.behind.are_lines;
    one_line = All-push (λ x. is_line_byte x ≡ true) stands.behind.beginning b stands.behind.one_line (ap not other);
    line_is = rw (count_more bytes b, other) (omega (arith, stands.behind.line_is));
    col_is = omega (arith, stands.behind.col_is, length-append stands.behind.beginning (b ∷ []));
  };
  small = omega (arith, stands.small, length-append bytes (b ∷ []));
}

-- the loop passes an LF
pub stands_line_end : (bytes : List ℕ) (i d : ℕ) (pos new : Pos) → i < length bytes → get_or bytes i d ≡ 10 → new ≡ record { line = pos.line + 1; col = 1 } → Stands (take i bytes) pos → Stands (take (i + 1) bytes) new
stands_line_end bytes i d pos new lt is_lf new_is stands =
    rw (new_is, take_more bytes i d lt, is_lf) (line_end (take i bytes) pos stands)

-- the loop passes another byte
pub stands_on : (bytes : List ℕ) (i d : ℕ) (pos new : Pos) → i < length bytes → (get_or bytes i d ≡ 10 → ⊥) → new ≡ record { line = pos.line; col = pos.col + 1 } → Stands (take i bytes) pos → Stands (take (i + 1) bytes) new
stands_on bytes i d pos new lt other new_is stands =
    let b : ℕ = get_or bytes i d in
    let test : (b == 10) ≡ false = grind (arith, nat_tests, other) in
    rw (new_is, take_more bytes i d lt) (line_goes_on (take i bytes) pos b test stands)
