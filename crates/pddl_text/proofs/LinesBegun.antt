-- The position of a place, by where the lines of the text begin.
use Rattle.std.proofs.Common.{◌≡◌, ℕ, ◌+◌, ◌-◌, ◌≤◌, ◌<◌, Bool, true, false, leb, leb-true, List, [], ◌∷◌, ◌++◌, length, take, drop, get_or, refl, sym, ap, subst, ◌∙◌, arith, inl, inr}
use Rattle.std.specs.Prelude.{◌==◌}
use Rattle.std.specs.List.{AllPass, prefix_len}
use Rattle.std.specs.List.Sorted.{IsNonDecreasing, IsPartitionPoint}
use Rattle.std.proofs.lemmas.List.Sorted.{IsNonDecreasingBy-push, IsNonDecreasingBy-short}
use Rattle.std.proofs.lemmas.List.Sums.{prefix_len_stops, prefix_len-le-length}
use Rattle.std.proofs.Math.Seq.{get_or-append_seam}
use Rattle.std.proofs.lemmas.Bool.{cases_lt, cases_Bool, eqb-true}
use Rattle.std.proofs.lemmas.Bool.Decides.{nat_tests}
use Rattle.std.proofs.Math.Numerals.{one-add}
use Rattle.std.proofs.lemmas.List.{append_assoc, append-nil, length-append, length-take-le, take-append-drop, take_more, get_or_append_left, get_or-take}
use Rattle.std.proofs.lemmas.List.Elements.{All-nil, All-cons}
use Rattle.pddl_text.specs.declared.place.Pos.{Pos}
use Rattle.pddl_token.specs.Bytes.{begins}
use Rattle.pddl_text.specs.Positions.{IsBehind}
use Rattle.pddl_text.specs.LineStarts.{starts_from, LineStarts, line_starts, AreStarts}
use Rattle.pddl_token.proofs.Runs.{run_len, run_passes}
use Rattle.pddl_text.proofs.Behind.{Stands, at_start, line_end, line_goes_on}

-- ---- joined bytes

pub starts-append : (at : ℕ) (front rest : List ℕ) → starts_from at (front ++ rest) ≡ starts_from at front ++ starts_from (at + length front) rest
starts-append at [] rest = ap (λ (n : ℕ). starts_from n rest) (omega arith)
starts-append at (b ∷ front) rest =
    let on : starts_from (at + 1) (front ++ rest) ≡ starts_from (at + 1) front ++ starts_from (at + 1 + length front) rest = starts-append (at + 1) front rest in
    let same : starts_from (at + 1 + length front) rest ≡ starts_from (at + length (b ∷ front)) rest = ap (λ (n : ℕ). starts_from n rest) (omega arith) in
    let on2 : starts_from (at + 1) (front ++ rest) ≡ starts_from (at + 1) front ++ starts_from (at + length (b ∷ front)) rest = on ∙ ap (λ (t : List ℕ). starts_from (at + 1) front ++ t) same in
    elim (cases_Bool (b == 10)) [
      | inl is_lf ↦ rw is_lf (ap (λ (t : List ℕ). (at + 1) ∷ t) on2)
      | inr other ↦ rw other on2
    ]

-- joined to the beginning of a text
starts_join : (front rest : List ℕ) → starts_from 0 (front ++ rest) ≡ starts_from 0 front ++ starts_from (length front) rest
starts_join front rest = starts-append 0 front rest ∙ ap (λ (n : ℕ). starts_from 0 front ++ starts_from n rest) (omega arith)

-- one byte more
pub starts_lf : (at : ℕ) (front : List ℕ) → starts_from at (front ++ 10 ∷ []) ≡ starts_from at front ++ (at + length front + 1) ∷ []
starts_lf at front = starts-append at front (10 ∷ [])

pub starts_other : (at : ℕ) (front : List ℕ) (b : ℕ) → (b == 10) ≡ false → starts_from at (front ++ b ∷ []) ≡ starts_from at front
starts_other at front b other = starts-append at front (b ∷ []) ∙ (ap (λ (t : List ℕ). starts_from at front ++ t) (none b other) ∙ append-nil (starts_from at front))
  where
    none : (b : ℕ) → (b == 10) ≡ false → starts_from (at + length front) (b ∷ []) ≡ []
    none b other = rw other refl

-- ---- where they are

-- lines that begin in bytes begin at their end at the latest
starts_by : (at end : ℕ) (bytes : List ℕ) → at + length bytes ≤ end → AllPass (λ s. leb s end) (starts_from at bytes)
starts_by at end [] le = All-nil (λ (s : ℕ). leb s end ≡ true)
starts_by at end (b ∷ bytes) le =
    let on = starts_by (at + 1) end bytes (omega (arith, le)) in
    elim (cases_Bool (b == 10)) [
      | inl is_lf ↦ rw is_lf (All-cons (λ (s : ℕ). leb s end ≡ true) (at + 1) (starts_from (at + 1) bytes) (grind (arith, nat_tests, le)) on)
      | inr other ↦ rw other on
    ]

-- and later ones later
starts_after : (at place : ℕ) (bytes : List ℕ) → place ≤ at → begins (λ s. leb s place) (starts_from at bytes) ≡ false
starts_after at place [] le = refl
starts_after at place (b ∷ bytes) le =
    let on = starts_after (at + 1) place bytes (omega (arith, le)) in
    elim (cases_Bool (b == 10)) [
      | inl is_lf ↦ rw is_lf (grind (arith, nat_tests, le))
      | inr other ↦ rw other on
    ]

pub few_starts : (at : ℕ) (bytes : List ℕ) → length (starts_from at bytes) ≤ length bytes
few_starts at [] = omega arith
few_starts at (b ∷ bytes) =
    let on = few_starts (at + 1) bytes in
    elim (cases_Bool (b == 10)) [
      | inl is_lf ↦ rw is_lf (omega (arith, on))
      | inr other ↦ rw other (omega (arith, on))
    ]

-- ---- the last line

abbrev last_start : List ℕ → ℕ
last_start starts = get_or (0 ∷ starts) (length starts) 0

abbrev pos_at : ℕ → ℕ → Pos
pos_at line col = record { line = line; col = col }

same_pos : (a b c d : ℕ) → a ≡ b → c ≡ d → pos_at a c ≡ pos_at b d
same_pos a b c d e f = λ i. pos_at (e i) (f i)

abbrev pos_behind : List ℕ → Pos
pos_behind bytes = pos_at (1 + length (starts_from 0 bytes)) (1 + (length bytes - last_start (starts_from 0 bytes)))

record LastLine (bytes : List ℕ) : Type 0 where
  rise : IsNonDecreasing (starts_from 0 bytes)
  stands : Stands bytes (pos_behind bytes)
  begun : last_start (starts_from 0 bytes) ≤ length bytes

last_pushed : (starts : List ℕ) (s : ℕ) → last_start (starts ++ s ∷ []) ≡ s
last_pushed starts s = ap (λ (n : ℕ). get_or (0 ∷ (starts ++ s ∷ [])) n 0) (length_pushed starts s) ∙ get_or-append_seam (0 ∷ starts) s [] 0
  where
    length_pushed : (starts : List ℕ) (s : ℕ) → length (starts ++ s ∷ []) ≡ length (0 ∷ starts)
    length_pushed starts s = omega (arith, length-append starts (s ∷ []))

lf_more : (bytes : List ℕ) → LastLine bytes → LastLine (bytes ++ 10 ∷ [])
lf_more bytes line =
    let starts : List ℕ = starts_from 0 bytes in
    let more : starts_from 0 (bytes ++ 10 ∷ []) ≡ starts ++ (length bytes + 1) ∷ [] = starts_join bytes (10 ∷ []) in
    let last : last_start (starts_from 0 (bytes ++ 10 ∷ [])) ≡ length bytes + 1 = ap last_start more ∙ last_pushed starts (length bytes + 1) in
    let size : length (bytes ++ 10 ∷ []) ≡ length bytes + 1 = length-append bytes (10 ∷ []) in
    let count : length (starts_from 0 (bytes ++ 10 ∷ [])) ≡ length starts + 1 = ap (λ (t : List ℕ). length t) more ∙ length-append starts ((length bytes + 1) ∷ []) in
    let pos_is : pos_at (1 + length starts + 1) 1 ≡ pos_behind (bytes ++ 10 ∷ []) = same_pos _ _ _ _ (omega (arith, count)) (omega (arith, last, size)) in
    let earlier : AllPass (λ s. leb s (length bytes)) starts = starts_by 0 (length bytes) bytes (omega arith) in
    let rise : IsNonDecreasing (starts ++ (length bytes + 1) ∷ []) = IsNonDecreasingBy-push (λ s. s) starts (length bytes + 1) line.rise (λ d some. let le = leb-true _ _ (earlier (length starts - 1) d (omega (arith, some))) in omega (arith, le)) in
    record { rise = subst IsNonDecreasing (sym more) rise; stands = subst (Stands (bytes ++ 10 ∷ [])) pos_is (line_end bytes (pos_behind bytes) line.stands); begun = omega (arith, last, size) }

other_more : (bytes : List ℕ) (b : ℕ) → (b == 10) ≡ false → LastLine bytes → LastLine (bytes ++ b ∷ [])
other_more bytes b other line =
    let starts : List ℕ = starts_from 0 bytes in
    let more : starts_from 0 (bytes ++ b ∷ []) ≡ starts = starts_other 0 bytes b other in
    let size : length (bytes ++ b ∷ []) ≡ length bytes + 1 = length-append bytes (b ∷ []) in
    let last : last_start (starts_from 0 (bytes ++ b ∷ [])) ≡ last_start starts = ap last_start more in
    let count : length (starts_from 0 (bytes ++ b ∷ [])) ≡ length starts = ap (λ (t : List ℕ). length t) more in
    let pos_is : pos_at (1 + length starts) (1 + (length bytes - last_start starts) + 1) ≡ pos_behind (bytes ++ b ∷ []) = same_pos _ _ _ _ (omega (arith, count)) (omega (arith, last, size, line.begun)) in
    record { rise = subst IsNonDecreasing (sym more) line.rise; stands = subst (Stands (bytes ++ b ∷ [])) pos_is (line_goes_on bytes (pos_behind bytes) b other line.stands); begun = omega (arith, last, size, line.begun) }

one_more : (bytes : List ℕ) (b : ℕ) → LastLine bytes → LastLine (bytes ++ b ∷ [])
one_more bytes b line = elim (cases_Bool (b == 10)) [
  | inl is_lf ↦ subst (λ n. LastLine (bytes ++ n ∷ [])) (sym (eqb-true b 10 is_lf)) (lf_more bytes line)
  | inr other ↦ other_more bytes b other line
]

reached : (front rest : List ℕ) → LastLine front → LastLine (front ++ rest)
reached front [] line = subst LastLine (sym (append-nil front)) line
reached front (b ∷ rest) line = subst LastLine (append_assoc front (b ∷ []) rest) (reached (front ++ b ∷ []) rest (one_more front b line))

last_line : (bytes : List ℕ) → LastLine bytes
last_line bytes = reached [] bytes (record { rise = IsNonDecreasingBy-short (λ s. s) [] (omega arith); stands = at_start; begun = omega arith })

-- ---- a list of starts

-- the point where a test begins to fail is the length of the run that passes it
pub point_is_run : (p : ℕ → Bool) (xs : List ℕ) (i : ℕ) → i ≤ length xs → IsPartitionPoint (λ x. p x ≡ true) (λ x. p x ≡ false) xs i → i ≡ prefix_len p xs
point_is_run p xs i le point =
    let n : ℕ = prefix_len p xs in
    elim (cases_lt i n) [
      | inl lt ↦
          let fits : i < length (take n xs) = omega (arith, lt, length-take-le n xs (prefix_len-le-length p xs)) in
          let passes : p (get_or xs i 0) ≡ true = ap p (sym (get_or-take n xs i 0 lt)) ∙ run_passes p xs i 0 fits in
          absurd (cc (passes, point.1 i 0 (omega arith) (omega (arith, lt, prefix_len-le-length p xs))))
      | inr ge ↦ elim (cases_lt n i) [
        | inl lt ↦ absurd (cc (prefix_len_stops p xs 0 (omega (arith, lt, le)), point.0 n 0 (omega arith) lt))
        | inr le2 ↦ omega (arith, ge, le2)
      ]
    ]

-- a line that has begun begins at the place at the latest
pub start_by : (head place : ℕ) (starts : List ℕ) → head ≤ place → get_or (head ∷ starts) (prefix_len (λ s. leb s place) starts) 0 ≤ place
start_by head place [] le = le
start_by head place (s ∷ starts) le =
    elim (cases_Bool (leb s place)) [
      | inl by ↦ rw (by, one-add) (start_by s place starts (leb-true s place by))
      | inr later ↦ rw later le
    ]

pub begun_by : (place count start : ℕ) (starts : List ℕ) → count ≡ prefix_len (λ s. leb s place) starts → start ≡ get_or (0 ∷ starts) count 0 → start ≤ place
begun_by place count start starts count_is start_is =
    subst (λ n. n ≤ place) (sym (start_is ∙ ap (λ (n : ℕ). get_or (0 ∷ starts) n 0) count_is)) (start_by 0 place starts (omega arith))

-- no more lines have begun than there are
pub begun_few : (place count len : ℕ) (starts : List ℕ) → count ≡ prefix_len (λ s. leb s place) starts → AreStarts starts len → count ≤ 16777216
begun_few place count len starts count_is are =
    omega (arith, count_is, prefix_len-le-length (λ s. leb s place) starts, ap (λ (t : List ℕ). length t) are.starts_are, few_starts 0 are.text, are.counted, are.within)

-- the starts of a text rise
pub starts_rise : (starts : List ℕ) (len : ℕ) → AreStarts starts len → IsNonDecreasing starts
starts_rise starts len are = subst IsNonDecreasing (sym are.starts_are) (last_line are.text).rise

-- a piece more, byte by byte
pub lf_step : (start i d : ℕ) (bytes old items : List ℕ) → i < length bytes → get_or bytes i d ≡ 10 → items ≡ old ++ starts_from start (take i bytes) → items ++ (start + i + 1) ∷ [] ≡ old ++ starts_from start (take (i + 1) bytes)
lf_step start i d bytes old items lt is_lf items_are =
    let front : List ℕ = take i bytes in
    let size : length front ≡ i = length-take-le i bytes (omega (arith, lt)) in
    let more : starts_from start (take (i + 1) bytes) ≡ starts_from start front ++ (start + i + 1) ∷ [] = ap (starts_from start) (take_more bytes i d lt ∙ ap (λ (b : ℕ). front ++ b ∷ []) is_lf) ∙ (starts_lf start front ∙ ap (λ (n : ℕ). starts_from start front ++ (start + n + 1) ∷ []) size) in
    ap (λ (t : List ℕ). t ++ (start + i + 1) ∷ []) items_are ∙ (append_assoc old (starts_from start front) ((start + i + 1) ∷ []) ∙ ap (λ (t : List ℕ). old ++ t) (sym more))

pub other_step : (start i d : ℕ) (bytes old items : List ℕ) → i < length bytes → (get_or bytes i d ≡ 10 → ⊥) → items ≡ old ++ starts_from start (take i bytes) → items ≡ old ++ starts_from start (take (i + 1) bytes)
other_step start i d bytes old items lt other items_are =
    let b : ℕ = get_or bytes i d in
    let test : (b == 10) ≡ false = grind (arith, nat_tests, other) in
    items_are ∙ ap (λ (t : List ℕ). old ++ t) (sym (ap (starts_from start) (take_more bytes i d lt) ∙ starts_other start (take i bytes) b test))

-- a piece more, whole
pub starts_fed : (starts piece : List ℕ) (len : ℕ) → AreStarts starts len → len + length piece ≤ 16777216 → AreStarts (starts ++ starts_from len piece) (len + length piece)
starts_fed starts piece len are within = record {
  text = are.text ++ piece;
  starts_are = ap (λ (t : List ℕ). t ++ starts_from len piece) are.starts_are ∙ (ap (λ (n : ℕ). starts_from 0 are.text ++ starts_from n piece) are.counted ∙ sym (starts_join are.text piece));
  counted = omega (arith, are.counted, length-append are.text piece);
  within = within;
}

pub lines_fed : (starts new piece text : List ℕ) (len : ℕ) → record { starts = starts; len = len } ≡ line_starts text → new ≡ starts ++ starts_from len piece → record { starts = new; len = len + length piece } ≡ line_starts (text ++ piece)
lines_fed starts new piece text len kept new_is =
    let starts_are : starts ≡ starts_from 0 text = ap (λ (k : LineStarts). k.starts) kept in
    let len_is : len ≡ length text = ap (λ (k : LineStarts). k.len) kept in
    let new_are : new ≡ starts_from 0 (text ++ piece) = new_is ∙ (ap (λ (t : List ℕ). t ++ starts_from len piece) starts_are ∙ (ap (λ (n : ℕ). starts_from 0 text ++ starts_from n piece) len_is ∙ sym (starts_join text piece))) in
    let size : len + length piece ≡ length (text ++ piece) = omega (arith, len_is, length-append text piece) in
    (λ i. record { starts = new_are i; len = size i })

-- ---- the place

-- the lines that begin at the place at the latest are those that begin in the bytes before it
record Begun (text : List ℕ) (place : ℕ) : Type 0 where
  count : prefix_len (λ s. leb s place) (starts_from 0 text) ≡ length (starts_from 0 (take place text))
  start : get_or (0 ∷ starts_from 0 text) (length (starts_from 0 (take place text))) 0 ≡ last_start (starts_from 0 (take place text))

lines_begun : (text : List ℕ) (place : ℕ) → place ≤ length text → Begun text place
lines_begun text place le =
    let front : List ℕ = take place text in
    let size : length front ≡ place = length-take-le place text le in
    let starts : List ℕ = starts_from 0 front in
    let later : List ℕ = starts_from (length front) (drop place text) in
    let all_are : starts_from 0 text ≡ starts ++ later = ap (starts_from 0) (sym (take-append-drop place text)) ∙ starts_join front (drop place text) in
    record {
      count = ap (prefix_len (λ s. leb s place)) all_are ∙ run_len (λ s. leb s place) starts later (starts_by 0 place front (omega (arith, size))) (starts_after (length front) place (drop place text) (omega (arith, size)));
      start = ap (λ (t : List ℕ). get_or (0 ∷ t) (length starts) 0) all_are ∙ get_or_append_left (0 ∷ starts) later 0 (length starts) (omega arith);
    }

-- the position by how many lines have begun, and where the last of them
pub is_behind : (text starts : List ℕ) (place count start : ℕ) → starts ≡ starts_from 0 text → place ≤ length text → count ≡ prefix_len (λ s. leb s place) starts → start ≡ get_or (0 ∷ starts) count 0
    → IsBehind (take place text) (record { line = count + 1; col = place - start + 1 })
is_behind text starts place count start starts_are le count_is start_is =
    let front : List ℕ = take place text in
    let begun = lines_begun text place le in
    let line = last_line front in
    let size : length front ≡ place = length-take-le place text le in
    let count_is2 : count ≡ length (starts_from 0 front) = count_is ∙ (ap (prefix_len (λ s. leb s place)) starts_are ∙ begun.count) in
    let start_is2 : start ≡ last_start (starts_from 0 front) = start_is ∙ (ap (λ (t : List ℕ). get_or (0 ∷ t) count 0) starts_are ∙ (ap (λ (n : ℕ). get_or (0 ∷ starts_from 0 text) n 0) count_is2 ∙ begun.start)) in
    subst (IsBehind front) (same_pos _ _ _ _ (omega (arith, count_is2)) (omega (arith, start_is2, size))) line.stands.behind
