-- How far a text was read, piece by piece.
use Rattle.std.proofs.Common.{◌≡◌, ℕ, ◌+◌, ◌-◌, ◌≤◌, ◌<◌, true, List, [], ◌∷◌, ◌++◌, length, take, drop, refl, sym, ap, subst, ◌∙◌, arith, inl, inr}
use Rattle.std.specs.Prelude.{◌⊎◌}
use Rattle.std.specs.List.{AllPass, prefix_len}
use Rattle.std.proofs.Math.Seq.{drop-append_seam, take-append_seam}
use Rattle.std.proofs.lemmas.Bool.Decides.{nat_tests}
use Rattle.std.proofs.lemmas.List.{append_assoc, append-nil, length-append, length-drop, length-take-le, take-append-drop, drop-append-le, take_all}
use Rattle.std.proofs.lemmas.List.Elements.{All-append, All-nil}
use Rattle.pddl_scan.specs.declared.parts.Progress.{Progress}
use Rattle.pddl_scan.specs.declared.parts.Progress.TheVariants as progress
use Rattle.pddl_token.specs.Bytes.{is_inner_byte, is_line_byte}
use Rattle.pddl_token.specs.Spelling.{PlacedWord, IsOpenComment, IsComment}
use Rattle.pddl_scan.specs.Faults.{IsStray, IsGlued, IsOutOfRange, IsLeftmost}
use Rattle.pddl_scan.specs.Inner.Reading.{IsGapAt}
use Rattle.pddl_scan.specs.Scanning.{LexedTo}
use Rattle.pddl_scan.specs.Inner.Parts.{AnswersAt, IsEnded, Settles, StoppedAt}
use Rattle.pddl_scan.specs.InPieces.{IsBehindWords, HasRead}
use Rattle.pddl_token.proofs.Runs.{run_passes}
use Rattle.pddl_scan.proofs.NextReads.{lf_at}
use Rattle.pddl_scan.proofs.Lexed.{gap_lexed, lexed_to_end, lexed_to_comment}
use Rattle.pddl_scan.proofs.Ended.{ended_behind}
use Rattle.pddl_scan.proofs.PartsRead.{StopsSince}

held_is_line : (b : ℕ) → is_inner_byte b ≡ true → is_line_byte b ≡ true
held_is_line b e = grind (arith, nat_tests)

comment_more : (text more : List ℕ) → IsOpenComment text → AllPass is_line_byte more → IsOpenComment (text ++ more)
comment_more text more comment all = (comment.0 ++ more, All-append (λ (b : ℕ). is_line_byte b ≡ true) comment.0 more comment.1 all, ap (λ (t : List ℕ). t ++ more) comment.2)

assoc3 : (a b c more : List ℕ) → a ++ (b ++ (c ++ more)) ≡ (a ++ (b ++ c)) ++ more
assoc3 a b c more = ap (λ (t : List ℕ). a ++ t) (sym (append_assoc b c more)) ∙ sym (append_assoc a (b ++ c) more)

-- ---- a piece whose end no word reaches

-- reading stopped in the piece, of which rest is yet to come, whatever follows
record PieceStops (stop : Progress) (before ended rest : List ℕ) (words : List PlacedWord) (at : ℕ) : Type 0 where
  on : (more : List ℕ) → StoppedAt stop (before ++ (ended ++ (rest ++ more))) (before ++ ended) words at

record IsLeft (stop : Progress) (rest held : List ℕ) : Type 0 where
  words : stop ≡ progress.Words → held ≡ rest
  other : (stop ≡ progress.Words → ⊥) → held ≡ []

held_through : (stop : Progress) (before ended rest held : List ℕ) (words : List PlacedWord) (at : ℕ) → PieceStops stop before ended rest words at → AllPass is_inner_byte rest → IsLeft stop rest held → IsBehindWords stop held (before ++ (ended ++ rest)) at
held_through progress.Words before ended rest held words at stops all left =
    let whole_is : before ++ (ended ++ rest) ≡ (before ++ ended) ++ rest = sym (append_assoc before ended rest) in
    let held_is : held ≡ rest = left.words refl in
    (ap (λ (n : ℕ). drop n (before ++ (ended ++ rest))) (stops.on []).why ∙ (ap (drop (length (before ++ ended))) whole_is ∙ (drop-append_seam (before ++ ended) rest ∙ sym held_is)), subst (AllPass is_inner_byte) (sym held_is) all)
held_through progress.Comment before ended rest held words at stops all left =
    let whole_is : before ++ (ended ++ rest) ≡ (before ++ ended) ++ rest = sym (append_assoc before ended rest) in
    let rest_is : drop at (before ++ (ended ++ rest)) ≡ drop at (before ++ ended) ++ rest = ap (drop at) whole_is ∙ drop-append-le at (before ++ ended) rest (stops.on []).in_range in
    (left.other (λ e. absurd (cc e)), subst IsOpenComment (sym rest_is) (comment_more (drop at (before ++ ended)) rest (stops.on []).why (λ k d lt. held_is_line _ (all k d lt))))
held_through (progress.Stray place) before ended rest held words at stops all left = (left.other (λ e. absurd (cc e)), λ more. subst (λ t. IsLeftmost IsStray t place) (assoc3 before ended rest more) (stops.on more).why)
held_through (progress.Glued place) before ended rest held words at stops all left = (left.other (λ e. absurd (cc e)), λ more. subst (λ t. IsLeftmost IsGlued t place) (assoc3 before ended rest more) (stops.on more).why)
held_through (progress.NumberRange place) before ended rest held words at stops all left = (left.other (λ e. absurd (cc e)), λ more. subst (λ t. IsLeftmost IsOutOfRange t place) (assoc3 before ended rest more) (stops.on more).why)

through : (stop : Progress) (before ended rest held : List ℕ) (words : List PlacedWord) (at : ℕ) → PieceStops stop before ended rest words at → AllPass is_inner_byte rest → IsLeft stop rest held → HasRead stop held (before ++ (ended ++ rest)) words
through stop before ended rest held words at stops all left = record {
  place = at;
  in_range = omega (arith, (stops.on []).in_range, length-append before ended, length-append before (ended ++ rest), length-append ended rest);
  lexed = λ more. subst (λ t. LexedTo t words at) (assoc3 before ended rest more) (stops.on more).lexed;
  behind = held_through stop before ended rest held words at stops all left;
}

settles_front : (len : ℕ) (piece more : List ℕ) → (len ≡ 0) ⊎ IsEnded (take len piece) → Settles (take len piece) more
settles_front len piece more (inl none) = inr (inr (ap (λ (n : ℕ). take n piece) none))
settles_front len piece more (inr ended) = inl ended

lexed_whole : (before : List ℕ) (words : List PlacedWord) → HasRead progress.Words [] before words → (more : List ℕ) → LexedTo (before ++ more) words (length before)
lexed_whole before words had more =
    subst (LexedTo (before ++ more) words) (omega (arith, had.in_range, ap (λ (t : List ℕ). length t) had.behind.0, length-drop had.place before)) (had.lexed more)

pub words_read : (start len : ℕ) (piece ended rest held : List ℕ) (old new : List PlacedWord) (stop : Progress) (at : ℕ) → ended ≡ take len piece → rest ≡ drop len piece → (len ≡ 0) ⊎ IsEnded (take len piece) → AllPass is_inner_byte (drop len piece)
    → ((before more : List ℕ) (given : List PlacedWord) → length before ≡ start → Settles ended more → LexedTo (before ++ (ended ++ more)) (given ++ old) start → StoppedAt stop (before ++ (ended ++ more)) (before ++ ended) (given ++ new) at)
    → (stop ≡ progress.Words → held ≡ rest) → ((stop ≡ progress.Words → ⊥) → held ≡ [])
    → (before : List ℕ) (given : List PlacedWord) → length before ≡ start → HasRead progress.Words [] before (given ++ old) → HasRead stop held (before ++ piece) (given ++ new)
words_read start len piece ended rest held old new stop at ended_is rest_is ends all since words other before given start_is had =
    let settles : (more : List ℕ) → Settles ended more = λ more. subst (λ t. Settles t more) (sym ended_is) (settles_front len piece more ends) in
    let stops : PieceStops stop before ended rest (given ++ new) at = record {
      on = λ more. since before (rest ++ more) given start_is (settles (rest ++ more)) (subst (LexedTo (before ++ (ended ++ (rest ++ more))) (given ++ old)) start_is (lexed_whole before (given ++ old) had (ended ++ (rest ++ more))));
    } in
    let piece_is : ended ++ rest ≡ piece = ap (λ (t : List ℕ). t ++ rest) ended_is ∙ (ap (λ (t : List ℕ). take len piece ++ t) rest_is ∙ take-append-drop len piece) in
    subst (λ t. HasRead stop held (before ++ t) (given ++ new)) piece_is (through stop before ended rest held (given ++ new) at stops (subst (AllPass is_inner_byte) (sym rest_is) all) (record { words = words; other = other }))

-- ---- comments and faults

lexed_more : (before piece : List ℕ) (words : List PlacedWord) (at : ℕ) → ((more : List ℕ) → LexedTo (before ++ more) words at) → (more : List ℕ) → LexedTo ((before ++ piece) ++ more) words at
lexed_more before piece words at lexed more = subst (λ t. LexedTo t words at) (sym (append_assoc before piece more)) (lexed (piece ++ more))

pub comment_read : (before piece : List ℕ) (words : List PlacedWord) → length piece ≤ prefix_len is_line_byte piece → HasRead progress.Comment [] before words → HasRead progress.Comment [] (before ++ piece) words
comment_read before piece words le had = record {
  place = had.place;
  in_range = omega (arith, had.in_range, length-append before piece);
  lexed = lexed_more before piece words had.place had.lexed;
  behind = (refl, subst IsOpenComment (sym (drop-append-le had.place before piece had.in_range)) (comment_more (drop had.place before) piece had.behind.1 (subst (AllPass is_line_byte) (take_all (prefix_len is_line_byte piece) piece le) (run_passes is_line_byte piece))));
}

fault_more : (Fault : List ℕ → Type 0) (before piece : List ℕ) (place : ℕ) → ((more : List ℕ) → IsLeftmost Fault (before ++ more) place) → (more : List ℕ) → IsLeftmost Fault ((before ++ piece) ++ more) place
fault_more Fault before piece place stands more = subst (λ t. IsLeftmost Fault t place) (sym (append_assoc before piece more)) (stands (piece ++ more))

fault_held : (stop : Progress) (before piece : List ℕ) (at : ℕ) → (stop ≡ progress.Words → ⊥) → (stop ≡ progress.Comment → ⊥) → IsBehindWords stop [] before at → IsBehindWords stop [] (before ++ piece) at
fault_held progress.Words before piece at no_words no_comment held = absurd (no_words refl)
fault_held progress.Comment before piece at no_words no_comment held = absurd (no_comment refl)
fault_held (progress.Stray place) before piece at no_words no_comment held = (refl, fault_more IsStray before piece place held.1)
fault_held (progress.Glued place) before piece at no_words no_comment held = (refl, fault_more IsGlued before piece place held.1)
fault_held (progress.NumberRange place) before piece at no_words no_comment held = (refl, fault_more IsOutOfRange before piece place held.1)

pub fault_read : (stop : Progress) (before piece : List ℕ) (words : List PlacedWord) → (stop ≡ progress.Words → ⊥) → (stop ≡ progress.Comment → ⊥) → HasRead stop [] before words → HasRead stop [] (before ++ piece) words
fault_read stop before piece words no_words no_comment had = record {
  place = had.place;
  in_range = omega (arith, had.in_range, length-append before piece);
  lexed = lexed_more before piece words had.place had.lexed;
  behind = fault_held stop before piece had.place no_words no_comment had.behind;
}

comment_ends : (comment piece : List ℕ) → IsOpenComment comment → prefix_len is_line_byte piece < length piece → IsComment (comment ++ take (prefix_len is_line_byte piece + 1) piece)
comment_ends comment piece begun lt =
    let n : ℕ = prefix_len is_line_byte piece in (
      begun.0 ++ take n piece,
      All-append (λ (b : ℕ). is_line_byte b ≡ true) begun.0 (take n piece) begun.1 (run_passes is_line_byte piece),
      ap (λ (t : List ℕ). t ++ take (n + 1) piece) begun.2 ∙ (ap (λ (t : List ℕ). (59 ∷ begun.0) ++ t) (lf_at piece lt) ∙ ap (λ (t : List ℕ). 59 ∷ t) (sym (append_assoc begun.0 (take n piece) (10 ∷ [])))),
    )

comment_at : (text more : List ℕ) → IsComment text → IsGapAt (length text) (text ++ more)
comment_at text more comment = record {
  nonempty = omega (arith, ap (λ (t : List ℕ). length t) comment.2);
  in_range = omega (arith, length-append text more);
  is_part = inr (subst IsComment (sym (take-append_seam text more)) comment);
}

pub line_read : (before piece : List ℕ) (words : List PlacedWord) → prefix_len is_line_byte piece < length piece → HasRead progress.Comment [] before words → HasRead progress.Words [] (before ++ take (prefix_len is_line_byte piece + 1) piece) words
line_read before piece words lt had =
    let line : List ℕ = take (prefix_len is_line_byte piece + 1) piece in
    let at : ℕ = had.place in
    let comment : List ℕ = drop at before ++ line in
    let on : (more : List ℕ) → LexedTo (before ++ (line ++ more)) words (at + length comment) = λ more.
    let rest_is : drop at (before ++ (line ++ more)) ≡ comment ++ more = drop-append-le at before (line ++ more) had.in_range ∙ sym (append_assoc (drop at before) line more) in
    gap_lexed (before ++ (line ++ more)) words at (length comment) (had.lexed (line ++ more)) (subst (IsGapAt (length comment)) (sym rest_is) (comment_at comment more (comment_ends (drop at before) piece had.behind.1 lt))) in
    let end_is : at + length comment ≡ length (before ++ line) = omega (arith, had.in_range, length-append (drop at before) line, length-append before line, length-drop at before) in
    record {
      place = length (before ++ line);
      in_range = omega arith;
      lexed = λ more. subst (λ t. LexedTo t words (length (before ++ line))) (sym (append_assoc before line more)) (subst (LexedTo (before ++ (line ++ more)) words) end_is (on more));
      behind = (ap (drop (length (before ++ line))) (sym (append-nil (before ++ line))) ∙ drop-append_seam (before ++ line) [], All-nil (λ (b : ℕ). is_inner_byte b ≡ true));
    }

-- ---- what was held back

pub held_on : (before piece held : List ℕ) (words : List PlacedWord) → AllPass is_inner_byte piece → HasRead progress.Words held before words → HasRead progress.Words (held ++ piece) (before ++ piece) words
held_on before piece held words all had = record {
  place = had.place;
  in_range = omega (arith, had.in_range, length-append before piece);
  lexed = lexed_more before piece words had.place had.lexed;
  behind = (drop-append-le had.place before piece had.in_range ∙ ap (λ (t : List ℕ). t ++ piece) had.behind.0, All-append (λ (b : ℕ). is_inner_byte b ≡ true) held piece had.behind.1 all);
}

held_read : (start : ℕ) (before held end : List ℕ) (given old new : List PlacedWord) (stop : Progress) (at : ℕ) → length before ≡ start → HasRead progress.Words held before (given ++ old) → IsEnded end
    → StopsSince stop at (start - length held) (held ++ end) old new → HasRead stop [] (before ++ end) (given ++ new)
held_read start before held end given old new stop at start_is had ended since =
    let front : List ℕ = take had.place before in
    let before_is : before ≡ front ++ held = sym (take-append-drop had.place before) ∙ ap (λ (t : List ℕ). front ++ t) had.behind.0 in
    let held_len : length held ≡ length before - had.place = sym (ap (λ (t : List ℕ). length t) had.behind.0) ∙ length-drop had.place before in
    let begun : had.place ≡ start - length held = omega (arith, held_len, had.in_range, start_is) in
    let front_len : length front ≡ start - length held = length-take-le had.place before had.in_range ∙ begun in
    let text_is : (more : List ℕ) → before ++ (end ++ more) ≡ front ++ ((held ++ end) ++ more) = λ more.
    ap (λ (t : List ℕ). t ++ (end ++ more)) before_is ∙ (append_assoc front held (end ++ more) ∙ ap (λ (t : List ℕ). front ++ t) (sym (append_assoc held end more))) in
    let stops : PieceStops stop front (held ++ end) [] (given ++ new) at = record {
      on = λ more. since.on front more given front_len (inl (ended_behind held end ended))
          (subst (LexedTo (front ++ ((held ++ end) ++ more)) (given ++ old)) begun (subst (λ t. LexedTo t (given ++ old) had.place) (text_is more) (had.lexed (end ++ more))));
    } in
    let read = through stop front (held ++ end) [] [] (given ++ new) at stops (All-nil (λ (b : ℕ). is_inner_byte b ≡ true)) (record { words = λ e. refl; other = λ e. refl }) in
    subst (λ t. HasRead stop [] t (given ++ new)) (sym (text_is []) ∙ ap (λ (t : List ℕ). before ++ t) (append-nil end)) read

pub line_on : (start n : ℕ) (before piece rest : List ℕ) (words : List PlacedWord) (stop : Progress) (Then : List ℕ → Type 0) → n ≡ prefix_len is_line_byte piece → n < length piece → rest ≡ drop (n + 1) piece → length before ≡ start → stop ≡ progress.Comment
    → HasRead stop [] before words → ((front : List ℕ) → length front ≡ start + n + 1 → HasRead progress.Words [] front words → Then (front ++ rest)) → Then (before ++ piece)
line_on start n before piece rest words stop Then n_is lt rest_is start_is is_comment had next =
    let line : List ℕ = take (prefix_len is_line_byte piece + 1) piece in
    let lt2 : prefix_len is_line_byte piece < length piece = omega (arith, lt, n_is) in
    let comment : HasRead progress.Comment [] before words = subst (λ p. HasRead p [] before words) is_comment had in
    let line_len : length line ≡ n + 1 = length-take-le (prefix_len is_line_byte piece + 1) piece (omega (arith, lt2)) ∙ omega (arith, n_is) in
    let rest_is2 : rest ≡ drop (prefix_len is_line_byte piece + 1) piece = rest_is ∙ ap (λ (m : ℕ). drop (m + 1) piece) n_is in
    let whole_is : (before ++ line) ++ rest ≡ before ++ piece = append_assoc before line rest ∙ ap (λ (t : List ℕ). before ++ t) (ap (λ (t : List ℕ). line ++ t) rest_is2 ∙ take-append-drop (prefix_len is_line_byte piece + 1) piece) in
    subst Then whole_is (next (before ++ line) (omega (arith, line_len, start_is, length-append before line)) (line_read before piece words lt2 comment))

pub comment_on : (n : ℕ) (before piece held : List ℕ) (words : List PlacedWord) (stop : Progress) → n ≡ prefix_len is_line_byte piece → length piece ≤ n → stop ≡ progress.Comment → held ≡ [] → HasRead stop [] before words → HasRead stop held (before ++ piece) words
comment_on n before piece held words stop n_is le is_comment held_is had =
    subst (λ t. HasRead stop t (before ++ piece) words) (sym held_is) (subst (λ p. HasRead p [] (before ++ piece) words) (sym is_comment)
    (comment_read before piece words (omega (arith, le, n_is)) (subst (λ p. HasRead p [] before words) is_comment had)))

pub fault_on : (before piece held : List ℕ) (words : List PlacedWord) (stop : Progress) → (stop ≡ progress.Words → ⊥) → (stop ≡ progress.Comment → ⊥) → held ≡ [] → HasRead stop [] before words → HasRead stop held (before ++ piece) words
fault_on before piece held words stop no_words no_comment held_is had = subst (λ t. HasRead stop t (before ++ piece) words) (sym held_is) (fault_read stop before piece words no_words no_comment had)

pub held_then : (start size len : ℕ) (before piece held whole : List ℕ) (given old mid : List PlacedWord) (stop : Progress) (at : ℕ) (Then : List ℕ → Type 0) → length before ≡ start → HasRead progress.Words held before (given ++ old) → len ≤ length piece → IsEnded (take len piece) → size ≡ length held → whole ≡ held ++ take len piece
    → ((before more : List ℕ) (given : List PlacedWord) → length before ≡ start - size → Settles whole more → LexedTo (before ++ (whole ++ more)) (given ++ old) (start - size) → StoppedAt stop (before ++ (whole ++ more)) (before ++ whole) (given ++ mid) at)
    → ((front : List ℕ) → length front ≡ start + len → HasRead stop [] front (given ++ mid) → Then (front ++ drop len piece)) → Then (before ++ piece)
held_then start size len before piece held whole given old mid stop at Then start_is had le ended size_is whole_is since next =
    let end : List ℕ = take len piece in
    let stops : StopsSince stop at (start - length held) (held ++ end) old mid = subst (λ n. StopsSince stop at (start - n) (held ++ end) old mid) size_is (subst (λ t. StopsSince stop at (start - size) t old mid) whole_is (record { on = since })) in
    let read = held_read start before held end given old mid stop at start_is had ended stops in
    subst Then (append_assoc before end (drop len piece) ∙ ap (λ (t : List ℕ). before ++ t) (take-append-drop len piece))
    (next (before ++ end) (omega (arith, start_is, length-append before end, length-take-le len piece le)) read)

-- ---- the text's end

stop_answers : (stop : Progress) (text : List ℕ) (words : List PlacedWord) (at : ℕ) → StoppedAt stop text text words at → AnswersAt stop text words
stop_answers progress.Words text words at stops = (lexed_to_end text words at stops.lexed (omega (arith, stops.why)), stops.lexed.valued)
stop_answers progress.Comment text words at stops = (lexed_to_comment text words at stops.lexed stops.why, stops.lexed.valued)
stop_answers (progress.Stray place) text words at stops = stops.why
stop_answers (progress.Glued place) text words at stops = stops.why
stop_answers (progress.NumberRange place) text words at stops = stops.why

pub last_read : (start size : ℕ) (text held : List ℕ) (given old new : List PlacedWord) (reached stop : Progress) (at : ℕ) → length text ≡ start → reached ≡ progress.Words → size ≡ length held → HasRead reached held text (given ++ old)
    → ((before more : List ℕ) (given : List PlacedWord) → length before ≡ start - size → Settles held more → LexedTo (before ++ (held ++ more)) (given ++ old) (start - size) → StoppedAt stop (before ++ (held ++ more)) (before ++ held) (given ++ new) at)
    → AnswersAt stop text (given ++ new)
last_read start size text held given old new reached stop at start_is is_words size_is had0 since =
    let had : HasRead progress.Words held text (given ++ old) = subst (λ p. HasRead p held text (given ++ old)) is_words had0 in
    let front : List ℕ = take had.place text in
    let text_is : text ≡ front ++ held = sym (take-append-drop had.place text) ∙ ap (λ (t : List ℕ). front ++ t) had.behind.0 in
    let held_len : length held ≡ length text - had.place = sym (ap (λ (t : List ℕ). length t) had.behind.0) ∙ length-drop had.place text in
    let begun : had.place ≡ start - size = omega (arith, held_len, size_is, had.in_range, start_is) in
    let front_len : length front ≡ start - size = length-take-le had.place text had.in_range ∙ begun in
    let whole_is : text ++ [] ≡ front ++ (held ++ []) = ap (λ (t : List ℕ). t ++ []) text_is ∙ append_assoc front held [] in
    let lexed : LexedTo (front ++ (held ++ [])) (given ++ old) (start - size) = subst (LexedTo (front ++ (held ++ [])) (given ++ old)) begun (subst (λ t. LexedTo t (given ++ old) had.place) whole_is (had.lexed [])) in
    let stops = since front [] given front_len (inr (inl refl)) lexed in
    let stops2 : StoppedAt stop text (front ++ held) (given ++ new) at = subst (λ t. StoppedAt stop t (front ++ held) (given ++ new) at) (sym whole_is ∙ append-nil text) stops in
    stop_answers stop text (given ++ new) at (subst (λ t. StoppedAt stop text t (given ++ new) at) (sym text_is) stops2)

at_end : (Fault : List ℕ → Type 0) (text : List ℕ) (place : ℕ) → ((more : List ℕ) → IsLeftmost Fault (text ++ more) place) → IsLeftmost Fault text place
at_end Fault text place stands = subst (λ t. IsLeftmost Fault t place) (append-nil text) (stands [])

pub other_read : (stop : Progress) (held text : List ℕ) (words : List PlacedWord) → (stop ≡ progress.Words → ⊥) → HasRead stop held text words → AnswersAt stop text words
other_read progress.Words held text words other had = absurd (other refl)
other_read progress.Comment held text words other had =
    let lexed : LexedTo text words had.place = subst (λ t. LexedTo t words had.place) (append-nil text) (had.lexed []) in
    (lexed_to_comment text words had.place lexed had.behind.1, lexed.valued)
other_read (progress.Stray place) held text words other had = at_end IsStray text place had.behind.1
other_read (progress.Glued place) held text words other had = at_end IsGlued text place had.behind.1
other_read (progress.NumberRange place) held text words other had = at_end IsOutOfRange text place had.behind.1
