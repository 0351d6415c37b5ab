-- What stays true while the parts of a piece are read.
use Rattle.std.proofs.Common.{◌≡◌, ℕ, ◌+◌, ◌≤◌, ◌<◌, List, [], ◌∷◌, ◌++◌, length, take, drop, sym, ap, subst, ◌∙◌, arith}
use Rattle.std.proofs.Math.Seq.{drop-append-add}
use Rattle.std.proofs.lemmas.List.{append_assoc, length-append, length-take-le, take-append-le, drop-append-le}
use Rattle.pddl_token.specs.declared.token.TokenKind.{TokenKind}
use Rattle.pddl_scan.specs.declared.next.Next.{Next}
use Rattle.pddl_scan.specs.declared.next.Next.TheVariants as next
use Rattle.pddl_scan.specs.declared.parts.Progress.{Progress}
use Rattle.pddl_scan.specs.declared.parts.Progress.TheVariants as progress
use Rattle.pddl_token.specs.Spelling.{PlacedWord, IsOpenComment}
use Rattle.pddl_scan.specs.Faults.{IsStray, IsGlued, IsOutOfRange, IsLeftmost}
use Rattle.pddl_scan.specs.Inner.Reading.{Reads, IsGapAt, IsWordAt}
use Rattle.pddl_scan.specs.Scanning.{LexedTo}
use Rattle.pddl_scan.specs.Inner.Parts.{Settles, ReadsOn, StoppedAt}
use Rattle.pddl_scan.proofs.Lexed.{gap_lexed, word_lexed, leftmost_fault}
use Rattle.pddl_scan.proofs.Ended.{settles_drop}

-- the words so far spell the text up to the place, if those before spelled what comes before it
pub record ReadSince (start : ℕ) (text : List ℕ) (old words : List PlacedWord) (at : ℕ) : Type 0 where
  pub on : (before more : List ℕ) (given : List PlacedWord) → length before ≡ start → Settles text more
      → LexedTo (before ++ (text ++ more)) (given ++ old) start → LexedTo (before ++ (text ++ more)) (given ++ words) (start + at)

-- what was found at the place
pub record IsAhead (found : Next) (rest : List ℕ) : Type 0 where
  pub reads : Reads found rest
  pub ahead : (more : List ℕ) → Settles rest more → ReadsOn found rest more

pub since_start : (start : ℕ) (text : List ℕ) (old : List PlacedWord) → ReadSince start text old old 0
since_start start text old = record { on = λ before more given len settles lexed. subst (LexedTo (before ++ (text ++ more)) (given ++ old)) (omega arith) lexed }

drop_whole : (start at : ℕ) (before text more : List ℕ) → length before ≡ start → at ≤ length text → drop (start + at) (before ++ (text ++ more)) ≡ drop at text ++ more
drop_whole start at before text more len le =
    ap (λ (n : ℕ). drop (n + at) (before ++ (text ++ more))) (sym len) ∙ (drop-append-add before (text ++ more) at ∙ drop-append-le at text more le)

pub since_gap : (start at len : ℕ) (text : List ℕ) (old words : List PlacedWord) → ReadSince start text old words at → at < length text → IsAhead (next.Gap len) (drop at text) → ReadSince start text old words (at + len)
since_gap start at len text old words since lt found = record {
  on = λ before more given start_is settles lexed.
      let whole : List ℕ = before ++ (text ++ more) in
      let here : IsGapAt len (drop at text ++ more) = found.ahead more (settles_drop at text more lt settles) in
      let on = gap_lexed whole (given ++ words) (start + at) len (since.on before more given start_is settles lexed) (subst (IsGapAt len) (sym (drop_whole start at before text more start_is (omega (arith, lt)))) here) in
      subst (LexedTo whole (given ++ words)) (omega arith) on;
}

pub since_word : (start at len : ℕ) (kind : TokenKind) (text spelled : List ℕ) (old words : List PlacedWord) → ReadSince start text old words at → at < length text → IsAhead (next.Word kind len) (drop at text) → spelled ≡ take len (drop at text)
    → ReadSince start text old (words ++ record { kind = kind; text = spelled; span = record { start = start + at; end = start + at + length spelled } } ∷ []) (at + len)
since_word start at len kind text spelled old words since lt found spelled_is = record {
  on = λ before more given start_is settles lexed.
      let whole : List ℕ = before ++ (text ++ more) in
      let rest : List ℕ = drop at text in
      let fits : len ≤ length rest = found.reads.in_range in
      let here : IsWordAt kind len (rest ++ more) = found.ahead more (settles_drop at text more lt settles) in
      let rest_is : drop (start + at) whole ≡ rest ++ more = drop_whole start at before text more start_is (omega (arith, lt)) in
      let text_is : spelled ≡ take len (drop (start + at) whole) = spelled_is ∙ (sym (take-append-le len rest more fits) ∙ ap (take len) (sym rest_is)) in
      let len_is : len ≡ length spelled = sym (ap (λ (t : List ℕ). length t) spelled_is ∙ length-take-le len rest fits) in
      let on = word_lexed whole (given ++ words) (start + at) len kind spelled (since.on before more given start_is settles lexed) (subst (IsWordAt kind len) (sym rest_is) here) text_is in
      let on2 = subst (λ n. LexedTo whole ((given ++ words) ++ record { kind = kind; text = spelled; span = record { start = start + at; end = start + at + n } } ∷ []) (start + at + len)) len_is on in
      let w : PlacedWord = record { kind = kind; text = spelled; span = record { start = start + at; end = start + at + length spelled } } in
      let on3 = subst (λ ws. LexedTo whole ws (start + at + len)) (append_assoc given words (w ∷ [])) on2 in
      subst (LexedTo whole (given ++ (words ++ w ∷ []))) (omega arith) on3;
}

pub since_word_as : (start at len : ℕ) (kind : TokenKind) (text spelled : List ℕ) (old words new : List PlacedWord) → ReadSince start text old words at → at < length text → IsAhead (next.Word kind len) (drop at text) → spelled ≡ take len (drop at text)
    → new ≡ words ++ record { kind = kind; text = spelled; span = record { start = start + at; end = start + at + length spelled } } ∷ [] → ReadSince start text old new (at + len)
since_word_as start at len kind text spelled old words new since lt found spelled_is new_is = subst (λ ws. ReadSince start text old ws (at + len)) (sym new_is) (since_word start at len kind text spelled old words since lt found spelled_is)

-- ---- where reading stops

pub record StopsSince (stop : Progress) (place start : ℕ) (text : List ℕ) (old words : List PlacedWord) : Type 0 where
  pub on : (before more : List ℕ) (given : List PlacedWord) → length before ≡ start → Settles text more
      → LexedTo (before ++ (text ++ more)) (given ++ old) start → StoppedAt stop (before ++ (text ++ more)) (before ++ text) (given ++ words) place

pub stops_at_end : (start at : ℕ) (text : List ℕ) (old words : List PlacedWord) → ReadSince start text old words at → at ≤ length text → length text ≤ at → StopsSince progress.Words (start + length text) start text old words
stops_at_end start at text old words since le ge = record {
  on = λ before more given start_is settles lexed. record {
    lexed = subst (λ n. LexedTo (before ++ (text ++ more)) (given ++ words) (start + n)) (omega (arith, le, ge)) (since.on before more given start_is settles lexed);
    in_range = omega (arith, start_is, length-append before text);
    why = omega (arith, start_is, length-append before text);
  };
}

pub stops_at_comment : (start at : ℕ) (text : List ℕ) (old words : List PlacedWord) → ReadSince start text old words at → at < length text → IsAhead next.OpenComment (drop at text) → StopsSince progress.Comment (start + at) start text old words
stops_at_comment start at text old words since lt found = record {
  on = λ before more given start_is settles lexed. record {
    lexed = since.on before more given start_is settles lexed;
    in_range = omega (arith, start_is, lt, length-append before text);
    why = subst IsOpenComment (sym (ap (λ (n : ℕ). drop (n + at) (before ++ text)) (sym start_is) ∙ drop-append-add before text at)) found.reads;
  };
}

-- what is wrong at the place, more bytes following
fault_there : (Fault : List ℕ → Type 0) (start at : ℕ) (before text more : List ℕ) (words : List PlacedWord) → length before ≡ start → at < length text → Fault (drop at text ++ more) → LexedTo (before ++ (text ++ more)) words (start + at)
    → IsLeftmost Fault (before ++ (text ++ more)) (start + at)
fault_there Fault start at before text more words start_is lt fault lexed =
    leftmost_fault Fault (before ++ (text ++ more)) words (start + at) lexed (subst Fault (sym (drop_whole start at before text more start_is (omega (arith, lt)))) fault)

pub stops_at_stray : (start at : ℕ) (text : List ℕ) (old words : List PlacedWord) → ReadSince start text old words at → at < length text → IsAhead next.Stray (drop at text) → StopsSince (progress.Stray (start + at)) (start + at) start text old words
stops_at_stray start at text old words since lt found = record {
  on = λ before more given start_is settles lexed. let to = since.on before more given start_is settles lexed in record {
    lexed = to;
    in_range = omega (arith, start_is, lt, length-append before text);
    why = fault_there IsStray start at before text more (given ++ words) start_is lt (found.ahead more (settles_drop at text more lt settles)) to;
  };
}

pub stops_at_glued : (start at : ℕ) (text : List ℕ) (old words : List PlacedWord) → ReadSince start text old words at → at < length text → IsAhead next.Glued (drop at text) → StopsSince (progress.Glued (start + at)) (start + at) start text old words
stops_at_glued start at text old words since lt found = record {
  on = λ before more given start_is settles lexed. let to = since.on before more given start_is settles lexed in record {
    lexed = to;
    in_range = omega (arith, start_is, lt, length-append before text);
    why = fault_there IsGlued start at before text more (given ++ words) start_is lt (found.ahead more (settles_drop at text more lt settles)) to;
  };
}

pub stops_at_range : (start at : ℕ) (text : List ℕ) (old words : List PlacedWord) → ReadSince start text old words at → at < length text → IsAhead next.OutOfRange (drop at text) → StopsSince (progress.NumberRange (start + at)) (start + at) start text old words
stops_at_range start at text old words since lt found = record {
  on = λ before more given start_is settles lexed. let to = since.on before more given start_is settles lexed in record {
    lexed = to;
    in_range = omega (arith, start_is, lt, length-append before text);
    why = fault_there IsOutOfRange start at before text more (given ++ words) start_is lt (found.ahead more (settles_drop at text more lt settles)) to;
  };
}
