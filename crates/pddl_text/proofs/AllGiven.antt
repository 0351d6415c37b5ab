-- Where a text ends with LF, the words given are all its words.
use Rattle.std.proofs.Common.{◌≡◌, ℕ, ◌≤◌, ◌<◌, Bool, true, false, List, [], ◌∷◌, ◌++◌, length, take, drop, refl, sym, ap, subst, ◌∙◌, arith, inl, inr}
use Rattle.std.specs.Prelude.{Result, Ok, Err, OnOk, IfErr, MatchResult, ◌↔◌}
use Rattle.std.specs.List.{AllPass, prefix_len}
use Rattle.std.proofs.lemmas.Bool.{cases_lt}
use Rattle.std.proofs.lemmas.List.{append-nil, length-append, drop-append-le, take-append-drop, drop_all}
use Rattle.std.proofs.lemmas.List.Elements.{All-cons}
use Rattle.pddl_scan.specs.declared.parts.Progress.{Progress}
use Rattle.pddl_scan.specs.declared.parts.Progress.TheVariants as progress
use Rattle.pddl_token.specs.Bytes.{is_inner_byte, is_line_byte}
use Rattle.pddl_token.specs.Spelling.{PlacedWord, Spells}
use Rattle.pddl_scan.specs.declared.fault.TextFault.{TextFault}
use Rattle.pddl_scan.specs.declared.fault.TextFault.TheVariants as faults
use Rattle.pddl_scan.specs.Faults.{IsStray, IsGlued, IsOutOfRange, IsFaulty, IsLeftmost, AreValued, Stands}
use Rattle.pddl_scan.specs.Scanning.{LexedTo}
use Rattle.pddl_text.specs.declared.plan_lexer.PlanLexer.{PlanLexer}
use Rattle.pddl_scan.specs.InPieces.{HasRead, EndsLine, SpellsPartly}
use Rattle.pddl_text.specs.StandsFor.{StandsFor}
use Rattle.pddl_token.proofs.Runs.{run_le}
use Rattle.pddl_scan.proofs.Lexed.{lexed_to_end, one_spelling, no_other}
use Rattle.pddl_scan.proofs.Ended.{stops_in}

-- bytes that a text's last LF ends do not all pass a test that LF fails
no_lf_behind : (p : ℕ → Bool) (text lines rest : List ℕ) (place : ℕ) → p 10 ≡ false → text ≡ lines ++ 10 ∷ [] → place < length text → drop place text ≡ rest → AllPass p rest → ⊥
no_lf_behind p text lines rest place fails text_is lt rest_is all =
    let fits : place ≤ length lines = omega (arith, lt, ap (λ (t : List ℕ). length t) text_is, length-append lines (10 ∷ [])) in
    let ends : drop place lines ++ 10 ∷ [] ≡ rest = sym (sym rest_is ∙ (ap (drop place) text_is ∙ drop-append-le place lines (10 ∷ []) fits)) in
    let inside : prefix_len p rest < length rest = subst (λ t. prefix_len p t < length t) ends (stops_in p (drop place lines) 10 fails) in
    let run : length rest ≤ prefix_len p rest = subst (λ t. length rest ≤ prefix_len p t) (append-nil rest) (run_le p rest [] all) in
    omega (arith, inside, run)

lexed_here : (text : List ℕ) (words : List PlacedWord) (place : ℕ) → ((more : List ℕ) → LexedTo (text ++ more) words place) → LexedTo text words place
lexed_here text words place lexed = subst (λ t. LexedTo t words place) (append-nil text) (lexed [])

pub leftmost_refuses : (Fault : List ℕ → Type 0) (text : List ℕ) (place : ℕ) (all : List PlacedWord) → ((rest : List ℕ) → Fault rest → IsFaulty rest) → IsLeftmost Fault text place → Spells all text → AreValued all → ⊥
leftmost_refuses Fault text place all faulty here spelled valued =
    no_other here.reached.0 all text (take place text) (drop place text) (sym (take-append-drop place text)) here.reached.1 (faulty (drop place text) here.fault) spelled valued

-- words that spell a text leave it no fault
pub no_fault_in_words : (fault : TextFault) (text : List ℕ) (all : List PlacedWord) → length text ≤ 16777216 → Stands fault text → Spells all text → AreValued all → fault ≡ faults.Memory
no_fault_in_words faults.Memory text all within stands spelled valued = refl
no_fault_in_words faults.TooLong text all within stands spelled valued = absurd (omega (arith, within, stands))
no_fault_in_words (faults.Stray at) text all within stands spelled valued = absurd (leftmost_refuses IsStray text at all (λ rest f. inl f) stands.leftmost spelled valued)
no_fault_in_words (faults.Glued at) text all within stands spelled valued = absurd (leftmost_refuses IsGlued text at all (λ rest f. inr (inl f)) stands.leftmost spelled valued)
no_fault_in_words (faults.NumberRange at) text all within stands spelled valued = absurd (leftmost_refuses IsOutOfRange text at all (λ rest f. inr (inr f)) stands.leftmost spelled valued)
no_fault_in_words (faults.Unopened at) text all within stands spelled valued = absurd stands
no_fault_in_words (faults.TooDeep at) text all within stands spelled valued = absurd stands
no_fault_in_words (faults.Unclosed at) text all within stands spelled valued = absurd stands
no_fault_in_words faults.AlreadyFailed text all within stands spelled valued = absurd stands

fault_refuses : (Fault : List ℕ → Type 0) (text : List ℕ) (place : ℕ) (all : List PlacedWord) → ((rest : List ℕ) → Fault rest → IsFaulty rest) → ((more : List ℕ) → IsLeftmost Fault (text ++ more) place) → Spells all text → AreValued all → ⊥
fault_refuses Fault text place all faulty stands spelled valued =
    leftmost_refuses Fault text place all faulty (subst (λ t. IsLeftmost Fault t place) (append-nil text) (stands [])) spelled valued

all_given : (reached : Progress) (held text : List ℕ) (words all : List PlacedWord) → HasRead reached held text words → EndsLine text → Spells all text → AreValued all → words ≡ all
all_given progress.Words held text words all had line spelled valued = elim (cases_lt had.place (length text)) [
  | inl lt ↦ absurd (no_lf_behind is_inner_byte text line.0 held had.place refl line.1 lt had.behind.0 had.behind.1)
  | inr ge ↦ one_spelling words all text (lexed_to_end text words had.place (lexed_here text words had.place had.lexed) ge) spelled
]
all_given progress.Comment held text words all had line spelled valued =
    let comment = had.behind.1 in
    elim (cases_lt had.place (length text)) [
      | inl lt ↦ absurd (no_lf_behind is_line_byte text line.0 (59 ∷ comment.0) had.place refl line.1 lt comment.2 (All-cons (λ (b : ℕ). is_line_byte b ≡ true) 59 comment.0 refl comment.1))
      | inr ge ↦ absurd (omega (arith, ap (λ (t : List ℕ). length t) (sym (drop_all had.place text ge) ∙ comment.2)))
    ]
all_given (progress.Stray place) held text words all had line spelled valued = absurd (fault_refuses IsStray text place all (λ rest f. inl f) had.behind.1 spelled valued)
all_given (progress.Glued place) held text words all had line spelled valued = absurd (fault_refuses IsGlued text place all (λ rest f. inr (inl f)) had.behind.1 spelled valued)
all_given (progress.NumberRange place) held text words all had line spelled valued = absurd (fault_refuses IsOutOfRange text place all (λ rest f. inr (inr f)) had.behind.1 spelled valued)

-- ---- a lexer

module _ {A : Type 0} (lexer : PlanLexer A) (text : List ℕ) (words : List PlacedWord) where
  -- words given, and none since, are the words given
  pub none_since : (none : List PlacedWord) → none ≡ [] → StandsFor lexer text words → StandsFor lexer text (words ++ none)
  none_since none none_is stands = subst (StandsFor lexer text) (sym (append-nil words) ∙ ap (λ (ws : List PlacedWord). words ++ ws) (sym none_is)) stands

  pub partly : StandsFor lexer text words → SpellsPartly words text
  partly stands = record {
    front = take stands.read.place text;
    rest = drop stands.read.place text;
    text_is = sym (take-append-drop stands.read.place text);
    spelled = (lexed_here text words stands.read.place stands.read.lexed).spelled;
  }

  pub lines : (all : List PlacedWord) → StandsFor lexer text words → EndsLine text → Spells all text → AreValued all → words ≡ all
  lines all stands line spelled valued = all_given lexer.progress lexer.held.items text words all stands.read line spelled valued

-- ---- answers

-- an error is the same whatever would be answered else
pub same_err : {A B : Type 0} (fault other : TextFault) (P : Type 0) → (◌≡◌ {A = Result A TextFault} (Err fault) (Err other)) ↔ P → (◌≡◌ {A = Result B TextFault} (Err fault) (Err other)) ↔ P
same_err fault other P both = (λ e. both.0 (ap (λ (f : TextFault). Err f) (inside e)), λ p. ap (λ (f : TextFault). Err f) (inside (both.1 p)))
  where
    inside : {C : Type 0} → ◌≡◌ {A = Result C TextFault} (Err fault) (Err other) → fault ≡ other
    inside e = cc (e)

module _ {A E : Type 0} (P : Type 0) (Q : E → Type 0) where
  pub where_ok : (r : Result A E) → MatchResult r (λ _. P) Q → OnOk r P
  where_ok (Ok a) is = is
  where_ok (Err e) is = tt

  pub where_err : (r : Result A E) → MatchResult r (λ _. P) Q → IfErr r Q
  where_err (Ok a) is = tt
  where_err (Err e) is = is
