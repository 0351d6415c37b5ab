-- Items that are read one by one.
use Rattle.std.proofs.Common.{◌≡◌, ℕ, suc, ◌≤◌, List, [], ◌∷◌, ◌++◌, length, take, drop, refl, ap, subst, ◌∙◌, arith}
use Rattle.std.specs.Prelude.{Option, None, Result, Ok, Err, IfOk}
use Rattle.std.proofs.lemmas.List.{append_assoc, length-take, take-append-le, drop-append-le}
use Rattle.pddl_token.specs.declared.token.TokenKind.TheVariants.{Open}
use Rattle.pddl_token.specs.declared.token.Span.{Span}
use Rattle.pddl_token.specs.Spelling.{PlacedWord}
use Rattle.pddl_token.specs.Trees.{Placed, placed_node, placed_of}
use Rattle.pddl_scan.specs.declared.fault.TextFault.{TextFault}
use Rattle.pddl_scan.specs.Scanning.{LexedTo}
use Rattle.pddl_text.specs.Lists.{AreItems, none, nested}
use Rattle.pddl_text.specs.Texts.{HasItems}
use Rattle.pddl_text.specs.Inner.NextItems.{ReadsItem, ReadsItems, ReadsList}

-- a list's words, behind others
regroup : (words : List PlacedWord) (opening : PlacedWord) (more : List PlacedWord) (closing : PlacedWord) → ((words ++ opening ∷ []) ++ more) ++ closing ∷ [] ≡ words ++ opening ∷ (more ++ closing ∷ [])
regroup words opening more closing = append_assoc (words ++ opening ∷ []) more (closing ∷ []) ∙ append_assoc words (opening ∷ []) (more ++ closing ∷ [])

-- a list whose items and end were read
pub list_read : (text : List ℕ) (words : List PlacedWord) (opening : PlacedWord) (levels : ℕ) (items : List Placed) (start at end : ℕ) → opening.kind ≡ Open → opening.span.start ≡ start
    → ReadsList text (words ++ opening ∷ []) levels items at end → ReadsItem text words levels at (placed_node (record { start = start; end = end }) (placed_of items))
list_read text words opening levels items start at end is_open starts (below, deep, (more, form, (w, is_close, ends, lexed))) =
    let own : Span = record { start = opening.span.start; end = w.span.end } in
    let told : Span = record { start = start; end = end } in
    let same : own ≡ told = λ i. record { start = starts i; end = ends i } in
    let whole : List Placed = placed_node own (placed_of items) ∷ [] in
    let list : AreItems (suc below) (opening ∷ (more ++ w ∷ [])) whole = nested opening w more [] items [] is_open is_close form none refl refl in (
      opening ∷ (more ++ w ∷ []),
      subst (λ ws. LexedTo text ws at) (regroup words opening more w) lexed,
      rw (← same) (subst (λ n. AreItems n (opening ∷ (more ++ w ∷ [])) whole) deep list),
    )

-- ---- what stands behind those that were there

-- one more is put there
pub one_behind : {X : Type 0} (old now next : List X) (x : X) → take (length old) now ≡ old → next ≡ now ++ x ∷ []
    → (take (length old) next ≡ old) × (drop (length old) next ≡ drop (length old) now ++ x ∷ [])
one_behind old now next x front is =
    let low : length old ≤ length now = omega (arith, ap length front, length-take (length old) now) in
    (ap (take (length old)) is ∙ take-append-le (length old) now (x ∷ []) low ∙ front, ap (drop (length old)) is ∙ drop-append-le (length old) now (x ∷ []) low)

-- ---- a text's end

-- what was read up to the text's end is the text's
pub whole_text : {V : Type 0} (text : List ℕ) (at : ℕ) (view : V → List Placed) (items : List Placed) (end : Result (Option ℕ) TextFault) (r : Result V TextFault) → length text ≤ 16777216
    → IfOk end (ReadsItems text [] 128 items at) → IfOk r (λ v. (view v ≡ items) × (end ≡ Ok None)) → IfOk r (λ v. HasItems text (view v))
whole_text text at view items end (Ok v) within read (same, ends) =
    let (more, form, (spells, valued)) = rw ends at read in
    record { words = more; within = within; spells = spells; valued = valued; form = rw same form }
whole_text text at view items end (Err fault) within read is = tt
