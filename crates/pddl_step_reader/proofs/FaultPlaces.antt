-- A fault of a plan file stands in its text.
use Rattle.std.proofs.Common.{◌≡◌, ℕ, ◌≤◌, List, [], ◌∷◌, length, refl, sym, ap, subst, ◌∙◌, arith}
use Rattle.std.specs.Prelude.{Some}
use Rattle.pddl_token.specs.declared.token.Span.{Span}
use Rattle.pddl_token.specs.Trees.{Placed, placed_leaf, placed_node, placed_of}
use Rattle.pddl_text.specs.Texts.{HasItems}
use Rattle.pddl_text.proofs.FaultPlaces.{AllStartIn, items_inside, IsInside, text_inside, starts_by, rest_of}
use Rattle.pddl_step_reader.specs.declared.fault.ReadFault.{ReadFault}
use Rattle.pddl_step_reader.specs.declared.fault.ReadFault.TheVariants as faults
use Rattle.pddl_step_reader.specs.Places.{fault_place}
use Rattle.pddl_step_reader.specs.PlanFaults.{StepKind, alone, at_moments, other_kind, Follows, IsNext, IsNextBracket, IsReached}
use Rattle.pddl_items.specs.Items.{span_of}
use Rattle.pddl_step_reader.specs.PlanTexts.{PlanStands}

-- the first of the items behind others
pub next_inside : (text : List ℕ) (kind : StepKind) (before after items : List Placed) (span : Span) → HasItems text items → IsReached kind before after items → IsNext span after → IsInside text span.start
next_inside text kind before [] items span has reached bad = absurd bad
next_inside text kind before (item ∷ after) items span has reached next =
    let starts = items_inside text items has in
    let first = starts_by (length text) item (rest_of (length text) before (item ∷ after) (subst (λ (items : List Placed). AllStartIn (length text) (placed_of items)) reached.items_are starts)).0 in
    let le : span.start ≤ length text = omega (arith, first, ap (λ (s : Span). s.start) next) in
    (le, omega (arith, le, has.within))

bracket_next : (span : Span) (after : List Placed) → IsNextBracket span after → IsNext span after
bracket_next span [] bad = bad
bracket_next span (placed_leaf w ∷ after) bracket = bracket.1
bracket_next span (placed_node s children ∷ after) bad = absurd bad

-- a step that follows starts where its first item does
follows_next : (kind : StepKind) (span : Span) (after : List Placed) → Follows kind span after → (next : Span) × IsNext next after × (next.start ≡ span.start)
follows_next alone span [] bad = absurd bad
follows_next alone span (item ∷ after) (step, is, span_is) = (span_of item, refl, ap (λ (s : Span). s.start) (sym span_is))
follows_next at_moments span [] bad = absurd bad
follows_next at_moments span (number ∷ []) bad = absurd bad
follows_next at_moments span (number ∷ colon ∷ []) bad = absurd bad
follows_next at_moments span (number ∷ colon ∷ item ∷ after) (step, is, span_is) = (span_of number, refl, ap (λ (s : Span). s.start) (sym span_is))

pub fault_inside : (text : List ℕ) (fault : ReadFault) (at : ℕ) → PlanStands fault text → fault_place fault ≡ Some at → (at ≤ length text) × (at ≤ 16777216)
fault_inside text (faults.Text fault) at stands e = text_inside fault text at stands e
fault_inside text (faults.Step span near) at stands e =
    let f = stands.0.fault in
    let same : span.start ≡ at = cc (e) in
    subst (IsInside text) same (next_inside text f.kind f.before f.after stands.0.items span stands.0.has f.reached f.holds.2)
fault_inside text (faults.Mixed span) at stands e =
    let f = stands.fault in
    let next = follows_next (other_kind f.kind) span f.after f.holds.1 in
    let same : next.0.start ≡ at = next.2 ∙ (cc (e)) in
    subst (IsInside text) same (next_inside text f.kind f.before f.after stands.items next.0 stands.has f.reached next.1)
fault_inside text (faults.Duration span) at stands e =
    let f = stands.fault in
    let same : span.start ≡ at = cc (e) in
    subst (IsInside text) same (next_inside text f.kind f.before f.after stands.items span stands.has f.reached (bracket_next span f.after f.holds.2))
