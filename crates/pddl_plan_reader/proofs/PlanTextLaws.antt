-- A text has one plan or one fault, and reading answers it.
use Rattle.std.proofs.Common.{◌≡◌, ◌≤◌, ℕ, List, length, refl, sym, ap, subst, ◌∙◌, arith, inl, inr}
use Rattle.std.specs.Prelude.{◌≢◌, ◌⊎◌, Ok, Err}
use Rattle.pddl_scan.specs.declared.fault.TextFault.{TextFault}
use Rattle.pddl_scan.specs.declared.fault.TextFault.TheVariants.{Memory}
use Rattle.pddl_token.specs.Trees.{Placed}
use Rattle.pddl_text.specs.Texts.{HasItems, TextStands}
use Rattle.pddl_text.proofs.TextItems.{one_items}
use Rattle.pddl_text.proofs.TextFaults.{one_text_fault, no_fault_in_items}
use Rattle.pddl_step_reader.specs.declared.fault.ReadFault.{ReadFault}
use Rattle.pddl_step_reader.specs.declared.fault.ReadFault.TheVariants as faults
use Rattle.pddl_plan.specs.Plans.{PlanValue}
use Rattle.pddl_step_reader.specs.PlanTexts.{SpellsPlan, PlanStands, without_near}
use Rattle.pddl_step_reader.specs.Inner.PlanReading.{plan_at, Refuses}
use Rattle.pddl_step_reader.proofs.FaultPlaces.{next_inside}
use Rattle.pddl_step_reader.proofs.PlanLaws.{plan_complete, plan_sound, ItemsStand, fault_sound, mixed_complete, duration_complete, no_step_complete}

pub one_plan : (text : List ℕ) (plan other : PlanValue) → SpellsPlan plan text → SpellsPlan other text → plan ≡ other
one_plan text plan other p q =
    let same = one_items text p.items q.items p.has q.has in
    let read : Ok plan ≡ Ok other = sym (plan_complete plan p.items p.steps) ∙ ap plan_at same ∙ plan_complete other q.items q.steps in
    cc (read)

-- ---- faults

-- a fault of the text, or the fault that is read from its items
abbrev IsFaultOf : ReadFault → List ℕ → Type 0
IsFaultOf fault text = ((t : TextFault) × (fault ≡ faults.Text t) × TextStands t text) ⊎ ((items : List Placed) × HasItems text items × (plan_at items ≡ Err (without_near fault)))

fault_of : (fault : ReadFault) (text : List ℕ) → PlanStands fault text → IsFaultOf fault text
fault_of (faults.Text t) text stands = inl (t, refl, stands)
fault_of (faults.Step span near) text stands = inr (stands.0.items, stands.0.has, no_step_complete span stands.0.items stands.0.fault)
fault_of (faults.Mixed span) text stands = inr (stands.items, stands.has, mixed_complete span stands.items stands.fault)
fault_of (faults.Duration span) text stands = inr (stands.items, stands.has, duration_complete span stands.items stands.fault)

-- a text with items has no fault of its own but want of memory
no_text_fault : (fault : ReadFault) (text : List ℕ) (items : List Placed) (t : TextFault) → fault ≡ faults.Text t → TextStands t text → HasItems text items → fault ≡ faults.Text Memory
no_text_fault fault text items t is stands has = is ∙ ap (λ u. faults.Text u) (no_fault_in_items text t items stands has)

pub one_plan_fault : (text : List ℕ) (fault other : ReadFault) → PlanStands fault text → PlanStands other text → fault ≢ faults.Text Memory → other ≢ faults.Text Memory → without_near fault ≡ without_near other
one_plan_fault text fault other p q no_memory no_other = by_kinds (fault_of fault text p) (fault_of other text q)
  where
    by_kinds : IsFaultOf fault text → IsFaultOf other text → without_near fault ≡ without_near other
    by_kinds (inl (t, is, stands)) (inl (u, are, stand)) =
        ap without_near (is ∙ ap (λ v. faults.Text v) (one_text_fault text t u stands stand (λ e. no_memory (is ∙ ap (λ v. faults.Text v) e)) (λ e. no_other (are ∙ ap (λ v. faults.Text v) e))) ∙ sym are)
    by_kinds (inl (t, is, stands)) (inr (items, has, read)) = absurd (no_memory (no_text_fault fault text items t is stands has))
    by_kinds (inr (items, has, read)) (inl (u, are, stand)) = absurd (no_other (no_text_fault other text items u are stand has))
    by_kinds (inr (items, has, read)) (inr (others, have, reads)) =
        let same : Err (without_near fault) ≡ Err (without_near other) = sym read ∙ ap plan_at (one_items text items others has have) ∙ reads in
        cc (same)

pub no_fault_in_plan : (text : List ℕ) (fault : ReadFault) (plan : PlanValue) → PlanStands fault text → SpellsPlan plan text → fault ≡ faults.Text Memory
no_fault_in_plan text fault plan p q = by_kind (fault_of fault text p)
  where
    by_kind : IsFaultOf fault text → fault ≡ faults.Text Memory
    by_kind (inl (t, is, stands)) = no_text_fault fault text q.items t is stands q.has
    by_kind (inr (items, has, read)) =
        let same : Ok plan ≡ Err (without_near fault) = sym (plan_complete plan q.items q.steps) ∙ ap plan_at (one_items text q.items items q.has has) ∙ read in
        absurd (cc (same))

-- ---- what the code answers

pub read_spells : (text : List ℕ) (items : List Placed) (plan : PlanValue) → HasItems text items → plan_at items ≡ Ok plan → SpellsPlan plan text
read_spells text items plan has read = record { items = items; has = has; steps = plan_sound items plan read }

-- a fault of items is one of their text
items_stand : (fault : ReadFault) (text : List ℕ) (items : List Placed) → HasItems text items → ItemsStand fault items → PlanStands fault text
items_stand (faults.Text t) text items has bad = absurd bad
items_stand (faults.Step span near) text items has stands =
    let f = stands.0 in
    let inside = next_inside text f.kind f.before f.after items span has f.reached f.holds.2 in
    (record { items = items; has = has; fault = f }, omega (arith, stands.1), subst (λ n. n ≤ length text) stands.1 inside.0)
items_stand (faults.Mixed span) text items has stands = record { items = items; has = has; fault = stands }
items_stand (faults.Duration span) text items has stands = record { items = items; has = has; fault = stands }

pub refused_stands : (fault : ReadFault) (text : List ℕ) (items : List Placed) → HasItems text items → Refuses fault (plan_at items) → PlanStands fault text
refused_stands (faults.Text t) text items has refused = subst (λ u. TextStands u text) (sym refused) tt
refused_stands (faults.Step span near) text items has refused = items_stand (faults.Step span near) text items has (fault_sound items (faults.Step span near) refused)
refused_stands (faults.Mixed span) text items has refused = items_stand (faults.Mixed span) text items has (fault_sound items (faults.Mixed span) refused)
refused_stands (faults.Duration span) text items has refused = items_stand (faults.Duration span) text items has (fault_sound items (faults.Duration span) refused)

pub read_only : (text : List ℕ) (items : List Placed) (plan found : PlanValue) → HasItems text items → SpellsPlan plan text → plan_at items ≡ Ok found → found ≡ plan
read_only text items plan found has spells read =
    one_plan text found plan (read_spells text items found has read) spells

pub refused_only : (text : List ℕ) (items : List Placed) (plan : PlanValue) (fault : ReadFault) → HasItems text items → SpellsPlan plan text → Refuses fault (plan_at items) → fault ≡ faults.Text Memory
refused_only text items plan fault has spells refused = no_fault_in_plan text fault plan (refused_stands fault text items has refused) spells
