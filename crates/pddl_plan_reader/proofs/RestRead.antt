-- The end of a text of which the words of whole steps were read.
use Rattle.std.proofs.Common.{◌≡◌, ◌≤◌, ℕ, List, [], ◌++◌, length, map, refl, sym, ap, subst, ◌∙◌, arith, inl, inr}
use Rattle.std.specs.Prelude.{◌⊎◌, ◌<◌, Result, Ok, Err, IfOk, IfErr, OnOk, MatchResult}
use Rattle.std.proofs.lemmas.List.{append_assoc, append-nil, length-map}
use Rattle.pddl_scan.specs.declared.fault.TextFault.{TextFault}
use Rattle.pddl_scan.specs.declared.fault.TextFault.TheVariants as text_faults
use Rattle.pddl_token.specs.Spelling.{PlacedWord, Spells}
use Rattle.pddl_scan.specs.Faults.{AreValued, Stands}
use Rattle.pddl_token.specs.Trees.{Placed, erased}
use Rattle.pddl_text.specs.Lists.{AreItems, ListStands}
use Rattle.pddl_text.specs.Texts.{HasItems, TextStands}
use Rattle.pddl_text.proofs.Nests.{items_append}
use Rattle.pddl_text.proofs.FaultsBehind.{fault_behind}
use Rattle.pddl_step_reader.specs.declared.fault.ReadFault.{ReadFault}
use Rattle.pddl_step_reader.specs.declared.fault.ReadFault.TheVariants as faults
use Rattle.pddl_step_reader.specs.declared.plan_words.Place.{Place}
use Rattle.pddl_step_reader.specs.declared.plan_words.Place.TheVariants.{Between}
use Rattle.pddl_plan.specs.Building.{Building, nothing_built, without_names}
use Rattle.pddl_plan.specs.Plans.{PlanValue, step_of_names, IsStep, AreTimed, plan_of, built_plan, steps_built, timed_built}
use Rattle.pddl_step_reader.specs.PlanTexts.{SpellsPlan, PlanStands}
use Rattle.pddl_token.specs.TreeWords.{Each}
use Rattle.pddl_step_reader.specs.Inner.PlanReading.{plan_at, plan_from, Refuses}
use Rattle.pddl_step_reader.specs.Inner.StepWords.{AreBuilt, AreStepWords, ReadsTo, HasMoved}
use Rattle.pddl_step_reader.proofs.BuiltSteps.{some_timed, plan_is_timed}
use Rattle.pddl_step_reader.proofs.StepsRead.{same_steps}
use Rattle.pddl_step_reader.proofs.PlanLaws.{plan_through}
use Rattle.pddl_plan_reader.proofs.PlanTextLaws.{one_plan, no_fault_in_plan, read_spells, refused_stands}

-- what was read of a text: words of whole steps, and the others
pub record IsReadTo (b : Building) (text : List ℕ) (done kept : List PlacedWord) : Type 0 where
  pub within : length text ≤ 16777216
  pub spells : Spells (done ++ kept) text
  pub valued : AreValued (done ++ kept)
  pub steps : AreStepWords b done

-- without the names of the step that is not ended
pub left_read : (b new : Building) (text : List ℕ) (done kept : List PlacedWord) → new ≡ without_names b → IsReadTo b text done kept → IsReadTo new text done kept
left_read b new text done kept new_is read = record {
  within = read.within;
  spells = read.spells;
  valued = read.valued;
  steps = same_steps b new done (ap (λ (c : Building). c.moments) new_is) (ap (λ (c : Building). c.steps) new_is) read.steps;
}

-- words of steps that were ended since stand among those of whole steps
pub moved_read : (place : Place) (b : Building) (text : List ℕ) (done kept words new : List PlacedWord) → length text ≤ 16777216 → Spells ((done ++ kept) ++ words) text → AreValued ((done ++ kept) ++ words)
    → (moved : HasMoved place b (done ++ (kept ++ words)) new) → IsReadTo b text moved.done new
moved_read place b text done kept words new within spells valued moved =
    let all : (done ++ kept) ++ words ≡ moved.done ++ new = append_assoc done kept words ∙ sym moved.all in
    record { within = within; spells = subst (λ (ws : List PlacedWord). Spells ws text) all spells; valued = subst AreValued all valued; steps = moved.reads.steps }

module _ (b : Building) (text : List ℕ) (done kept : List PlacedWord) (read : IsReadTo b text done kept) where
  -- the text's items, where the other words form items
  items_of : (rest : List Placed) → AreItems 128 kept rest → HasItems text (read.steps.items ++ rest)
  items_of rest form = record { words = done ++ kept; within = read.within; spells = read.spells; valued = read.valued; form = items_append read.steps.form kept rest form }

  -- the plan of all items is that of those behind the steps
  read_through : (rest : List Placed) → plan_at (read.steps.items ++ rest) ≡ plan_from b rest
  read_through rest = plan_through b.moments (steps_built b) read.steps.items rest (by_kind read.steps.built)
    where
      by_kind : AreBuilt b read.steps.items → ((b.moments ≡ []) × Each IsStep (steps_built b) (map erased read.steps.items)) ⊎ ((length b.moments ≡ length (steps_built b)) × (0 < length (steps_built b)) × AreTimed (timed_built b) (map erased read.steps.items))
      by_kind (inl are) = inl are
      by_kind (inr are) = inr (omega (arith, are.0, length-map b.steps step_of_names), omega (arith, are.1, length-map b.steps step_of_names), are.2)

  pub rest_spells : (rest : List Placed) (plan : PlanValue) → AreItems 128 kept rest → plan_from b rest ≡ Ok plan → SpellsPlan plan text
  rest_spells rest plan form is = read_spells text (read.steps.items ++ rest) plan (items_of rest form) (read_through rest ∙ is)

  pub rest_stands : (rest : List Placed) (fault : ReadFault) → AreItems 128 kept rest → Refuses fault (plan_from b rest) → PlanStands fault text
  rest_stands rest fault form refuses = refused_stands fault text (read.steps.items ++ rest) (items_of rest form) (subst (Refuses fault) (sym (read_through rest)) refuses)

  -- no words are left
  pub none_left : kept ≡ [] → SpellsPlan (built_plan b) text
  none_left none_is =
      let has : HasItems text read.steps.items = subst (HasItems text) (append-nil read.steps.items) (items_of [] (subst (λ (ws : List PlacedWord). AreItems 128 ws []) (sym none_is) AreItems.none)) in
      by_kind has read.steps.built
    where
      by_kind : HasItems text read.steps.items → AreBuilt b read.steps.items → SpellsPlan (built_plan b) text
      by_kind has (inl are) = subst (λ (ms : List ℕ). SpellsPlan (plan_of ms (steps_built b)) text) (sym are.0) (record { items = read.steps.items; has = has; steps = are.1 })
      by_kind has (inr are) =
          let as_many : length b.moments ≡ length (steps_built b) = omega (arith, are.0, length-map b.steps step_of_names) in
          let some : 0 < length (steps_built b) = omega (arith, are.1, length-map b.steps step_of_names) in
          subst (λ (p : PlanValue). SpellsPlan p text) (sym (plan_is_timed b.moments (steps_built b) as_many some))
          (record { items = read.steps.items; has = has; steps = (some_timed b.moments (steps_built b) as_many some, are.2) })

  -- a fault of the lists of the words that are left
  pub list_stands : (fault : TextFault) → ListStands fault kept → PlanStands (faults.Text fault) text
  list_stands fault stands = by_fault fault (fault_behind done read.steps.items read.steps.form kept fault stands)
    where
      by_fault : (fault : TextFault) → ListStands fault (done ++ kept) → TextStands fault text
      by_fault text_faults.Memory stands = tt
      by_fault (text_faults.Unopened at) stands = record { words = done ++ kept; within = read.within; spells = read.spells; valued = read.valued; stands = stands }
      by_fault (text_faults.TooDeep at) stands = record { words = done ++ kept; within = read.within; spells = read.spells; valued = read.valued; stands = stands }
      by_fault (text_faults.Unclosed at) stands = record { words = done ++ kept; within = read.within; spells = read.spells; valued = read.valued; stands = stands }
      by_fault text_faults.TooLong bad = absurd bad
      by_fault (text_faults.Stray at) bad = absurd bad
      by_fault (text_faults.Glued at) bad = absurd bad
      by_fault (text_faults.NumberRange at) bad = absurd bad
      by_fault text_faults.AlreadyFailed bad = absurd bad

-- ---- faults

-- a fault of the words of a text is one of the text
pub text_stands : (fault : TextFault) (text : List ℕ) → Stands fault text → PlanStands (faults.Text fault) text
text_stands text_faults.Memory text stands = tt
text_stands text_faults.TooLong text stands = stands
text_stands (text_faults.Stray at) text stands = stands
text_stands (text_faults.Glued at) text stands = stands
text_stands (text_faults.NumberRange at) text stands = stands
text_stands (text_faults.Unopened at) text bad = absurd bad
text_stands (text_faults.TooDeep at) text bad = absurd bad
text_stands (text_faults.Unclosed at) text bad = absurd bad
text_stands text_faults.AlreadyFailed text bad = absurd bad

-- why a text is refused that is read as one piece
pub refused_text : (fault : TextFault) (text : List ℕ) → (fault ≡ text_faults.AlreadyFailed → ⊥) → (fault ≡ text_faults.TooLong → 16777216 < length text)
    → (fault ≡ text_faults.AlreadyFailed) ⊎ ((fault ≡ text_faults.TooLong) ⊎ (fault ≡ text_faults.Memory)) → PlanStands (faults.Text fault) text
refused_text fault text no_failure too_long (inl e) = absurd (no_failure e)
refused_text fault text no_failure too_long (inr (inl e)) = subst (λ f. PlanStands (faults.Text f) text) (sym e) (too_long e)
refused_text fault text no_failure too_long (inr (inr e)) = subst (λ f. PlanStands (faults.Text f) text) (sym e) tt

-- ---- what is said of an answer

pub ok_with : {A E P Q : Type 0} (r : Result A E) → (P → Q) → OnOk r P → OnOk r Q
ok_with (Ok _) then p = then p
ok_with (Err _) then p = tt

pub err_with : {A E : Type 0} {P Q : E → Type 0} (r : Result A E) → ((e : E) → P e → Q e) → IfErr r P → IfErr r Q
err_with (Ok _) then p = tt
err_with (Err e) then p = then e p

-- ---- what is answered is the plan, or memory is wanting

pub answers_only : {A : Type 0} (view : A → PlanValue) (text : List ℕ) (plan : PlanValue) (r : Result A ReadFault) → SpellsPlan plan text → IfOk r (λ found. SpellsPlan (view found) text) → IfErr r (λ fault. PlanStands fault text)
    → MatchResult r (λ found. view found ≡ plan) (λ fault. fault ≡ faults.Text text_faults.Memory)
answers_only view text plan (Ok found) spells ok err = one_plan text (view found) plan ok spells
answers_only view text plan (Err fault) spells ok err = no_fault_in_plan text fault plan err spells

-- ---- before the first piece

pub nothing_read : (b : Building) (kept : List PlacedWord) → b ≡ nothing_built → kept ≡ [] → ReadsTo Between b [] kept
nothing_read b kept b_is kept_is = rw (b_is, kept_is) (record { steps = record { items = []; form = AreItems.none; built = inl (refl, tt) }; rest = (refl, refl) })
