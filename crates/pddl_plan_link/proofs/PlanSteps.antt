-- The steps of a plan, linked one after another.
use Rattle.std.proofs.Common.{◌≡◌, ◌<◌, ◌≤◌, ℕ, ◌+◌, List, [], ◌∷◌, ◌++◌, map, length, get_or, drop, take, refl, sym, ap, ◌∙◌, subst, arith}
use Rattle.std.specs.Prelude.{Option, Some, None, Result, Ok, Err, IfOk, OnOk, IfSome, slice_get, option_map}
use Rattle.std.specs.Result.{result_and}
use Rattle.std.specs.List.{AllByRecursion}
use Rattle.std.proofs.lemmas.Option.{slice_get-map, get_or_from_slice_get}
use Rattle.std.proofs.lemmas.List.{map_more, take_all, length-map, length-take-le, take-append-drop, map-append}
use Rattle.pddl_task.specs.Names.{number_in}
use Rattle.pddl_plan.specs.Plans.{StepValue, TimedValue, PlanValue, plain, timed, steps_of, moment_at}
use Rattle.pddl_task.specs.Tasks.{TaskValue, object_names}
use Rattle.pddl_linked_plan.specs.StepFaults.{action_names, step_faults, IsGoodStep, most_steps, IsLinkedPlan, IsFirstFault, IsPlanFault}
use Rattle.pddl_linked_plan.specs.LinkedSteps.{LinkedStepValue, linked_step, linked_steps}
use Rattle.pddl_plan_link.specs.declared.fault.StepFault.{StepFault}
use Rattle.pddl_plan_link.specs.StepVerdicts.{plan_fault_of, PlanVerdict}
use Rattle.pddl_faults.proofs.ListTurns.{rest_is}

good_more : (task : TaskValue) (before : List StepValue) (s : StepValue) → AllByRecursion (IsGoodStep task) before → IsGoodStep task s → AllByRecursion (IsGoodStep task) (before ++ s ∷ [])
good_more task [] s good is = (is, tt)
good_more task (b ∷ before) s good is = (good.0, good_more task before s good.1 is)

module _ {X : Type 0} (task : TaskValue) (view : X → StepValue) (link : X → LinkedStepValue) (plan : List X) where
  -- the steps up to a place have no fault, and these are they by numbers
  pub record AreLinked (i : ℕ) (done : List LinkedStepValue) : Type 0 where
    pub good : AllByRecursion (IsGoodStep task) (map view (take i plan))
    pub done_are : done ≡ map link (take i plan)

  pub linked_more : (i : ℕ) (done : List LinkedStepValue) (x : X) (s : LinkedStepValue) → i < length plan → x ≡ get_or plan i x → step_faults task (view x) ≡ [] → s ≡ link x
      → AreLinked i done → AreLinked (i + 1) (done ++ s ∷ [])
  linked_more i done x s low at none is so_far = record {
    good = subst (AllByRecursion (IsGoodStep task)) (sym (map_more view plan i x low ∙ ap (λ y. map view (take i plan) ++ view y ∷ []) (sym at)))
        (good_more task (map view (take i plan)) (view x) so_far.good none);
    done_are = ap (λ ss. ss ++ s ∷ []) so_far.done_are ∙ ap (λ t. map link (take i plan) ++ t ∷ []) is
        ∙ ap (λ y. map link (take i plan) ++ link y ∷ []) at ∙ sym (map_more link plan i x low);
  }

  -- the first step that has a fault
  pub first_fault : (i : ℕ) (done : List LinkedStepValue) (x : X) (n : ℕ) → i < length plan → x ≡ get_or plan i x → (others : List ℕ) × (step_faults task (view x) ≡ n ∷ others)
      → AreLinked i done → IsFirstFault task (map view plan) n i
  first_fault i done x n low at first so_far = record {
    before = map view (take i plan);
    step = view x;
    after = map view (drop (i + 1) plan);
    others = first.0;
    steps_are = sym (ap (map view) (take-append-drop i plan)) ∙ map-append view (take i plan) (drop i plan) ∙ ap (λ ys. map view (take i plan) ++ map view ys) (rest_is plan i x low at);
    place_is = length-map (take i plan) view ∙ length-take-le i plan (omega (arith, low));
    good = so_far.good;
    lowest = first.1;
  }

  pub all_good : (i : ℕ) (done : List LinkedStepValue) → length plan ≤ i → AreLinked i done → AllByRecursion (IsGoodStep task) (map view plan)
  all_good i done past so_far = subst (λ xs. AllByRecursion (IsGoodStep task) (map view xs)) (take_all i plan past) so_far.good

  pub all_done : (i : ℕ) (done : List LinkedStepValue) → length plan ≤ i → AreLinked i done → done ≡ map link plan
  all_done i done past so_far = so_far.done_are ∙ ap (map link) (take_all i plan past)

  -- a fault that is answered for a step is the plan's
  pub fault_found : (i : ℕ) (done : List LinkedStepValue) (x : X) (faults : List ℕ) (o : Option (ℕ × Option ℕ)) → i < length plan → x ≡ get_or plan i x → length plan ≤ most_steps
      → step_faults task (view x) ≡ faults → IfSome o (λ f. (f.1 ≡ Some i) × ((others : List ℕ) × (faults ≡ f.0 ∷ others))) → AreLinked i done
      → IfSome o (λ f. IsPlanFault task (plain (map view plan)) f.0 f.1)
  fault_found i done x faults None low at short are h so_far = tt
  fault_found i done x faults (Some f) low at short are h so_far =
      subst (IsPlanFault task (plain (map view plan)) f.0) (sym h.0) (omega (arith, short, length-map plan view), first_fault i done x f.0 low at (h.1.0, are ∙ h.1.1) so_far)

  pub none_linked : (done : List LinkedStepValue) → done ≡ [] → AreLinked 0 done
  none_linked done none = record { good = tt; done_are = none }

  pub all_linked : (i : ℕ) (done : List LinkedStepValue) → length plan ≤ i → length plan ≤ most_steps → AreLinked i done → IsLinkedPlan task (plain (map view plan))
  all_linked i done past short so_far = record { short = omega (arith, short, length-map plan view); good = all_good i done past so_far }

-- a step by what was found for it
module _ (task : TaskValue) (found own : StepValue) (same : found ≡ own) where
  pub step_is : (action : ℕ) (objects : List ℕ) (moment of_own : Option ℕ) → action ≡ number_in (action_names task) found.action → objects ≡ map (number_in (object_names task)) found.objects → moment ≡ of_own
      → record { action = action; objects = objects; moment = moment } ≡ linked_step task of_own own
  step_is action objects moment of_own first second third =
      ap (λ a. record { action = a; objects = objects; moment = moment }) first
      ∙ ap (λ os. record { action = number_in (action_names task) found.action; objects = os; moment = moment }) second
      ∙ ap (λ m. linked_step task m found) third ∙ ap (linked_step task of_own) same

-- steps that were linked into a list, if they were
pub verdict_made : {T U : Type 0} (task : TaskValue) (plan : PlanValue) (made : Result U StepFault) (steps : T) → PlanVerdict task plan made → PlanVerdict task plan (result_and made (Ok steps))
verdict_made task plan (Ok u) steps h = h
verdict_made task plan (Err e) steps h = h

pub steps_made : {T U : Type 0} (made : Result U StepFault) (steps linked : T) → OnOk made (steps ≡ linked) → IfOk (result_and made (Ok steps)) (λ y. y ≡ linked)
steps_made (Ok u) steps linked h = h
steps_made (Err e) steps linked h = tt

-- ---- a plan by its steps and their moments

map_in_turn : {A B C : Type 0} (f : A → B) (g : B → C) (h : A → C) (xs : List A) → ((x : A) → g (f x) ≡ h x) → map g (map f xs) ≡ map h xs
map_in_turn f g h [] same = refl
map_in_turn f g h (x ∷ xs) same = rw (same x, map_in_turn f g h xs same) refl

map_same : {A : Type 0} (xs : List A) → map (λ (x : A). x) xs ≡ xs
map_same [] = refl
map_same (x ∷ xs) = ap (λ ys. x ∷ ys) (map_same xs)

module _ (task : TaskValue) (p q : PlanValue) (same : steps_of p ≡ steps_of q) where
  same_fault : (n : ℕ) (o : Option ℕ) → IsPlanFault task p n o → IsPlanFault task q n o
  same_fault n None h = (h.0, subst (λ ss. most_steps < length ss) same h.1)
  same_fault n (Some place) h = (subst (λ ss. length ss ≤ most_steps) same h.0, subst (λ ss. IsFirstFault task ss n place) same h.1)

  pub some_fault : (o : Option (ℕ × Option ℕ)) → IfSome o (λ f. IsPlanFault task p f.0 f.1) → IfSome o (λ f. IsPlanFault task q f.0 f.1)
  some_fault None h = tt
  some_fault (Some f) h = same_fault f.0 f.1 h

  -- the verdict on a plan hangs on its steps
  pub same_verdict : {T : Type 0} (r : Result T StepFault) → PlanVerdict task p r → PlanVerdict task q r
  same_verdict (Ok u) h = record { short = subst (λ ss. length ss ≤ most_steps) same h.short; good = subst (AllByRecursion (IsGoodStep task)) same h.good }
  same_verdict (Err e) h = some_fault (plan_fault_of e) h

abbrev pub Row : Type 0
Row = Option ℕ × StepValue

abbrev pub rows_of : PlanValue → List Row
rows_of (plain steps) = map (λ s. (None, s)) steps
rows_of (timed steps) = map (λ s. (Some s.moment, s.step)) steps

abbrev pub row_step : Row → StepValue
row_step r = r.1

abbrev pub row_link : TaskValue → Row → LinkedStepValue
row_link task r = linked_step task r.0 r.1

module _ (task : TaskValue) where
  pub steps_of_rows : (p : PlanValue) → map row_step (rows_of p) ≡ steps_of p
  steps_of_rows (plain steps) = map_in_turn (λ s. (None, s)) row_step (λ s. s) steps (λ s. refl) ∙ map_same steps
  steps_of_rows (timed steps) = map_in_turn (λ s. (Some s.moment, s.step)) row_step (λ s. s.step) steps (λ s. refl)

  pub linked_rows : (p : PlanValue) → map (row_link task) (rows_of p) ≡ linked_steps task p
  linked_rows (plain steps) = map_in_turn (λ s. (None, s)) (row_link task) (linked_step task None) steps (λ s. refl)
  linked_rows (timed steps) = map_in_turn (λ s. (Some s.moment, s.step)) (row_link task) (λ s. linked_step task (Some s.moment) s.step) steps (λ s. refl)

  pub as_many_rows : (p : PlanValue) → length (rows_of p) ≡ length (steps_of p)
  as_many_rows p = sym (length-map (rows_of p) row_step) ∙ ap length (steps_of_rows p)

  -- the step of a number, with its moment
  pub row_at : (p : PlanValue) (n : ℕ) (step : StepValue) → Some step ≡ slice_get (steps_of p) n → (moment_at p n, step) ≡ get_or (rows_of p) n (moment_at p n, step)
  row_at (plain steps) n step is =
      sym (get_or_from_slice_get (rows_of (plain steps)) n (None, step) (None, step) (slice_get-map (λ s. (None, s)) steps n ∙ ap (option_map (λ s. (None, s))) (sym is)))
  row_at (timed steps) n step is = of_timed (slice_get steps n) refl
    where
      of_timed : (o : Option TimedValue) → slice_get steps n ≡ o → (moment_at (timed steps) n, step) ≡ get_or (rows_of (timed steps)) n (moment_at (timed steps) n, step)
      of_timed None none =
          let bad : Some step ≡ None = is ∙ slice_get-map (λ s. s.step) steps n ∙ ap (option_map (λ s. s.step)) none in
          absurd (cc (bad))
      of_timed (Some s) some =
          let own : Some step ≡ Some s.step = is ∙ slice_get-map (λ s. s.step) steps n ∙ ap (option_map (λ s. s.step)) some in
          let same : step ≡ s.step = cc (own) in
          let time : moment_at (timed steps) n ≡ Some s.moment = ap (option_map (λ s. s.moment)) some in
          let row : Row = (Some s.moment, s.step) in
          let here : (moment_at (timed steps) n, step) ≡ row = rw (time, same) refl in
          here ∙ sym (get_or_from_slice_get (rows_of (timed steps)) n row (moment_at (timed steps) n, step) (slice_get-map (λ s. (Some s.moment, s.step)) steps n ∙ ap (option_map (λ s. (Some s.moment, s.step))) some))

  -- the verdict on the steps is that on the plan
  pub plan_verdict : {T : Type 0} (p : PlanValue) (r : Result T StepFault) → PlanVerdict task (plain (map row_step (rows_of p))) r → PlanVerdict task p r
  plan_verdict p r h = same_verdict task (plain (map row_step (rows_of p))) p (steps_of_rows p) r h

  pub plan_fault : (p : PlanValue) (o : Option (ℕ × Option ℕ)) → IfSome o (λ f. IsPlanFault task (plain (map row_step (rows_of p))) f.0 f.1) → IfSome o (λ f. IsPlanFault task p f.0 f.1)
  plan_fault p o h = some_fault task (plain (map row_step (rows_of p))) p (steps_of_rows p) o h
