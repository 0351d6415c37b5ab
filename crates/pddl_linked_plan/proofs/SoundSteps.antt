-- Steps by numbers, and the steps of their names.
use Rattle.std.proofs.Common.{◌≡◌, ◌<◌, ◌≤◌, inl, inr, ℕ, zero, suc, true, false, List, [], ◌∷◌, map, length, bytes_eq, refl, sym, ap, ◌∙◌, subst, arith}
use Rattle.std.specs.Prelude.{◌↔◌, Option, Some, None, is_some, unwrap_or, slice_get, Contains}
use Rattle.std.specs.List.{list_all, IsDistinct, AllByRecursion}
use Rattle.std.proofs.lemmas.List.{length-map}
use Rattle.std.proofs.lemmas.Option.{slice_get_within}
use Rattle.pddl_plan.specs.Plans.{StepValue, TimedValue, PlanValue, plain, timed}
use Rattle.pddl_formula.specs.Terms.{name}
use Rattle.pddl_domain.specs.Domains.{DomainValue}
use Rattle.pddl_problem.specs.Problems.{ProblemValue}
use Rattle.pddl_task.specs.Names.{Name, is_in, item_of, number_in}
use Rattle.pddl_task.specs.Faults.{some_misfit}
use Rattle.pddl_task.specs.Linked.{IsLinked}
use Rattle.pddl_task.specs.Tasks.{TaskValue, task_of, object_names}
use Rattle.pddl_task.proofs.LinkedTasks.{actions_stand_once, objects_stand_once}
use Rattle.pddl_task.proofs.LowestFault.{linked_is_good}
use Rattle.pddl_linked_plan.specs.StepFaults.{action_name, action_names, naming, some_costless, IsGoodStep, IsLinkedPlan, most_steps}
use Rattle.pddl_linked_plan.specs.LinkedSteps.{LinkedStepValue, linked_step, linked_plain, linked_timed, linked_steps, AreLinkedSteps}
use Rattle.pddl_linked_plan.specs.FittingObjects.{some_unfit}
use Rattle.pddl_linked_plan.specs.LinkedLaws.{name_at, named_step, IsLinkedStep, HaveAlikeMoments, AreSoundSteps, without_moment}
use Rattle.pddl_linked_plan.proofs.Numbers.{found_at_number, is_found}
use Rattle.pddl_linked_plan.proofs.NumberedObjects.{unfit_is}
use Rattle.pddl_linked_plan.proofs.NameNumbers.{name_of_number, names_of_numbers, numbers_in_range, names_are_in, number_of_name, numbers_of_names}
use Rattle.pddl_linked_plan.proofs.GoodSteps.{IsFaultless, none_unknown, faultless_of, good_of}

-- ---- lists of steps

all_mapped : {X Y : Type 0} (P : X → Type 0) (Q : Y → Type 0) (f : X → Y) (more : (x : X) → P x → Q (f x)) (xs : List X) → AllByRecursion P xs → AllByRecursion Q (map f xs)
all_mapped P Q f more [] h = tt
all_mapped P Q f more (x ∷ xs) h = (more x h.0, all_mapped P Q f more xs h.1)

all_same : {X Y : Type 0} (P : X → Type 0) (f g : X → Y) (same : (x : X) → P x → f x ≡ g x) (xs : List X) → AllByRecursion P xs → map f xs ≡ map g xs
all_same P f g same [] h = refl
all_same P f g same (x ∷ xs) h = ap (λ y. y ∷ map f xs) (same x h.0) ∙ ap (λ ys. g x ∷ ys) (all_same P f g same xs h.1)

pub all_at : {X : Type 0} (P : X → Type 0) (xs : List X) → AllByRecursion P xs → (x : X) → Contains xs x → P x
all_at P [] h x c = absurd (omega (arith, c.1))
all_at P (y ∷ xs) h x (zero, low, is) = subst P is h.0
all_at P (y ∷ xs) h x (suc k, low, is) = all_at P xs h.1 x (k, omega arith, is)

pub all_of : {X : Type 0} (P : X → Type 0) (xs : List X) → ((x : X) → Contains xs x → P x) → AllByRecursion P xs
all_of P [] h = tt
all_of P (x ∷ xs) h = (h x (0, omega arith, refl), all_of P xs (λ y c. h y (suc c.0, omega (arith, c.1), c.2)))

-- ---- one step

module _ (task : TaskValue) where
  abbrev objects : List Name
  objects = object_names task

  as_many_objects : length objects ≡ length task.objects
  as_many_objects = length-map task.objects item_of

  in_range : (ks : List ℕ) → AllByRecursion (λ k. k < length task.objects) ks → AllByRecursion (λ k. k < length objects) ks
  in_range ks = subst (λ len. AllByRecursion (λ k. k < len) ks) (sym as_many_objects)

  -- a step without faults, by its numbers
  module _ (s : StepValue) (moment : Option ℕ) (f : IsFaultless task s) where
    action_known : is_in (action_names task) s.action ≡ true
    action_known = is_found action_name task.actions s.action ∙ ap is_some f.named

    names_back : named_step task (linked_step task moment s) ≡ s
    names_back =
        ap (λ n. record { action = n; objects = map (name_at objects) (map (number_in objects) s.objects) }) (name_of_number (action_names task) s.action action_known)
        ∙ ap (λ os. record { action = s.action; objects = os }) (names_of_numbers objects s.objects f.known)

    pub linked_of : IsLinkedStep task (linked_step task moment s)
    linked_of = record {
      action = f.action;
      action_is = sym (found_at_number action_name task.actions s.action) ∙ f.named;
      as_many = length-map s.objects (number_in objects) ∙ f.arity;
      in_range = subst (λ len. AllByRecursion (λ k. k < len) (map (number_in objects) s.objects)) as_many_objects (numbers_in_range objects s.objects f.known);
      fitting = unfit_is task s.objects f.action.parameters (none_unknown objects s.objects f.known) ∙ f.fitting;
      costs = ap (λ t. some_costless task t f.action) names_back ∙ f.costs;
      within = f.within;
    }

  -- a step by numbers, by its names
  module _ (once : IsDistinct bytes_eq (action_names task)) (apart : IsDistinct bytes_eq objects) (s : LinkedStepValue) (l : IsLinkedStep task s) where
    abbrev own : StepValue
    own = named_step task s

    action_number : number_in (action_names task) own.action ≡ s.action
    action_number =
        let low = slice_get_within task.actions s.action l.action l.action_is in
        number_of_name (action_names task) s.action once (omega (arith, low, length-map task.actions action_name))

    object_numbers : map (number_in objects) own.objects ≡ s.objects
    object_numbers = numbers_of_names objects s.objects apart (in_range s.objects l.in_range)

    pub names_known : list_all (is_in objects) own.objects ≡ true
    names_known = names_are_in objects s.objects (in_range s.objects l.in_range)

    pub numbers_back : linked_step task s.moment own ≡ s
    numbers_back =
        ap (λ k. record { action = k; objects = map (number_in objects) own.objects; moment = s.moment }) action_number
        ∙ ap (λ ks. record { action = s.action; objects = ks; moment = s.moment }) object_numbers

    misfit_is : some_misfit (naming task.types task.objects) [] (map name own.objects) l.action.parameters ≡ false
    misfit_is =
        sym (unfit_is task own.objects l.action.parameters (none_unknown objects own.objects names_known))
        ∙ ap (λ ks. some_unfit task ks l.action.parameters) object_numbers ∙ l.fitting

    pub good_names : IsGoodStep task own
    good_names = good_of task own (record {
      action = l.action;
      named = found_at_number action_name task.actions own.action ∙ ap (slice_get task.actions) action_number ∙ l.action_is;
      arity = length-map s.objects (name_at objects) ∙ l.as_many;
      known = names_known;
      fitting = misfit_is;
      costs = l.costs;
      within = l.within;
    })

-- ---- all steps

module _ (task : TaskValue) where
  each_linked : (steps : List StepValue) → AllByRecursion (IsGoodStep task) steps → AllByRecursion (IsLinkedStep task) (map (linked_plain task) steps)
  each_linked = all_mapped (IsGoodStep task) (IsLinkedStep task) (linked_plain task) (λ s good. linked_of task s None (faultless_of task s good))

  each_timed : (steps : List TimedValue) → AllByRecursion (IsGoodStep task) (map (λ s. s.step) steps) → AllByRecursion (IsLinkedStep task) (map (linked_timed task) steps)
  each_timed [] good = tt
  each_timed (s ∷ steps) good = (linked_of task s.step (Some s.moment) (faultless_of task s.step good.0), each_timed steps good.1)

  no_moment : (steps : List StepValue) → AllByRecursion (λ s. s.moment ≡ None) (map (linked_plain task) steps)
  no_moment [] = tt
  no_moment (s ∷ steps) = (refl, no_moment steps)

  each_moment : (steps : List TimedValue) → AllByRecursion (λ s. is_some s.moment ≡ true) (map (linked_timed task) steps)
  each_moment [] = tt
  each_moment (s ∷ steps) = (refl, each_moment steps)

  plan_is_sound : (plan : PlanValue) → IsLinkedPlan task plan → AreSoundSteps task (linked_steps task plan)
  plan_is_sound (plain steps) linked =
      let short = linked.short in
      record { short = omega (arith, short, length-map steps (linked_plain task)); each = each_linked steps linked.good; alike = inl (no_moment steps) }
  plan_is_sound (timed steps) linked =
      let short = linked.short in
      record {
        short = omega (arith, short, length-map steps (linked_timed task), length-map steps (λ (s : TimedValue). s.step));
        each = each_timed steps linked.good;
        alike = inr (each_moment steps);
      }

  pub sound_of : (steps : List LinkedStepValue) → AreLinkedSteps task steps → AreSoundSteps task steps
  sound_of steps linked = subst (AreSoundSteps task) (sym linked.steps_are) (plan_is_sound linked.plan linked.linked)

  module _ (once : IsDistinct bytes_eq (action_names task)) (apart : IsDistinct bytes_eq (object_names task)) where
    names_good : (steps : List LinkedStepValue) → AllByRecursion (IsLinkedStep task) steps → AllByRecursion (IsGoodStep task) (map (named_step task) steps)
    names_good = all_mapped (IsLinkedStep task) (IsGoodStep task) (named_step task) (λ s l. good_names task once apart s l)

    -- the plain plan of their names
    pub plain_linked : (steps : List LinkedStepValue) → length steps ≤ most_steps → AllByRecursion (IsLinkedStep task) steps → IsLinkedPlan task (plain (map (named_step task) steps))
    plain_linked steps short each = record { short = omega (arith, short, length-map steps (named_step task)); good = names_good steps each }

    pub plain_steps : (steps : List LinkedStepValue) → AllByRecursion (IsLinkedStep task) steps → linked_steps task (plain (map (named_step task) steps)) ≡ map without_moment steps
    plain_steps [] each = refl
    plain_steps (s ∷ steps) each =
        ap (λ t. without_moment t ∷ linked_steps task (plain (map (named_step task) steps))) (numbers_back task once apart s each.0)
        ∙ ap (λ ts. without_moment s ∷ ts) (plain_steps steps each.1)

    none_left : (steps : List LinkedStepValue) → AllByRecursion (λ s. s.moment ≡ None) steps → map without_moment steps ≡ steps
    none_left [] none = refl
    none_left (s ∷ steps) none =
        ap (λ m. record { action = s.action; objects = s.objects; moment = m } ∷ map without_moment steps) (sym none.0) ∙ ap (λ ts. s ∷ ts) (none_left steps none.1)

    -- their timed plan
    abbrev pub timed_name : LinkedStepValue → TimedValue
    timed_name s = record { moment = unwrap_or s.moment 0; step = named_step task s }

    names_timed : (steps : List LinkedStepValue) → AllByRecursion (IsLinkedStep task) steps → AllByRecursion (IsGoodStep task) (map (λ s. s.step) (map timed_name steps))
    names_timed [] each = tt
    names_timed (s ∷ steps) each = (good_names task once apart s each.0, names_timed steps each.1)

    pub timed_linked : (steps : List LinkedStepValue) → length steps ≤ most_steps → AllByRecursion (IsLinkedStep task) steps → IsLinkedPlan task (timed (map timed_name steps))
    timed_linked steps short each = record {
      short = omega (arith, short, length-map steps timed_name, length-map (map timed_name steps) (λ (s : TimedValue). s.step));
      good = names_timed steps each;
    }

    its_moment : (o : Option ℕ) → is_some o ≡ true → Some (unwrap_or o 0) ≡ o
    its_moment None h = cc
    its_moment (Some m) h = refl

    pub timed_steps : (steps : List LinkedStepValue) → AllByRecursion (IsLinkedStep task) steps → AllByRecursion (λ s. is_some s.moment ≡ true) steps → steps ≡ linked_steps task (timed (map timed_name steps))
    timed_steps [] each some = refl
    timed_steps (s ∷ steps) each some =
        sym (ap (λ m. linked_step task m (named_step task s) ∷ linked_steps task (timed (map timed_name steps))) (its_moment s.moment some.0)
        ∙ ap (λ t. t ∷ linked_steps task (timed (map timed_name steps))) (numbers_back task once apart s each.0)
        ∙ ap (λ ts. s ∷ ts) (sym (timed_steps steps each.1 some.1)))

    pub linked_sound : (steps : List LinkedStepValue) → AreSoundSteps task steps → AreLinkedSteps task steps
    linked_sound steps sound = by sound.alike
      where
        by : HaveAlikeMoments steps → AreLinkedSteps task steps
        by (inl none) = record {
          plan = plain (map (named_step task) steps);
          linked = plain_linked steps sound.short sound.each;
          steps_are = sym (plain_steps steps sound.each ∙ none_left steps none);
        }
        by (inr some) = record { plan = timed (map timed_name steps); linked = timed_linked steps sound.short sound.each; steps_are = timed_steps steps sound.each some }

-- ---- steps of linked files

module _ (d : DomainValue) (p : ProblemValue) (linked : IsLinked d p) where
  abbrev task : TaskValue
  task = task_of d p

  once : IsDistinct bytes_eq (action_names task)
  once = actions_stand_once d (linked_is_good d p linked)

  apart : IsDistinct bytes_eq (object_names task)
  apart = objects_stand_once d p

  pub steps_are_sound : (steps : List LinkedStepValue) → AreLinkedSteps task steps ↔ AreSoundSteps task steps
  steps_are_sound steps = (sound_of task steps, linked_sound task once apart steps)

  pub steps_have_names : (s : LinkedStepValue) → IsLinkedStep task s
      → IsGoodStep task (named_step task s) × (list_all (is_in (object_names task)) (named_step task s).objects ≡ true) × (linked_step task s.moment (named_step task s) ≡ s)
  steps_have_names s l = (good_names task once apart s l, names_known task once apart s l, numbers_back task once apart s l)

  pub others_are_linked : (steps others : List LinkedStepValue) → AreLinkedSteps task steps → length others ≤ most_steps → ((s : LinkedStepValue) → Contains others s → Contains steps s)
      → IsLinkedPlan task (plain (map (named_step task) others)) × (linked_steps task (plain (map (named_step task) others)) ≡ map without_moment others)
  others_are_linked steps others were short among =
      let each = all_of (IsLinkedStep task) others (λ s c. all_at (IsLinkedStep task) steps (sound_of task steps were).each s (among s c)) in
      (plain_linked task once apart others short each, plain_steps task once apart others each)
