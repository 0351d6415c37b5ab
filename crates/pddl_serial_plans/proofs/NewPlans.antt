-- The plans of serialisations and splits of accepted plans are linked and accepted.
use Rattle.std.proofs.Common.{◌≡◌, ◌<◌, ◌≤◌, ◌+◌, ◌*◌, ℕ, true, List, [], ◌∷◌, map, length, length-append, eqb, refl, sym, ap, ◌∙◌, subst, arith, inl, inr}
use Rattle.std.specs.Prelude.{Option, Some, None, All, is_some, slice_index_or, IsPermutation, bytes_eq}
use Rattle.std.specs.List.{concat, IsDistinct, AllByRecursion}
use Rattle.std.proofs.lemmas.List.{length-map, nil_from_length}
use Rattle.std.proofs.lemmas.List.Elements.{All-from_recursion}
use Rattle.std.proofs.lemmas.List.Sorted.{IsPermutation-trans, length_permutation}
use Rattle.pddl_plan.specs.Plans.{PlanValue}
use Rattle.pddl_domain.specs.Domains.{DomainValue}
use Rattle.pddl_problem.specs.Inits.{GroundValue}
use Rattle.pddl_problem.specs.Problems.{ProblemValue}
use Rattle.pddl_task.specs.Linked.{IsLinked}
use Rattle.pddl_task.specs.Tasks.{TaskValue, task_of, object_names}
use Rattle.pddl_task.proofs.LinkedTasks.{actions_stand_once, objects_stand_once}
use Rattle.pddl_task.proofs.LowestFault.{linked_is_good}
use Rattle.pddl_happenings.specs.Accepted.{IsAcceptedRun}
use Rattle.pddl_happenings.specs.Happenings.{HaveEachOnce, AreOfPlain, AreOfTimed, numbers_to, plain_happenings}
use Rattle.pddl_happenings.specs.Serialisations.{IsSerialOrder}
use Rattle.pddl_happenings.specs.Splits.{IsSplitOf, numbered, split_moments}
use Rattle.pddl_happenings.specs.Steps.{Step}
use Rattle.pddl_happenings.proofs.Copies.{number_within}
use Rattle.pddl_happenings.proofs.ListedOnce.{timed_each, plain_each, is_distinct, as_many}
use Rattle.pddl_happenings.proofs.NewPlans as plans
use Rattle.pddl_happenings.proofs.SplitMoments.{split_timed}
use Rattle.pddl_happenings.proofs.TurnsTaken.{all_listed}
use Rattle.pddl_meaning.specs.Worlds.{Atoms}
use Rattle.pddl_linked_plan.specs.LinkedLaws.{AreSoundSteps, HaveAlikeMoments, IsLinkedStep, without_moment}
use Rattle.pddl_linked_plan.specs.LinkedSteps.{LinkedStepValue, linked_steps}
use Rattle.pddl_linked_plan.specs.StepFaults.{IsLinkedPlan, action_names, most_steps}
use Rattle.pddl_linked_plan.proofs.SoundSteps.{steps_are_sound, plain_linked, plain_steps, timed_linked, timed_steps}
use Rattle.pddl_plan_steps.specs.PlanSteps.{named_steps, initial_state, goal_of}
use Rattle.pddl_serial.specs.Orders.{in_order}
use Rattle.pddl_serial.specs.Cuts.{cut_in_order}
use Rattle.pddl_serial.specs.declared.turns.Order.{Order}
use Rattle.pddl_serial.proofs.CutLists.{cut_is_split}
use Rattle.pddl_serial.proofs.InTurn.{is_serial}
use Rattle.pddl_plan_steps.specs.AcceptedPlans.{AreHappeningsOf, IsAcceptedPlan, moments_in}
use Rattle.pddl_plan_steps.proofs.NamedFrames.{named_framed}
use Rattle.pddl_plan_steps.proofs.OnlyHappenings.{of_happenings}
use Rattle.pddl_serial_plans.specs.NewPlans.{IsAcceptedOf, IsSerialPlan, IsSplitPlan}
use Rattle.pddl_serial_plans.specs.NewSteps.{no_step, picked, at_moments, plain_plan, timed_plan}
use Rattle.pddl_serial_plans.proofs.PickedSteps.{same_steps, all_picked, bare_twice, no_moments, at_bare, each_moment, their_moments, as_many_at, all_at_moments}
use Rattle.pddl_serial_plans.proofs.ScaledMoments.{scaled}

-- ---- groups and their moments

pub as_many_moments : (i : ℕ) (gs : List (List ℕ)) → length (split_moments i gs) ≡ length (concat gs)
as_many_moments i [] = refl
as_many_moments i (g ∷ gs) =
    omega (arith, length-append (map (λ k. i) g) (split_moments (i + 1) gs), length-map g (λ (k : ℕ). i), length-append g (concat gs), as_many_moments (i + 1) gs)

-- groups that have steps and together none are no groups
no_groups : (gs : List (List ℕ)) → AllByRecursion (λ g. g ≡ [] → ⊥) gs → length (concat gs) ≡ 0 → gs ≡ []
no_groups [] some none = refl
no_groups (g ∷ gs) some none = absurd (some.0 (nil_from_length g (omega (arith, none, length-append g (concat gs)))))

module _ (d : DomainValue) (p : ProblemValue) (linked : IsLinked d p) where
  abbrev task : TaskValue
  task = task_of d p

  once : IsDistinct bytes_eq (action_names task)
  once = actions_stand_once d (linked_is_good d p linked)

  apart : IsDistinct bytes_eq (object_names task)
  apart = objects_stand_once d p

  module _ {steps : List LinkedStepValue} {at : List (Option ℕ)} {gs : List (List ℕ)} {end : Atoms} {cost : ℕ} (of : IsAcceptedOf task steps at gs end cost) where
    abbrev named : ℕ → Step GroundValue
    named = named_steps task steps

    sound : AreSoundSteps task steps
    sound = (steps_are_sound d p linked steps).0 of.linked

    each_by : HaveAlikeMoments steps → HaveEachOnce (length steps) gs
    each_by (inl none) = plain_each (length steps) at gs (of.happenings.plain none)
    each_by (inr some) = subst (λ n. HaveEachOnce n gs) (length-map steps _) (timed_each (moments_in steps) at gs (of.happenings.timed some))

    -- the happenings have each step once
    pub each_once : HaveEachOnce (length steps) gs
    each_once = each_by sound.alike

    distinct : IsDistinct eqb (concat gs)
    distinct = is_distinct (length steps) gs each_once

    run : IsAcceptedRun named (goal_of task) (initial_state task) gs end cost
    run = of.accepted at gs of.happenings

    -- the happenings in turn are one
    pub turns : (order : Order) → IsSerialOrder gs (in_order order gs)
    turns order = is_serial order gs distinct

    -- ---- orders

    module _ (order : List ℕ) (moved : IsPermutation (concat gs) order) where
      below : AllByRecursion (λ k. k < length steps) order
      below = all_listed (λ k. k < length steps) order (numbers_to 0 (length steps)) (IsPermutation-trans (numbers_to 0 (length steps)) (concat gs) order each_once moved)
          (λ k on. let low = (number_within k 0 (length steps) on).1 in omega (arith, low))

      pub within : All (λ k. k < length steps) order
      within = All-from_recursion (λ k. k < length steps) order below

      each_linked : AllByRecursion (IsLinkedStep task) (picked steps order)
      each_linked = all_picked (IsLinkedStep task) steps sound.each order within

      as_many_steps : length order ≡ length steps
      as_many_steps = omega (arith, length_permutation (concat gs) order moved, as_many (length steps) gs each_once)

      short : length (picked steps order) ≤ most_steps
      short = let low = sound.short in omega (arith, low, as_many_steps, length-map order (λ k. slice_index_or steps k no_step))

    -- ---- serial plans

    module _ (order : List ℕ) (is : IsSerialOrder gs order) where
      abbrev serial : PlanValue
      serial = plain_plan task (picked steps order)

      serial_steps : linked_steps task serial ≡ map without_moment (picked steps order)
      serial_steps = plain_steps task once apart (picked steps order) (each_linked order is.each_once)

      serial_run : (at : List (Option ℕ)) (hs : List (List ℕ)) → AreHappeningsOf (map without_moment (picked steps order)) at hs
          → IsAcceptedRun (named_steps task (map without_moment (picked steps order))) (goal_of task) (initial_state task) hs end cost
      serial_run at hs are =
          let others = map without_moment (picked steps order) in
          let many : length others ≡ length order = length-map (picked steps order) without_moment ∙ length-map order _ in
          let alone : hs ≡ plain_happenings (length order) = (are.plain (no_moments (picked steps order))).steps_are ∙ ap plain_happenings many in
          subst (λ l. IsAcceptedRun (named_steps task others) (goal_of task) (initial_state task) l end cost) (sym alone)
          (plans.serial_plan named (named_steps task others) (named_framed task steps) (goal_of task) (initial_state task) end cost gs order distinct run is
          (same_steps task steps others order (within order is.each_once) (bare_twice (picked steps order))))

      pub serial_accepted : IsSerialPlan task steps order end cost serial
      serial_accepted = record {
        plan_is = refl;
        linked = plain_linked task once apart (picked steps order) (short order is.each_once) (each_linked order is.each_once);
        accepted = subst (λ l. IsAcceptedPlan task l end cost) (sym serial_steps) serial_run;
      }

    -- ---- splits

    -- happenings cut into groups are one
    pub cuts : (size : ℕ) (order : Order) → 0 < size → IsSplitOf gs (cut_in_order size order gs)
    cuts size order some = cut_is_split size order gs some distinct

    -- moments that are no later than there are steps
    pub small : (ms : List ℕ) → All (λ m. (1 ≤ m) × (m ≤ length steps)) ms → All (λ m. m ≤ 1000000) ms
    small ms each k d low =
        let m = each k d low in
        let few = sound.short in
        omega (arith, m, few)

    module _ (groups : List (List ℕ)) (split : IsSplitOf gs groups) where
      abbrev order : List ℕ
      order = concat groups

      abbrev moved : IsPermutation (concat gs) order
      moved = split.in_turn.each_once

      abbrev others : List LinkedStepValue
      others = at_moments (picked steps order) (split_moments 1 groups)

      pub as_many_there : length (split_moments 1 groups) ≡ length (picked steps order)
      as_many_there = as_many_moments 1 groups ∙ sym (length-map order _)

      others_linked : AllByRecursion (IsLinkedStep task) others
      others_linked = all_at_moments (IsLinkedStep task) (λ s m l. record {
        action = l.action;
        action_is = l.action_is;
        as_many = l.as_many;
        in_range = l.in_range;
        fitting = l.fitting;
        costs = l.costs;
        within = l.within;
      }) (picked steps order) (split_moments 1 groups) (each_linked order moved)

      others_short : length others ≤ most_steps
      others_short = let low = short order moved in omega (arith, low, as_many_at (picked steps order) (split_moments 1 groups) as_many_there)

      others_timed : AllByRecursion (λ s. is_some s.moment ≡ true) others
      others_timed = each_moment (picked steps order) (split_moments 1 groups)

      plan_linked : (ss : List LinkedStepValue) → length ss ≤ most_steps → AllByRecursion (IsLinkedStep task) ss → IsLinkedPlan task (timed_plan task ss)
      plan_linked [] low each = record { short = omega arith; good = tt }
      plan_linked (s ∷ ss) low each = timed_linked task once apart (s ∷ ss) low each

      plan_steps : (ss : List LinkedStepValue) → AllByRecursion (IsLinkedStep task) ss → AllByRecursion (λ s. is_some s.moment ≡ true) ss → linked_steps task (timed_plan task ss) ≡ ss
      plan_steps [] each some = refl
      plan_steps (s ∷ ss) each some = sym (timed_steps task once apart (s ∷ ss) each some)

      -- the groups in turn are the happenings
      abbrev told : List (Option ℕ)
      told = map (λ k. Some (k * 1000000000)) (numbers_to 1 (length groups))

      of_timed : AreOfTimed (moments_in others) told (numbered 0 groups)
      of_timed =
          subst (λ ms. AreOfTimed ms told (numbered 0 groups)) (sym (their_moments (picked steps order) (split_moments 1 groups) as_many_there))
          (scaled 1000000000 (omega arith) (split_moments 1 groups) (numbers_to 1 (length groups)) (numbered 0 groups) (split_timed groups split.none_empty))

      of_plain : (ss : List LinkedStepValue) → ss ≡ others → AllByRecursion (λ s. is_some s.moment ≡ true) ss → AllByRecursion (λ s. s.moment ≡ None) ss → AreOfPlain (length ss) told (numbered 0 groups)
      of_plain [] same some none =
          let none_there : length order ≡ 0 = omega (arith, ap length same, as_many_at (picked steps order) (split_moments 1 groups) as_many_there, length-map order (λ k. slice_index_or steps k no_step)) in
          subst (λ l. AreOfPlain 0 (map (λ k. Some (k * 1000000000)) (numbers_to 1 (length l))) (numbered 0 l)) (sym (no_groups groups split.none_empty none_there))
          (record { no_moments = λ k d low. absurd (omega (arith, low)); steps_are = refl })
      of_plain (s ∷ ss) same some none = let off : is_some s.moment ≡ is_some {T = ℕ} None = ap is_some none.0 in let on = some.0 in cc

      groups_happen : AreHappeningsOf others told (numbered 0 groups)
      groups_happen = record { timed = λ some. of_timed; plain = of_plain others refl others_timed }

      split_run : IsAcceptedRun (named_steps task others) (goal_of task) (initial_state task) (numbered 0 groups) end cost
      split_run =
          plans.split_plan named (named_steps task others) (named_framed task steps) (goal_of task) (initial_state task) end cost gs groups distinct run split
          (same_steps task steps others order (within order moved) (at_bare (picked steps order) (split_moments 1 groups) as_many_there))

      split_done : IsAcceptedPlan task others end cost
      split_done = of_happenings others (inr others_timed) told (numbered 0 groups) groups_happen (λ hs. IsAcceptedRun (named_steps task others) (goal_of task) (initial_state task) hs end cost) split_run

      pub split_accepted : IsSplitPlan task steps groups end cost (timed_plan task others)
      split_accepted =
          let back : linked_steps task (timed_plan task others) ≡ others = plan_steps others others_linked others_timed in
          record {
            plan_is = refl;
            linked = plan_linked others others_short others_linked;
            happenings = subst (λ l. AreHappeningsOf l told (numbered 0 groups)) (sym back) groups_happen;
            accepted = subst (λ l. IsAcceptedPlan task l end cost) (sym back) split_done;
          }
