-- The steps of some numbers: what they do, and what holds of them.
use Rattle.std.proofs.Common.{◌≡◌, ◌<◌, ◌+◌, ◌*◌, ◌++◌, ℕ, suc, List, [], ◌∷◌, map, length, take, get_or, refl, sym, ap, ◌∙◌, arith}
use Rattle.std.specs.Prelude.{Option, Some, None, slice_get, slice_index, slice_index_or, is_some, true, All}
use Rattle.std.specs.List.{AllByRecursion}
use Rattle.std.specs.Option.{option_map, option_map_or}
use Rattle.std.proofs.lemmas.List.{length-map, length-take, map-append, take_more}
use Rattle.std.proofs.lemmas.Option.{slice_get-map, slice_get-get_or, get_or_from_slice_get}
use Rattle.pddl_plan.specs.Plans.{StepValue, TimedValue}
use Rattle.pddl_problem.specs.Inits.{GroundValue}
use Rattle.pddl_task.specs.Tasks.{TaskValue}
use Rattle.pddl_happenings.specs.Splits.{AreStepsOf}
use Rattle.pddl_happenings.specs.Steps.{Step}
use Rattle.pddl_meaning.specs.Steps.{step_of}
use Rattle.pddl_linked_plan.specs.LinkedLaws.{named_step, without_moment}
use Rattle.pddl_linked_plan.specs.LinkedSteps.{LinkedStepValue}
use Rattle.pddl_linked_plan.proofs.SoundSteps.{all_at}
use Rattle.pddl_plan_steps.specs.PlanSteps.{idle, named_steps}
use Rattle.pddl_task.proofs.Lists.{at_place}
use Rattle.pddl_serial_plans.specs.NewSteps.{no_step, picked, at_moment, at_moments, timed_step}
use Rattle.pddl_plan_steps.specs.AcceptedPlans.{moments_in}

-- ---- what they do

module _ (task : TaskValue) where
  does : LinkedStepValue → Step GroundValue
  does s = option_map_or (λ a. step_of task a (named_step task s).objects) (slice_get task.actions s.action) idle

  abbrev does_at : Option LinkedStepValue → Step GroundValue
  does_at o = option_map_or (λ s. option_map_or (λ a. step_of task a (named_step task s).objects) (slice_get task.actions s.action) idle) o idle

  -- a moment plays no part
  whenever : (o : Option LinkedStepValue) → does_at (option_map without_moment o) ≡ does_at o
  whenever None = refl
  whenever (Some s) = refl

  bare : (steps : List LinkedStepValue) (k : ℕ) → named_steps task (map without_moment steps) k ≡ named_steps task steps k
  bare steps k = ap does_at (slice_get-map without_moment steps k) ∙ whenever (slice_get steps k)

  picked_at : (steps : List LinkedStepValue) (order : List ℕ) (k : ℕ) → k < length order → slice_index order k < length steps
      → slice_get (picked steps order) k ≡ slice_get steps (slice_index order k)
  picked_at steps order k low within =
      slice_get-map (λ n. slice_index_or steps n no_step) order k
      ∙ ap (option_map (λ n. slice_index_or steps n no_step)) (slice_get-get_or order k 0 low)
      ∙ sym (slice_get-get_or steps (slice_index order k) no_step within)

  pub same_steps : (steps others : List LinkedStepValue) (order : List ℕ) → All (λ k. k < length steps) order
      → map without_moment others ≡ map without_moment (picked steps order) → AreStepsOf (named_steps task steps) (named_steps task others) order
  same_steps steps others order within same k low =
      sym (bare others k) ∙ ap (λ l. named_steps task l k) same ∙ bare (picked steps order) k ∙ ap does_at (picked_at steps order k low (within k 0 low))

-- ---- what holds of them

pub all_picked : (P : LinkedStepValue → Type 0) (steps : List LinkedStepValue) → AllByRecursion P steps → (order : List ℕ) → All (λ k. k < length steps) order → AllByRecursion P (picked steps order)
all_picked P steps all [] within = tt
all_picked P steps all (k ∷ ks) within =
    let low : k < length steps = within 0 0 (omega arith) in (
      all_at P steps all (get_or steps k no_step) (at_place steps k (get_or steps k no_step) (slice_get-get_or steps k no_step low)),
      all_picked P steps all ks (λ i d lt. within (suc i) d (omega (arith, lt))),
    )

pub bare_twice : (steps : List LinkedStepValue) → map without_moment (map without_moment steps) ≡ map without_moment steps
bare_twice [] = refl
bare_twice (s ∷ steps) = ap (λ l. without_moment s ∷ l) (bare_twice steps)

pub no_moments : (steps : List LinkedStepValue) → AllByRecursion (λ s. s.moment ≡ None) (map without_moment steps)
no_moments [] = tt
no_moments (s ∷ steps) = (refl, no_moments steps)

-- ---- at moments

pub at_bare : (steps : List LinkedStepValue) (ms : List ℕ) → length ms ≡ length steps → map without_moment (at_moments steps ms) ≡ map without_moment steps
at_bare [] ms many = refl
at_bare (s ∷ steps) [] many = absurd (omega (arith, many))
at_bare (s ∷ steps) (m ∷ ms) many = ap (λ l. without_moment s ∷ l) (at_bare steps ms (omega (arith, many)))

pub each_moment : (steps : List LinkedStepValue) (ms : List ℕ) → AllByRecursion (λ s. is_some s.moment ≡ true) (at_moments steps ms)
each_moment [] ms = tt
each_moment (s ∷ steps) [] = tt
each_moment (s ∷ steps) (m ∷ ms) = (refl, each_moment steps ms)

pub their_moments : (steps : List LinkedStepValue) (ms : List ℕ) → length ms ≡ length steps → moments_in (at_moments steps ms) ≡ map (λ m. m * 1000000000) ms
their_moments [] [] many = refl
their_moments [] (m ∷ ms) many = absurd (omega (arith, many))
their_moments (s ∷ steps) [] many = absurd (omega (arith, many))
their_moments (s ∷ steps) (m ∷ ms) many = ap (λ l. m * 1000000000 ∷ l) (their_moments steps ms (omega (arith, many)))

pub as_many_at : (steps : List LinkedStepValue) (ms : List ℕ) → length ms ≡ length steps → length (at_moments steps ms) ≡ length steps
as_many_at [] ms many = refl
as_many_at (s ∷ steps) [] many = absurd (omega (arith, many))
as_many_at (s ∷ steps) (m ∷ ms) many = ap suc (as_many_at steps ms (omega (arith, many)))

-- P, which looks at no moment, holds of steps wherever it does of the bare ones
pub all_at_moments : (P : LinkedStepValue → Type 0) → ((s : LinkedStepValue) (m : ℕ) → P s → P (at_moment s m)) → (steps : List LinkedStepValue) (ms : List ℕ) → AllByRecursion P steps → AllByRecursion P (at_moments steps ms)
all_at_moments P still [] ms all = tt
all_at_moments P still (s ∷ steps) [] all = tt
all_at_moments P still (s ∷ steps) (m ∷ ms) all = (still s m all.0, all_at_moments P still steps ms all.1)

-- ---- one more

pub picked_more : (steps : List LinkedStepValue) (order : List ℕ) (i : ℕ) → i < length order → picked steps (take (i + 1) order) ≡ picked steps (take i order) ++ get_or steps (get_or order i 0) no_step ∷ []
picked_more steps order i low = ap (picked steps) (take_more order i 0 low) ∙ map-append (λ k. slice_index_or steps k no_step) (take i order) (get_or order i 0 ∷ [])

at_moments_push : (steps : List LinkedStepValue) (ms : List ℕ) (s : LinkedStepValue) (m : ℕ) → length ms ≡ length steps → at_moments (steps ++ s ∷ []) (ms ++ m ∷ []) ≡ at_moments steps ms ++ at_moment s m ∷ []
at_moments_push [] [] s m many = refl
at_moments_push [] (n ∷ ms) s m many = absurd (omega (arith, many))
at_moments_push (t ∷ steps) [] s m many = absurd (omega (arith, many))
at_moments_push (t ∷ steps) (n ∷ ms) s m many = ap (λ l. at_moment t n ∷ l) (at_moments_push steps ms s m (omega (arith, many)))

pub at_moments_more : (steps : List LinkedStepValue) (order ms : List ℕ) (i : ℕ) → length ms ≡ length order → i < length order
    → at_moments (picked steps (take (i + 1) order)) (take (i + 1) ms) ≡ at_moments (picked steps (take i order)) (take i ms) ++ at_moment (get_or steps (get_or order i 0) no_step) (get_or ms i 0) ∷ []
at_moments_more steps order ms i many low =
    let as_many : length (take i ms) ≡ length (picked steps (take i order)) = omega (arith, many, length-map (take i order) (λ k. slice_index_or steps k no_step), length-take i ms, length-take i order) in
    ap (λ l. at_moments l (take (i + 1) ms)) (picked_more steps order i low)
    ∙ ap (at_moments (picked steps (take i order) ++ get_or steps (get_or order i 0) no_step ∷ [])) (take_more ms i 0 (omega (arith, many)))
    ∙ at_moments_push (picked steps (take i order)) (take i ms) (get_or steps (get_or order i 0) no_step) (get_or ms i 0) as_many

module _ {X : Type 0} (task : TaskValue) (steps : List LinkedStepValue) (order : List ℕ) (i : ℕ) (low : i < length order) (old new : List X) (x : X) (is : new ≡ old ++ x ∷ [])
    (s : LinkedStepValue) (at : slice_get steps (get_or order i 0) ≡ Some s) where
  here : get_or steps (get_or order i 0) no_step ≡ s
  here = get_or_from_slice_get steps (get_or order i 0) s no_step at

  -- one more step by its names
  pub named_more : (view : X → StepValue) → view x ≡ named_step task s → map view old ≡ map (named_step task) (picked steps (take i order)) → map view new ≡ map (named_step task) (picked steps (take (i + 1) order))
  named_more view own so_far =
      ap (map view) is ∙ (map-append view old (x ∷ [])
      ∙ (ap (λ l. l ++ view x ∷ []) so_far
      ∙ (ap (λ y. map (named_step task) (picked steps (take i order)) ++ y ∷ []) (own ∙ ap (named_step task) (sym here))
      ∙ (sym (map-append (named_step task) (picked steps (take i order)) (get_or steps (get_or order i 0) no_step ∷ []))
      ∙ ap (map (named_step task)) (sym (picked_more steps order i low))))))

  -- and at its moment
  pub timed_more : (view : X → TimedValue) (ms : List ℕ) → length ms ≡ length order → view x ≡ timed_step task (at_moment s (get_or ms i 0))
      → map view old ≡ map (timed_step task) (at_moments (picked steps (take i order)) (take i ms)) → map view new ≡ map (timed_step task) (at_moments (picked steps (take (i + 1) order)) (take (i + 1) ms))
  timed_more view ms many own so_far =
      ap (map view) is ∙ (map-append view old (x ∷ [])
      ∙ (ap (λ l. l ++ view x ∷ []) so_far
      ∙ (ap (λ y. map (timed_step task) (at_moments (picked steps (take i order)) (take i ms)) ++ y ∷ []) (own ∙ ap (λ t. timed_step task (at_moment t (get_or ms i 0))) (sym here))
      ∙ (sym (map-append (timed_step task) (at_moments (picked steps (take i order)) (take i ms)) (at_moment (get_or steps (get_or order i 0) no_step) (get_or ms i 0) ∷ []))
      ∙ ap (map (timed_step task)) (sym (at_moments_more steps order ms i many low))))))
