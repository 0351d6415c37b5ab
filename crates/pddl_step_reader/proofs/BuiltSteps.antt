-- The steps of a plan in making, when one is ended.
use Rattle.std.proofs.Common.{◌≡◌, ◌<◌, ℕ, suc, Bool, true, List, [], ◌∷◌, ◌++◌, length, map, refl, sym, ap, ◌∙◌, arith}
use Rattle.std.specs.Prelude.{nat_lt}
use Rattle.std.proofs.lemmas.Bool.Decides.{nat_tests}
use Rattle.std.proofs.lemmas.List.{map_push, length-append, length-map}
use Rattle.pddl_plan.specs.Building.{Building, ended, ended_at}
use Rattle.pddl_step_reader.specs.Inner.PlanReading.{is_behind}
use Rattle.pddl_plan.specs.Plans.{StepValue, TimedValue, timed, step_of_names, at_moments, plan_of, steps_built, timed_built}

-- steps and their moments, when one is added
pub timed_pushed : (moments : List ℕ) (steps : List StepValue) (m : ℕ) (step : StepValue) → length moments ≡ length steps
    → at_moments (moments ++ m ∷ []) (steps ++ step ∷ []) ≡ at_moments moments steps ++ record { moment = m; step = step } ∷ []
timed_pushed [] [] m step same = refl
timed_pushed [] (s ∷ steps) m step same = absurd (omega (arith, same))
timed_pushed (n ∷ moments) [] m step same = absurd (omega (arith, same))
timed_pushed (n ∷ moments) (s ∷ steps) m step same =
    ap (λ (ss : List TimedValue). record { moment = n; step = s } ∷ ss) (timed_pushed moments steps m step (omega (arith, same)))

pub some_timed : (moments : List ℕ) (steps : List StepValue) → length moments ≡ length steps → 0 < length steps → 0 < length (at_moments moments steps)
some_timed moments [] same some = absurd (omega (arith, some))
some_timed [] (s ∷ steps) same some = absurd (omega (arith, same))
some_timed (m ∷ moments) (s ∷ steps) same some = omega (arith)

pub plan_is_timed : (moments : List ℕ) (steps : List StepValue) → length moments ≡ length steps → 0 < length steps → plan_of moments steps ≡ timed (at_moments moments steps)
plan_is_timed [] steps same some = absurd (omega (arith, same, some))
plan_is_timed (m ∷ moments) steps same some = refl

-- a step is ended
pub plain_pushed : (old read new : Building) → read.steps ≡ old.steps → new ≡ ended read → steps_built new ≡ steps_built old ++ step_of_names read.names ∷ []
plain_pushed old read new same is =
    ap steps_built is ∙ map_push step_of_names read.steps read.names ∙ ap (λ (ss : List (List (List ℕ))). map step_of_names ss ++ step_of_names read.names ∷ []) same

module _ (old read new : Building) (m : ℕ) (as_many : length old.moments ≡ length old.steps) (same_moments : read.moments ≡ old.moments) (same : read.steps ≡ old.steps) (is : new ≡ ended_at m read) where
  pub moment_pushed : timed_built new ≡ timed_built old ++ record { moment = m; step = step_of_names read.names } ∷ []
  moment_pushed =
      let steps : steps_built new ≡ steps_built old ++ step_of_names read.names ∷ [] =
      ap steps_built is ∙ map_push step_of_names read.steps read.names ∙ ap (λ (ss : List (List (List ℕ))). map step_of_names ss ++ step_of_names read.names ∷ []) same in
      let moments : new.moments ≡ old.moments ++ m ∷ [] = ap (λ (b : Building). b.moments) is ∙ ap (λ (ms : List ℕ). ms ++ m ∷ []) same_moments in
      rw (steps, moments) (timed_pushed old.moments (steps_built old) m (step_of_names read.names) (as_many ∙ sym (length-map old.steps step_of_names)))

  pub moments_pushed : length new.moments ≡ length new.steps
  moments_pushed =
      omega (
        arith,
        ap (λ (b : Building). length b.moments) is,
        ap (λ (b : Building). length b.steps) is,
        length-append read.moments (m ∷ []),
        length-append read.steps (read.names ∷ []),
        ap length same_moments,
        ap length same,
        as_many,
      )

-- whether steps stand before
pub steps_behind : (steps : List (List (List ℕ))) (count : ℕ) (test : Bool) → count ≡ length steps → test ≡ nat_lt 0 count → test ≡ is_behind (map step_of_names steps)
steps_behind [] count test len is = is ∙ ap (nat_lt 0) len
steps_behind (s ∷ steps) count test len is = let some : nat_lt 0 (length (s ∷ steps)) ≡ true = grind (arith, nat_tests) in is ∙ ap (nat_lt 0) len ∙ some

some_behind : (steps : List TimedValue) (test : Bool) → test ≡ nat_lt 0 (length steps) → test ≡ is_behind steps
some_behind [] test is = is
some_behind (s ∷ steps) test is = let some : nat_lt 0 (length (s ∷ steps)) ≡ true = grind (arith, nat_tests) in is ∙ some

length-timed : (moments : List ℕ) (steps : List StepValue) → length moments ≡ length steps → length (at_moments moments steps) ≡ length steps
length-timed [] [] same = refl
length-timed [] (s ∷ steps) same = absurd (omega (arith, same))
length-timed (m ∷ moments) [] same = absurd (omega (arith, same))
length-timed (m ∷ moments) (s ∷ steps) same = ap suc (length-timed moments steps (omega (arith, same)))

pub timed_behind : (b : Building) (count : ℕ) (test : Bool) → length b.moments ≡ length b.steps → count ≡ length b.steps → test ≡ nat_lt 0 count → test ≡ is_behind (timed_built b)
timed_behind b count test same len is =
    let as_many : length b.moments ≡ length (steps_built b) = same ∙ sym (length-map b.steps step_of_names) in
    some_behind (timed_built b) test (is ∙ ap (nat_lt 0) (len ∙ sym (length-map b.steps step_of_names) ∙ sym (length-timed b.moments (steps_built b) as_many)))
