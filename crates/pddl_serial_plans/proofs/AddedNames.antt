-- Names and steps that are added to a plan in making.
use Rattle.std.proofs.Common.{◌≡◌, ◌<◌, ℕ, List, [], ◌∷◌, ◌++◌, length, map, refl, sym, ap, ◌∙◌, arith, append_assoc}
use Rattle.std.specs.Prelude.{Result, Ok, Err, OnOk, IfOk}
use Rattle.std.specs.Result.{result_and}
use Rattle.std.proofs.lemmas.List.{append-nil, length-append, length-map}
use Rattle.pddl_plan.specs.Building.{Building, with_names}
use Rattle.pddl_plan.specs.Plans.{StepValue, TimedValue, plain, timed, step_of_names, at_moments, plan_of, built_plan, timed_built}
use Rattle.pddl_step_reader.specs.Inner.StepNames.{names_of_step}
use Rattle.pddl_task.specs.Tasks.{TaskValue}
use Rattle.pddl_linked_plan.specs.LinkedSteps.{LinkedStepValue}
use Rattle.pddl_serial_plans.specs.NewSteps.{timed_step, timed_plan}

pub no_names : (b : Building) (names : List (List ℕ)) → names ≡ [] → b ≡ with_names b names
no_names b names none =
    ap (λ (ns : List (List ℕ)). record { moments = b.moments; steps = b.steps; names = ns }) (sym (append-nil b.names) ∙ ap (λ (ns : List (List ℕ)). b.names ++ ns) (sym none))

pub names_then : (old now new : Building) (first second both : List (List ℕ)) → now ≡ with_names old first → new ≡ with_names now second → both ≡ first ++ second → new ≡ with_names old both
names_then old now new first second both one other are =
    other ∙ ap (λ (b : Building). with_names b second) one
    ∙ ap (λ (ns : List (List ℕ)). record { moments = old.moments; steps = old.steps; names = ns }) (append_assoc old.names first second ∙ ap (λ (ns : List (List ℕ)). old.names ++ ns) (sym are))

-- the step that was added is the one of its names
pub step_added : (old new : Building) (step : StepValue) → old.names ≡ [] → new ≡ with_names old (names_of_step step) → step_of_names new.names ≡ step
step_added old new step none is =
    ap (λ (b : Building). step_of_names b.names) is ∙ ap (λ (ns : List (List ℕ)). step_of_names (ns ++ names_of_step step)) none

pub some_names : (old new : Building) (step : StepValue) → new ≡ with_names old (names_of_step step) → 0 < length new.names
some_names old new step is = omega (arith, ap (λ (b : Building). length b.names) is, length-append old.names (names_of_step step))

map_same : {A : Type 0} (xs : List A) → map (λ (x : A). x) xs ≡ xs
map_same [] = refl
map_same (x ∷ xs) = ap (λ ys. x ∷ ys) (map_same xs)

some_moments : (moments : List ℕ) (steps : List StepValue) → length moments ≡ length steps → at_moments moments steps ≡ [] → plan_of moments steps ≡ plain []
some_moments [] [] same is = refl
some_moments [] (s ∷ steps) same is = absurd (omega (arith, same))
some_moments (m ∷ moments) [] same is = absurd (omega (arith, same))
some_moments (m ∷ moments) (s ∷ steps) same is = absurd (cc (is))

plan_is : (moments : List ℕ) (steps : List StepValue) (t : TimedValue) (ts : List TimedValue) → at_moments moments steps ≡ t ∷ ts → plan_of moments steps ≡ timed (t ∷ ts)
plan_is [] steps t ts is = absurd (cc (is))
plan_is (m ∷ moments) steps t ts is = ap timed is

-- the plan of steps that were added, each at its moment
pub timed_is : (task : TaskValue) (b : Building) (steps : List LinkedStepValue) → length b.moments ≡ length b.steps
    → map (λ (s : TimedValue). s) (timed_built b) ≡ map (timed_step task) steps → built_plan b ≡ timed_plan task steps
timed_is task b [] same is =
    some_moments b.moments (map step_of_names b.steps) (same ∙ sym (length-map b.steps step_of_names)) (sym (map_same (timed_built b)) ∙ is)
timed_is task b (s ∷ steps) same is =
    plan_is b.moments (map step_of_names b.steps) (timed_step task s) (map (timed_step task) steps) (sym (map_same (timed_built b)) ∙ is)

-- a plan that was made, if it was
pub if_made : {S T E : Type 0} (P : T → Type 0) (made : Result S E) (plan : T) (Q : Type 0) → (Q → P plan) → OnOk made Q → IfOk (result_and made (Ok plan)) P
if_made P (Ok s) plan Q on is = on is
if_made P (Err e) plan Q on is = is
