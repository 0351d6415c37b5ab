-- The lines of a plan's text.
use Rattle.std.proofs.Common.{◌≡◌, ◌<◌, ℕ, List, [], ◌∷◌, ◌++◌, length, get_or, map, refl, sym, ap, ◌∙◌, append_assoc}
use Rattle.std.specs.Prelude.{Option, Some, None, slice_get, option_map, codes}
use Rattle.std.specs.List.{flat_map}
use Rattle.std.proofs.lemmas.List.{length-map}
use Rattle.std.proofs.lemmas.Option.{slice_get-map, slice_get-get_or, get_or_from_slice_get}
use Rattle.pddl_token.specs.NumberText.{number_text}
use Rattle.pddl_plan.specs.Plans.{StepValue, TimedValue, PlanValue, plain, timed, steps_of, moment_at}
use Rattle.pddl_layout.specs.PlanLayout.{plain_line, timed_line, plan_text}
use Rattle.pddl_layout.specs.Inner.PlanLines.{moment_text, lines_of, line_at}

-- a line for each step
pub as_many : (plan : PlanValue) → length (lines_of plan) ≡ length (steps_of plan)
as_many (plain steps) = length-map steps plain_line
as_many (timed steps) = length-map steps timed_line ∙ sym (length-map steps (λ s. s.step))

each : {A : Type 0} (f : A → List ℕ) (xs : List A) → flat_map (λ (line : List ℕ). line) (map f xs) ≡ flat_map f xs
each f [] = refl
each f (x ∷ xs) = ap (λ (t : List ℕ). f x ++ t) (each f xs)

-- the lines, one after another, are the text
pub text_of_lines : (plan : PlanValue) → flat_map (λ (line : List ℕ). line) (lines_of plan) ≡ plan_text plan
text_of_lines (plain steps) = each plain_line steps
text_of_lines (timed steps) = each timed_line steps

-- what stands in a list of values of elements
mapped : {A B : Type 0} (f : A → B) (xs : List A) (n : ℕ) (x : A) (d : B) → slice_get xs n ≡ Some x → get_or (map f xs) n d ≡ f x
mapped f xs n x d is = get_or_from_slice_get (map f xs) n (f x) d (slice_get-map f xs n ∙ ap (option_map f) is)

-- the line of a step
pub line_is : (plan : PlanValue) (n : ℕ) (step : StepValue) (moment : Option ℕ) → Some step ≡ slice_get (steps_of plan) n → moment ≡ moment_at plan n
    → moment_text moment ++ plain_line step ≡ line_at plan n
line_is (plain steps) n step moment is at =
    ap (λ m. moment_text m ++ plain_line step) at ∙ sym (mapped plain_line steps n step [] (sym is))
line_is (timed steps) n step moment is at = of_timed (slice_get steps n) refl
  where
    of_timed : (o : Option TimedValue) → slice_get steps n ≡ o → moment_text moment ++ plain_line step ≡ line_at (timed steps) n
    of_timed None none =
        let bad : Some step ≡ None = is ∙ slice_get-map (λ s. s.step) steps n ∙ ap (option_map (λ s. s.step)) none in
        absurd (cc (bad))
    of_timed (Some s) some =
        let own : Some step ≡ Some s.step = is ∙ slice_get-map (λ s. s.step) steps n ∙ ap (option_map (λ s. s.step)) some in
        let same : step ≡ s.step = cc (own) in
        let time : moment ≡ Some s.moment = at ∙ ap (option_map (λ s. s.moment)) some in
        ap (λ m. moment_text m ++ plain_line step) time
        ∙ append_assoc (number_text s.moment) (codes ": ") (plain_line step)
        ∙ ap (λ (t : StepValue). number_text s.moment ++ (codes ": " ++ plain_line t)) same
        ∙ sym (mapped timed_line steps n s [] some)

-- a step that there is has a line, and the line is that of its own step
pub line_begins : (plan : PlanValue) (n : ℕ) (moment : Option ℕ) → n < length (steps_of plan) → moment ≡ moment_at plan n
    → (step : StepValue) × (moment_text moment ++ plain_line step ≡ line_at plan n)
line_begins plan n moment low at =
    let none : StepValue = record { action = []; objects = [] } in
    (get_or (steps_of plan) n none, line_is plan n (get_or (steps_of plan) n none) moment (sym (slice_get-get_or (steps_of plan) n none low)) at)
