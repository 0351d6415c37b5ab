-- A step as a part of a list of names.
use Rattle.std.proofs.Common.{◌≡◌, ◌<◌, ◌≤◌, ℕ, ◌+◌, ◌-◌, List, [], length, sym, ap, ◌∙◌, arith}
use Rattle.std.specs.Prelude.{Some, slice_get, slice_range}
use Rattle.std.proofs.lemmas.Option.{get_or_from_slice_get}
use Rattle.pddl_plan.specs.Plans.{StepValue, step_of_names}
use Rattle.pddl_plan.proofs.CutLists.{range_first, length-range, range_get}

module _ (names : List (List ℕ)) (start end : ℕ) (some : start < end) (within : end ≤ length names) (step : StepValue) (is : step_of_names (slice_range names start end) ≡ step) where
  pub objects_are : slice_range names (start + 1) end ≡ step.objects
  objects_are = sym (ap (λ (ns : List (List ℕ)). (step_of_names ns).objects) (range_first names start end [] some within)) ∙ ap (λ (s : StepValue). s.objects) is

  pub count_is : length step.objects ≡ end - (start + 1)
  count_is = sym (ap length objects_are) ∙ length-range names (start + 1) end within

  pub action_is : (name : List ℕ) → slice_get names start ≡ Some name → name ≡ step.action
  action_is name found =
      sym (get_or_from_slice_get names start name [] found)
      ∙ sym (ap (λ (ns : List (List ℕ)). (step_of_names ns).action) (range_first names start end [] some within)) ∙ ap (λ (s : StepValue). s.action) is

  pub object_is : (n : ℕ) (name : List ℕ) → n < length step.objects → slice_get names (start + 1 + n) ≡ Some name → slice_get step.objects n ≡ Some name
  object_is n name low found =
      ap (λ (ns : List (List ℕ)). slice_get ns n) (sym objects_are)
      ∙ range_get names (start + 1) end n name (omega (arith, low, count_is)) within found
