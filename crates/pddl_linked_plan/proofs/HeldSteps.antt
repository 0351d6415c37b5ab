-- Steps that are held by their parts of one list of objects.
use Rattle.std.proofs.Common.{◌≡◌, ◌≤◌, ◌<◌, ℕ, ◌-◌, List, [], ◌∷◌, ◌++◌, map, length, get_or, drop, take, refl, sym, ap, ◌∙◌, arith}
use Rattle.std.specs.Prelude.{Option, Some, option_map, slice_get, slice_range}
use Rattle.std.proofs.lemmas.Option.{slice_get-map, slice_get_read}
use Rattle.std.proofs.lemmas.List.{map-append, length-append, length-drop, take-append-le, take_all, drop-append-le}
use Rattle.std.proofs.Math.Seq.{drop-append_seam}
use Rattle.pddl_linked_plan.specs.declared.steps.StepPart.{StepPart}
use Rattle.pddl_linked_plan.specs.LinkedSteps.{LinkedStepValue}
use Rattle.pddl_linked_plan.specs.StepParts.{step_in, IsWithin, AreWithin}

-- a part of a list stays where more is added behind
kept : (xs ys : List ℕ) (a b : ℕ) → a ≤ b → b ≤ length xs → slice_range (xs ++ ys) a b ≡ slice_range xs a b
kept xs ys a b rises ends =
    ap (take (b - a)) (drop-append-le a xs ys (omega (arith, rises, ends)))
    ∙ take-append-le (b - a) (drop a xs) ys (omega (arith, rises, ends, length-drop a xs))

-- what is added is the part behind the list
added : (xs ys : List ℕ) → slice_range (xs ++ ys) (length xs) (length (xs ++ ys)) ≡ ys
added xs ys = ap (take (length (xs ++ ys) - length xs)) (drop-append_seam xs ys) ∙ take_all (length (xs ++ ys) - length xs) ys (omega (arith, length-append xs ys))

-- parts of a list are parts of a longer one
pub within_more : (m n : ℕ) (ps : List StepPart) → m ≤ n → AreWithin m ps → AreWithin n ps
within_more m n [] low within = tt
within_more m n (p ∷ ps) low within = (record { rises = within.0.rises; ends = omega (arith, within.0.ends, low) }, within_more m n ps low within.1)

one_more : (n : ℕ) (ps : List StepPart) (p : StepPart) → AreWithin n ps → IsWithin n p → AreWithin n (ps ++ p ∷ [])
one_more n [] p within is = (is, tt)
one_more n (q ∷ ps) p within is = (within.0, one_more n ps p within.1 is)

all_kept : (xs ys : List ℕ) (ps : List StepPart) → AreWithin (length xs) ps → map (step_in (xs ++ ys)) ps ≡ map (step_in xs) ps
all_kept xs ys [] within = refl
all_kept xs ys (p ∷ ps) within =
    ap (λ os. record { action = p.action; objects = os; moment = p.moment } ∷ map (step_in (xs ++ ys)) ps) (kept xs ys p.start p.end within.0.rises within.0.ends)
    ∙ ap (λ ss. step_in xs p ∷ ss) (all_kept xs ys ps within.1)

module _ (xs ys : List ℕ) (ps : List StepPart) (within : AreWithin (length xs) ps) where
  -- objects alone are added: the steps stay
  pub still_within : AreWithin (length (xs ++ ys)) ps
  still_within = within_more (length xs) (length (xs ++ ys)) ps (omega (arith, length-append xs ys)) within

  pub steps_stay : map (step_in (xs ++ ys)) ps ≡ map (step_in xs) ps
  steps_stay = all_kept xs ys ps within

  -- a step is added with its objects
  pub within_pushed : (p : StepPart) → p.start ≡ length xs → p.end ≡ length (xs ++ ys) → AreWithin (length (xs ++ ys)) (ps ++ p ∷ [])
  within_pushed p start end =
      one_more (length (xs ++ ys)) ps p still_within (record { rises = omega (arith, start, end, length-append xs ys); ends = omega (arith, end) })

  pub steps_pushed : (p : StepPart) (s : LinkedStepValue) → step_in (xs ++ ys) p ≡ s → map (step_in (xs ++ ys)) (ps ++ p ∷ []) ≡ map (step_in xs) ps ++ s ∷ []
  steps_pushed p s is =
      map-append (step_in (xs ++ ys)) ps (p ∷ []) ∙ ap (λ ss. ss ++ step_in (xs ++ ys) p ∷ []) (all_kept xs ys ps within) ∙ ap (λ t. map (step_in xs) ps ++ t ∷ []) is

-- the step of a place is that of the part at this place
pub step_at : (xs : List ℕ) (ps : List StepPart) (i : ℕ) (p : StepPart) → i < length ps → p ≡ get_or ps i p → Some (step_in xs p) ≡ slice_get (map (step_in xs) ps) i
step_at xs ps i p within is = sym (slice_get-map (step_in xs) ps i ∙ ap (option_map (step_in xs)) (slice_get_read ps (length ps) i p refl within is))

-- the step that is added
pub step_pushed : (xs ys : List ℕ) (action : ℕ) (moment : Option ℕ) (start end : ℕ) → start ≡ length xs → end ≡ length (xs ++ ys)
    → step_in (xs ++ ys) (record { action = action; start = start; end = end; moment = moment }) ≡ record { action = action; objects = ys; moment = moment }
step_pushed xs ys action moment start end first last =
    ap (λ os. record { action = action; objects = os; moment = moment })
    (ap (λ a. slice_range (xs ++ ys) a end) first ∙ ap (λ b. slice_range (xs ++ ys) (length xs) b) last ∙ added xs ys)
