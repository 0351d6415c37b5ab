-- The plans that serialisations and splits of an accepted plan give.
use Rattle.std.proofs.Common.{◌≡◌, ℕ, Bool, List, sym, ◌∙◌, length, eqb, subst}
use Rattle.std.specs.Prelude.{IsPermutation}
use Rattle.std.specs.List.{concat, IsDistinct}
use Rattle.std.proofs.lemmas.Map.Keys.{IsDistinct-IsPermutation}
use Rattle.pddl_happenings.proofs.Cut.{split_by_happenings}
use Rattle.pddl_happenings.proofs.Forms.{DoTheSame, IsSplit}
use Rattle.pddl_happenings.proofs.Prefixes.{concat_singles, eqb-comm, serialisations_converge, split_from_serialisation, splits_converge}
use Rattle.pddl_happenings.proofs.Renamed.{accepted_renamed, numbered_singles}
use Rattle.pddl_happenings.proofs.Serialisations.{each_once, serialisation_from_order}
use Rattle.pddl_happenings.specs.Accepted.{AllFine, IsAcceptedRun}
use Rattle.pddl_happenings.specs.Happenings.{plain_happenings, singles}
use Rattle.pddl_happenings.specs.Serialisations.{Converges, IsSerialOrder}
use Rattle.pddl_happenings.specs.Splits.{AreStepsOf, IsSplitOf, numbered}
use Rattle.pddl_happenings.specs.Steps.{IsFramed, Step}

pub once_moved : (xs ys : List ℕ) → IsPermutation xs ys → IsDistinct eqb xs → IsDistinct eqb ys
once_moved xs ys moved once = IsDistinct-IsPermutation eqb eqb-comm xs ys moved once

-- a split of accepted groups, in the form by happenings, is accepted with the same end and cost
pub split_accepted : {A : Type 0} (p : ℕ → Step A) → ((k : ℕ) → IsFramed (p k)) → (goal : (A → Bool) → Bool) (start end : A → Bool) (cost : ℕ) (hs gs : List (List ℕ)) → IsDistinct eqb (concat hs) → IsAcceptedRun p goal start hs end cost → IsSplit hs gs → IsAcceptedRun p goal start gs end cost
split_accepted p framed goal start end cost hs gs once run split =
    let same : DoTheSame p start hs gs = splits_converge p framed hs start (each_once hs once) run.fine gs split in
    record {
      fine = same.fine;
      end_is = run.end_is ∙ sym same.end;
      goal_holds = run.goal_holds;
      cost_is = run.cost_is ∙ sym same.cost;
    }

pub serial_plan : {A : Type 0} (p q : ℕ → Step A) → ((k : ℕ) → IsFramed (p k)) → (goal : (A → Bool) → Bool) (start end : A → Bool) (cost : ℕ) (hs : List (List ℕ)) (order : List ℕ) → IsDistinct eqb (concat hs) → IsAcceptedRun p goal start hs end cost → IsSerialOrder hs order → AreStepsOf p q order → IsAcceptedRun q goal start (plain_happenings (length order)) end cost
serial_plan p q framed goal start end cost hs order once run is same =
    let split : IsSplit hs (singles order) = split_from_serialisation hs order (serialisation_from_order hs order once is) in
    let alone : IsAcceptedRun p goal start (singles order) end cost = split_accepted p framed goal start end cost hs (singles order) once run split in
    let joined : concat (singles order) ≡ order = concat_singles order in
    let each : IsDistinct eqb order = once_moved (concat hs) order is.each_once once in
    subst (λ gs. IsAcceptedRun q goal start gs end cost) (numbered_singles 0 order)
    (accepted_renamed p q goal start (singles order) end cost (subst (IsDistinct eqb) (sym joined) each) (subst (AreStepsOf p q) (sym joined) same) alone)

pub converge : {A : Type 0} (p : ℕ → Step A) → ((k : ℕ) → IsFramed (p k)) → (s : A → Bool) (hs : List (List ℕ)) → IsDistinct eqb (concat hs) → AllFine p s hs → Converges p s hs
converge p framed s hs once fine order is = serialisations_converge p framed hs s (each_once hs once) fine order (serialisation_from_order hs order once is)

-- a split of accepted groups is accepted with the same end and cost
pub groups_accepted : {A : Type 0} (p : ℕ → Step A) → ((k : ℕ) → IsFramed (p k)) → (goal : (A → Bool) → Bool) (start end : A → Bool) (cost : ℕ) (hs gs : List (List ℕ)) → IsDistinct eqb (concat hs) → IsAcceptedRun p goal start hs end cost → IsSplitOf hs gs → IsAcceptedRun p goal start gs end cost
groups_accepted p framed goal start end cost hs gs once run split = split_accepted p framed goal start end cost hs gs once run (split_by_happenings hs gs once split)

-- and so is the plan of its steps in turn
pub split_plan : {A : Type 0} (p q : ℕ → Step A) → ((k : ℕ) → IsFramed (p k)) → (goal : (A → Bool) → Bool) (start end : A → Bool) (cost : ℕ) (hs gs : List (List ℕ)) → IsDistinct eqb (concat hs) → IsAcceptedRun p goal start hs end cost → IsSplitOf hs gs → AreStepsOf p q (concat gs) → IsAcceptedRun q goal start (numbered 0 gs) end cost
split_plan p q framed goal start end cost hs gs once run split same =
    accepted_renamed p q goal start gs end cost (once_moved (concat hs) (concat gs) split.in_turn.each_once once) same (groups_accepted p framed goal start end cost hs gs once run split)
