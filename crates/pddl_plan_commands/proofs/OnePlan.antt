-- A plan is checked in one way.
use Rattle.std.proofs.Common.{◌≡◌, ◌≢◌, ℕ, suc, true, cond, List, [], ◌∷◌, ◌++◌, length, refl, sym, ap, subst, ◌∙◌, inl, inr, arith, true≢false}
use Rattle.std.specs.Prelude.{◌==◌, codes, Option, Some, None, IfSome}
use Rattle.std.specs.List.{AllByRecursion}
use Rattle.std.specs.Ordering.{is_le, is_eq, ordering_reverse}
use Rattle.std.specs.declared.cmp.Ordering.{Ordering}
use Rattle.std.specs.declared.cmp.Ordering.TheVariants.{Less, Equal, Greater}
use Rattle.pddl_plan.specs.Plans.{PlanValue}
use Rattle.pddl_step_reader.specs.PlanTexts.{SpellsPlan}
use Rattle.pddl_plan_reader.proofs.PlanTextLaws.{one_plan}
use Rattle.pddl_domain.specs.Domains.{DomainValue}
use Rattle.pddl_domain_reader.specs.DomainTexts.{SpellsDomain}
use Rattle.pddl_domain_reader.proofs.DomainTextLaws.{one_domain}
use Rattle.pddl_problem.specs.Inits.{GroundValue}
use Rattle.pddl_problem.specs.Problems.{ProblemValue}
use Rattle.pddl_problem_reader.specs.ProblemTexts.{SpellsProblem}
use Rattle.pddl_problem_reader.proofs.ProblemTexts.{one_problem}
use Rattle.pddl_task.specs.Linked.{faults, IsLinked}
use Rattle.pddl_task.specs.Tasks.{TaskValue, task_of}
use Rattle.pddl_state.specs.Atoms.{AtomValue, atom_cmp}
use Rattle.pddl_state.proofs.AtomOrder.{same_atom, atom_order, atom_ties}
use Rattle.pddl_happenings.specs.Failures.{IsFirstClash, IsFirstUnready}
use Rattle.pddl_happenings.specs.Steps.{Step, clash}
use Rattle.pddl_happenings.proofs.Forms.{EachOnce}
use Rattle.pddl_happenings.proofs.ListedOnce.{timed_each, plain_each, is_distinct}
use Rattle.pddl_happenings.proofs.Serialisations.{each_once}
use Rattle.pddl_judge.proofs.Refusals.{unready_not_fine}
use Rattle.pddl_meaning.specs.Worlds.{Atoms}
use Rattle.pddl_plan_link.specs.declared.fault.StepFault.{StepFault}
use Rattle.pddl_plan_link.specs.declared.fault.StepFault.TheVariants as link
use Rattle.pddl_linked_plan.specs.LinkedLaws.{HaveAlikeMoments}
use Rattle.pddl_linked_plan.specs.LinkedSteps.{LinkedStepValue, linked_steps, AreLinkedSteps}
use Rattle.pddl_linked_plan.specs.NumberedAtoms.{named_atom}
use Rattle.pddl_linked_plan.specs.StepFaults.{step_faults, IsGoodStep, IsLinkedPlan, IsPlanFault}
use Rattle.pddl_plan_link.specs.StepVerdicts.{plan_fault_of}
use Rattle.pddl_linked_plan.proofs.InitialAtoms.{known_in_range}
use Rattle.pddl_linked_plan.proofs.SoundSteps.{steps_are_sound}
use Rattle.pddl_plan_steps.specs.NumberedSteps.{number_of}
use Rattle.pddl_plan_steps.specs.PlanSteps.{named_steps, initial_state}
use Rattle.pddl_plan_steps.specs.AcceptedPlans.{moments_in, AreHappeningsOf}
use Rattle.pddl_plan_steps.proofs.OnlyHappenings.{happenings_once}
use Rattle.pddl_kind.specs.declared.Kind.TheVariants.{Domain, Problem, Plan}
use Rattle.pddl_file_lines.specs.declared.outcome.Outcome.{Outcome}
use Rattle.pddl_file_lines.specs.declared.outcome.Outcome.TheVariants.{Good, Invalid, Refused}
use Rattle.pddl_file_lines.specs.Refusals.{IsRefused}
use Rattle.pddl_file_lines.specs.LinkRefusals.{AreAlike}
use Rattle.pddl_file_lines.specs.Judgements.{ForProblem}
use Rattle.pddl_file_lines.proofs.FaultLines.{one_line}
use Rattle.pddl_file_lines.proofs.OneRefusal.{one_refused, no_domain_refused, no_problem_refused, no_plan_refused, one_fault, good_or_refused}
use Rattle.pddl_file_lines.proofs.OneAnswer.{one_answer}
use Rattle.pddl_plan_lines.specs.PlanLines.{step_fault_name}
use Rattle.pddl_plan_commands.specs.Printings.{Printing}
use Rattle.pddl_plan_commands.specs.PlanChecks.{IsStepRefused, IsValidPlan, Failure, unready, interference, off_goal, IsLeastNamed, IsFirstFailure, failure_line, IsInvalidPlan, AreStepsJudged, IsJudgedIn, IsPlanJudged, ForPlan, EndsInOneWay}
use Rattle.pddl_plan_commands.proofs.FirstFailures.{happening_once, not_all_fine}
use Rattle.pddl_plan_commands.proofs.KnownClashes.{clash_known}
use Rattle.pddl_plan_commands.proofs.OneFailure.{HasSome, one_unready, unready_or_clash, one_clash, clash_not_fine}
use Rattle.pddl_plan_commands.proofs.OneText.{PrintsOneText}
use Rattle.pddl_plan_commands.proofs.SomeHappenings.{some_happenings}

-- ---- one fault of a plan's linking

module _ {X : Type 0} (faults_of : X → List ℕ) where
  one_first : (before after more later : List X) (s t : X) (n m : ℕ) (ns ms : List ℕ) → before ++ s ∷ after ≡ more ++ t ∷ later → AllByRecursion (λ x. faults_of x ≡ []) before → AllByRecursion (λ x. faults_of x ≡ []) more
      → faults_of s ≡ n ∷ ns → faults_of t ≡ m ∷ ms → (n ≡ m) × (length before ≡ length more)
  one_first [] after [] later s t n m ns ms e good fine f h = (let same : s ≡ t = cc in let both : n ∷ ns ≡ m ∷ ms = sym f ∙ (ap faults_of same ∙ h) in cc, refl)
  one_first [] after (y ∷ more) later s t n m ns ms e good fine f h = (let same : s ≡ y = cc in let none : n ∷ ns ≡ [] = sym f ∙ (ap faults_of same ∙ fine.0) in cc)
  one_first (x ∷ before) after [] later s t n m ns ms e good fine f h = (let same : x ≡ t = cc in let none : m ∷ ms ≡ [] = sym h ∙ (ap faults_of (sym same) ∙ good.0) in cc)
  one_first (x ∷ before) after (y ∷ more) later s t n m ns ms e good fine f h =
      let rest = one_first before after more later s t n m ns ms (let tails : before ++ s ∷ after ≡ more ++ t ∷ later = cc in tails) good.1 fine.1 f h in
      (rest.0, ap suc rest.1)

  none_first : (before after : List X) (s : X) (n : ℕ) (ns : List ℕ) → AllByRecursion (λ x. faults_of x ≡ []) (before ++ s ∷ after) → faults_of s ≡ n ∷ ns → ⊥
  none_first [] after s n ns good f = let none : n ∷ ns ≡ [] = sym f ∙ good.0 in cc
  none_first (x ∷ before) after s n ns good f = none_first before after s n ns good.1 f

module _ (task : TaskValue) (plan : PlanValue) where
  one_plan_fault : (n m : ℕ) (at to : Option ℕ) → IsPlanFault task plan n at → IsPlanFault task plan m to → (n ≡ m) × (at ≡ to)
  one_plan_fault n m None None f h = (f.0 ∙ sym h.0, refl)
  one_plan_fault n m None (Some k) f h = absurd (omega (arith, f.1, h.0))
  one_plan_fault n m (Some k) None f h = absurd (omega (arith, f.0, h.1))
  one_plan_fault n m (Some k) (Some l) f h =
      let one = f.1 in
      let other = h.1 in
      let same = one_first (step_faults task) one.before one.after other.before other.after one.step other.step n m one.others other.others (sym one.steps_are ∙ other.steps_are) one.good other.good one.lowest other.lowest in
      (same.0, ap Some (sym one.place_is ∙ (same.1 ∙ other.place_is)))

  no_plan_fault : (n : ℕ) (at : Option ℕ) → IsLinkedPlan task plan → IsPlanFault task plan n at → ⊥
  no_plan_fault n None good f = absurd (omega (arith, good.short, f.1))
  no_plan_fault n (Some k) good f =
      let one = f.1 in
      none_first (step_faults task) one.before one.after one.step n one.others (subst (AllByRecursion (IsGoodStep task)) one.steps_are good.good) one.lowest

-- a fault by its number and its step
abbrev fault_at : ℕ → ℕ → StepFault
fault_at n k = cond (n == 40) (link.UnknownAction k) (cond (n == 41) (link.StepArity k) (cond (n == 42) (link.UnknownObject k) (cond (n == 43) (link.StepType k) (cond (n == 44) (link.CostUndefined k) (link.StepTooLarge k)))))

abbrev fault_by : ℕ → Option ℕ → StepFault
fault_by n None = link.PlanTooLong
fault_by n (Some k) = fault_at n k

-- what holds of the number and the step of a fault that is not want of memory
by_number : (P : ℕ → Option ℕ → Type 0) (fault : StepFault) → fault ≢ link.Memory → IfSome (plan_fault_of fault) (λ f. P f.0 f.1) → (n : ℕ) × (at : Option ℕ) × P n at × (fault ≡ fault_by n at)
by_number P link.Memory other h = absurd (other refl)
by_number P (link.UnknownAction k) other h = (40, Some k, h, refl)
by_number P (link.StepArity k) other h = (41, Some k, h, refl)
by_number P (link.UnknownObject k) other h = (42, Some k, h, refl)
by_number P (link.StepType k) other h = (43, Some k, h, refl)
by_number P (link.CostUndefined k) other h = (44, Some k, h, refl)
by_number P link.PlanTooLong other h = (45, None, h, refl)
by_number P (link.StepTooLarge k) other h = (46, Some k, h, refl)

module _ (task : TaskValue) (plan : PlanValue) where
  one_step_line : (printed other : List ℕ) → IsStepRefused task plan printed → IsStepRefused task plan other → printed ≡ other
  one_step_line printed other p q =
      let f = by_number (IsPlanFault task plan) p.fault p.no_memory p.first in
      let h = by_number (IsPlanFault task plan) q.fault q.no_memory q.first in
      let same = one_plan_fault task plan f.0 h.0 f.1 h.1 f.2 h.2 in
      let fault : p.fault ≡ q.fault = f.3 ∙ (ap (λ n. fault_by n f.1) same.0 ∙ (ap (fault_by h.0) same.1 ∙ sym h.3)) in
      one_line (codes "plan") [] (step_fault_name p.fault) (step_fault_name q.fault) None None printed other (ap step_fault_name fault) refl p.line q.line

  linked_or_refused : (printed : List ℕ) → IsLinkedPlan task plan → IsStepRefused task plan printed → ⊥
  linked_or_refused printed good q = let f = by_number (IsPlanFault task plan) q.fault q.no_memory q.first in no_plan_fault task plan f.0 f.1 good f.2

-- ---- one atom of a clash

-- an atom that comes no later than another, which comes no later than it, is that one
tied : (r s : Ordering) → r ≡ ordering_reverse s → is_le r ≡ true → is_le s ≡ true → r ≡ Equal
tied Less Less e h k = cc
tied Less Equal e h k = cc
tied Less Greater e h k = absurd (true≢false (sym k))
tied Equal s e h k = refl
tied Greater s e h k = absurd (true≢false (sym h))

neither_later : (x y : AtomValue) → is_le (atom_cmp x y) ≡ true → is_le (atom_cmp y x) ≡ true → x ≡ y
neither_later x y h k =
    let equal : atom_cmp x y ≡ Equal = tied (atom_cmp x y) (atom_cmp y x) (atom_order.antisymm x y) h k in
    same_atom x y (atom_ties x y ∙ ap is_eq equal)

-- ---- one verdict

module _ (d : DomainValue) (p : ProblemValue) (linked : IsLinked d p) (steps : List LinkedStepValue) (are : AreLinkedSteps (task_of d p) steps) where
  abbrev task : TaskValue
  task = task_of d p

  abbrev named : ℕ → Step GroundValue
  named = named_steps task steps

  alike : HaveAlikeMoments steps
  alike = ((steps_are_sound d p linked steps).0 are).alike

  once_in : HaveAlikeMoments steps → (at : List (Option ℕ)) (gs : List (List ℕ)) → AreHappeningsOf steps at gs → EachOnce gs
  once_in (inl none) at gs of = each_once gs (is_distinct (length steps) gs (plain_each (length steps) at gs (of.plain none)))
  once_in (inr some) at gs of = each_once gs (is_distinct (length (moments_in steps)) gs (timed_each (moments_in steps) at gs (of.timed some)))

  one_least : (s : Atoms) (h k : ℕ) (atom other : GroundValue) → IsLeastNamed task atom (clash (named h) (named k) s) → IsLeastNamed task other (clash (named h) (named k) s) → atom ≡ other
  one_least s h k atom other one least =
      let number : number_of task atom ≡ number_of task other = neither_later (number_of task atom) (number_of task other) (one.least other least.is_in) (least.least atom one.is_in) in
      sym (known_in_range task atom (clash_known d p linked steps are s h k atom one.is_in)).1
      ∙ (ap (named_atom task) number ∙ (known_in_range task other (clash_known d p linked steps are s h k other least.is_in)).1)

  has_some : (atom : GroundValue) → HasSome (IsLeastNamed task atom)
  has_some atom c least = (atom, least.is_in)

  one_valid : (Prints : Printing) → PrintsOneText Prints → (printed other : List ℕ) → IsValidPlan Prints task steps printed → IsValidPlan Prints task steps other → printed ≡ other
  one_valid Prints one printed other v w =
      let same : v.happenings ≡ w.happenings = happenings_once steps alike v.moments w.moments v.happenings w.happenings v.are w.are in
      let cost : v.cost ≡ w.cost = (v.accepted v.moments v.happenings v.are).cost_is ∙ sym (w.accepted v.moments v.happenings v.are).cost_is in
      one task steps w.happenings v.end w.end w.cost printed other
      (subst (λ n. Prints task steps w.happenings v.end n printed) cost (subst (λ gs. Prints task steps gs v.end v.cost printed) same v.prints)) w.prints

  module _ (at : List (Option ℕ)) (gs : List (List ℕ)) (of : AreHappeningsOf steps at gs) where
    abbrev Unready : ℕ → Atoms → List ℕ → Type 0
    Unready step s g = IsFirstUnready named s g step

    abbrev Clash : GroundValue → ℕ → ℕ → Atoms → List ℕ → Type 0
    Clash atom first second s g = IsFirstClash named (IsLeastNamed task atom) s g first second

    once : EachOnce gs
    once = once_in alike at gs of

    one_failure : (f g : Failure) → IsFirstFailure task steps f → IsFirstFailure task steps g → f ≡ g
    one_failure (unready h m) (unready i n) one other =
        let same = happening_once named (Unready m) (Unready n) (m ≡ n) (λ s g _ is fine. unready_not_fine named m s g is fine) (λ s g _ is fine. unready_not_fine named n s g is fine) (λ s g is so. one_unready named s g m n is so)
        (initial_state task) gs h i once (one at gs of) (other at gs of) in
        ap (λ k. unready k m) same.0 ∙ ap (unready i) same.1
    one_failure (unready h m) (interference i first second atom) one other =
        absurd (happening_once named (Unready m) (Clash atom first second) ⊥ (λ s g _ is fine. unready_not_fine named m s g is fine) (λ s g apart is fine. clash_not_fine named s g (IsLeastNamed task atom) (has_some atom) first second apart is fine)
        (λ s g is so. unready_or_clash named s g (IsLeastNamed task atom) m first second is so) (initial_state task) gs h i once (one at gs of) (other at gs of)).1
    one_failure (unready h m) off_goal one other =
        absurd (not_all_fine named (Unready m) (λ s g _ is fine. unready_not_fine named m s g is fine) (initial_state task) gs h once (one at gs of) (other at gs of).0)
    one_failure (interference i first second atom) (unready h m) one other =
        absurd (happening_once named (Unready m) (Clash atom first second) ⊥ (λ s g _ is fine. unready_not_fine named m s g is fine) (λ s g apart is fine. clash_not_fine named s g (IsLeastNamed task atom) (has_some atom) first second apart is fine)
        (λ s g is so. unready_or_clash named s g (IsLeastNamed task atom) m first second is so) (initial_state task) gs h i once (other at gs of) (one at gs of)).1
    one_failure (interference h first second atom) (interference i third fourth least) one other =
        let same = happening_once named (Clash atom first second) (Clash least third fourth) ((first ≡ third) × (second ≡ fourth) × (atom ≡ least))
        (λ s g apart is fine. clash_not_fine named s g (IsLeastNamed task atom) (has_some atom) first second apart is fine)
        (λ s g apart is fine. clash_not_fine named s g (IsLeastNamed task least) (has_some least) third fourth apart is fine)
        (λ s g is so. one_clash named s g (IsLeastNamed task atom) (IsLeastNamed task least) (atom ≡ least) (has_some atom) (has_some least) (λ j k. one_least s j k atom least) first second third fourth is so)
        (initial_state task) gs h i once (one at gs of) (other at gs of) in
        ap (λ k. interference k first second atom) same.0 ∙ (ap (λ k. interference i k second atom) same.1.0 ∙ (ap (λ k. interference i third k atom) same.1.1 ∙ ap (interference i third fourth) same.1.2))
    one_failure (interference h first second atom) off_goal one other =
        absurd (not_all_fine named (Clash atom first second) (λ s g apart is fine. clash_not_fine named s g (IsLeastNamed task atom) (has_some atom) first second apart is fine) (initial_state task) gs h once (one at gs of) (other at gs of).0)
    one_failure off_goal (unready h m) one other =
        absurd (not_all_fine named (Unready m) (λ s g _ is fine. unready_not_fine named m s g is fine) (initial_state task) gs h once (other at gs of) (one at gs of).0)
    one_failure off_goal (interference h first second atom) one other =
        absurd (not_all_fine named (Clash atom first second) (λ s g apart is fine. clash_not_fine named s g (IsLeastNamed task atom) (has_some atom) first second apart is fine) (initial_state task) gs h once (other at gs of) (one at gs of).0)
    one_failure off_goal off_goal one other = refl

  one_invalid : (printed other : List ℕ) → IsInvalidPlan task steps printed → IsInvalidPlan task steps other → printed ≡ other
  one_invalid printed other v w =
      let some = some_happenings steps alike in
      v.line ∙ (ap failure_line (one_failure some.0 some.1 some.2 v.failure w.failure v.first w.first) ∙ sym w.line)

  module _ (Prints : Printing) (one : PrintsOneText Prints) where
    one_steps_judged : (printed other : List ℕ) (outcome ended : Outcome) → AreStepsJudged Prints task steps printed outcome → AreStepsJudged Prints task steps other ended → (printed ≡ other) × (outcome ≡ ended)
    one_steps_judged printed other Good Good v w = (one_valid Prints one printed other v w, refl)
    one_steps_judged printed other Good Invalid v w = absurd (w.not_accepted v.end v.cost v.accepted)
    one_steps_judged printed other Invalid Good v w = absurd (v.not_accepted w.end w.cost w.accepted)
    one_steps_judged printed other Invalid Invalid v w = (one_invalid printed other v w, refl)
    one_steps_judged printed other Good Refused v bad = absurd bad
    one_steps_judged printed other Invalid Refused v bad = absurd bad
    one_steps_judged printed other Refused ended bad w = absurd bad

-- ---- one answer for values

module _ (Prints : Printing) (one : PrintsOneText Prints) (d : DomainValue) (p : ProblemValue) where
  one_judged_in : IsLinked d p → (plan : PlanValue) (printed other : List ℕ) (outcome ended : Outcome) → IsJudgedIn Prints (task_of d p) plan printed outcome → IsJudgedIn Prints (task_of d p) plan other ended → (printed ≡ other) × (outcome ≡ ended)
  one_judged_in linked plan printed other outcome ended (inl (is, v)) (inl (same, w)) = (one_step_line (task_of d p) plan printed other v w, is ∙ sym same)
  one_judged_in linked plan printed other outcome ended (inl (is, v)) (inr (good, w)) = absurd (linked_or_refused (task_of d p) plan printed good v)
  one_judged_in linked plan printed other outcome ended (inr (good, v)) (inl (is, w)) = absurd (linked_or_refused (task_of d p) plan other good w)
  one_judged_in linked plan printed other outcome ended (inr (good, v)) (inr (also, w)) =
      one_steps_judged d p linked (linked_steps (task_of d p) plan) (record { plan = plan; linked = good; steps_are = refl }) Prints one printed other outcome ended v w

  one_plan_judged : (plan : PlanValue) (printed other : List ℕ) (outcome ended : Outcome) → IsPlanJudged Prints d p plan printed outcome → IsPlanJudged Prints d p plan other ended → AreAlike printed other × (outcome ≡ ended)
  one_plan_judged plan printed other outcome ended (inl (is, v)) (inl (same, w)) = (one_fault (faults d p) printed other v w, is ∙ sym same)
  one_plan_judged plan printed other outcome ended (inl (is, v)) (inr (linked, w)) = absurd (good_or_refused (faults d p) printed linked v)
  one_plan_judged plan printed other outcome ended (inr (linked, v)) (inl (is, w)) = absurd (good_or_refused (faults d p) other linked w)
  one_plan_judged plan printed other outcome ended (inr (linked, v)) (inr (also, w)) = let same = one_judged_in linked plan printed other outcome ended v w in (inl same.0, same.1)

-- ---- one answer for texts

module _ (Prints : Printing) (one : PrintsOneText Prints) where
  one_for_plan : (d : DomainValue) (p : ProblemValue) (plan printed other : List ℕ) (outcome ended : Outcome) → ForPlan (IsPlanJudged Prints d p) plan printed outcome → ForPlan (IsPlanJudged Prints d p) plan other ended
      → AreAlike printed other × (outcome ≡ ended)
  one_for_plan d p plan = one_answer SpellsPlan (IsRefused Plan) (IsPlanJudged Prints d p) plan (one_plan plan) (no_plan_refused plan) (one_refused Plan plan) (one_plan_judged Prints one d p)

  one_for_problem : (d : DomainValue) (problem plan printed other : List ℕ) (outcome ended : Outcome) → ForProblem (λ p. ForPlan (IsPlanJudged Prints d p) plan) problem printed outcome
      → ForProblem (λ p. ForPlan (IsPlanJudged Prints d p) plan) problem other ended → AreAlike printed other × (outcome ≡ ended)
  one_for_problem d problem plan =
      one_answer SpellsProblem (IsRefused Problem) (λ p. ForPlan (IsPlanJudged Prints d p) plan) problem (one_problem problem) (no_problem_refused problem) (one_refused Problem problem) (λ p. one_for_plan d p plan)

  pub ends_in_one_way : EndsInOneWay Prints
  ends_in_one_way domain problem plan =
      one_answer SpellsDomain (IsRefused Domain) (λ d. ForProblem (λ p. ForPlan (IsPlanJudged Prints d p) plan) problem) domain (one_domain domain) (no_domain_refused domain) (one_refused Domain domain)
      (λ d. one_for_problem d problem plan)
