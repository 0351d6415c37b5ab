use Rattle.std.proofs.Common.{◌≡◌, ℕ, suc, ◌+◌, ◌-◌, ◌<◌, List, [], ◌∷◌, ◌++◌, map, rules, arith, refl, sym, ap, ◌∙◌, append_assoc, subst}
use Rattle.std.proofs.lemmas.List.{map-append}
use Rattle.std.specs.Prelude.{All, None}
use Rattle.std.proofs.lemmas.List.Elements.{All-push}
use Rattle.pddl_happenings.specs.Happenings.{singles, numbers_to, plain_happenings, AreOfPlain}
use Rattle.pddl_judge.specs.HappeningValues.{groups_of, moments_of}
use Rattle.pddl_happenings.proofs.ListedOnce.{plain_each}
use Rattle.pddl_judge.proofs.plan_happenings.plain_happenings.Goals as goal

further : {X : Type 0} (f : X → List ℕ) (done new : List X) (alone : X) (i n : ℕ) (whole : List (List ℕ)) → i < n → f alone ≡ i ∷ [] → new ≡ done ++ alone ∷ [] → map f done ++ singles (numbers_to i (n - i)) ≡ whole → map f new ++ singles (numbers_to (i + 1) (n - (i + 1))) ≡ whole
further f done new alone i n whole h one is so_far =
    let e : n - i ≡ suc (n - (i + 1)) = omega (arith, h) in
    let rest = singles (numbers_to (i + 1) (n - (i + 1))) in
    ap (λ l. map f l ++ rest) is
    ∙ (ap (λ l. l ++ rest) (map-append f done (alone ∷ []))
    ∙ (append_assoc (map f done) (f alone ∷ []) rest
    ∙ (ap (λ x. map f done ++ x ∷ rest) one
    ∙ (ap (λ k. map f done ++ singles (numbers_to i k)) (sym e) ∙ so_far))))

pub loop-step-preserved : goal.loop-step-preserved
loop-step-preserved g c =
    let before = c.loop-step.happenings.items in
    let after = c.push.new.self.items in
    let alone : List ℕ = c.in_ok-vec.field-0.items in
    let one : alone ≡ c.loop-step.step ∷ [] = search rules in
    let is : after ≡ before ++ record { moment = None; steps = alone } ∷ [] = c.in_ok-push.ensures.items in
    record {
      no_moments = subst (All (λ m. m ≡ None)) (sym (ap moments_of is ∙ map-append (λ h. h.moment) before (record { moment = None; steps = alone } ∷ []))) (All-push (λ m. m ≡ None) (moments_of before) None c.loop-step.invariant.no_moments refl);
      steps = further (λ h. h.steps) before after (record { moment = None; steps = alone }) c.loop-step.step c.args.steps (plain_happenings c.args.steps) c.loop-step-test.true one is c.loop-step.invariant.steps;
    }

pub returns-clause-each : goal.returns-clause-each
returns-clause-each g c =
    let hs = c.loop-step.happenings.items in
    let are : AreOfPlain c.args.steps (moments_of hs) (groups_of hs) = search rules in
    plain_each c.args.steps (moments_of hs) (groups_of hs) are
