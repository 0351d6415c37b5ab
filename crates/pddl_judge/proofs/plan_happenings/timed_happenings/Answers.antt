use Rattle.std.proofs.Common.{rules, refl, sym, ap, ◌∙◌, ◌≡◌, List, [], ◌∷◌, ◌++◌, map, append-nil, append_assoc}
use Rattle.std.proofs.lemmas.List.{map-append}
use Rattle.std.specs.Prelude.{Some}
use Rattle.pddl_judge.specs.HappeningValues.{groups_of, moments_of}
use Rattle.pddl_happenings.specs.Happenings.{AreOfTimed}
use Rattle.pddl_judge.proofs.Made.{made}
use Rattle.pddl_happenings.proofs.ListedOnce.{timed_each}
use Rattle.pddl_judge.proofs.plan_happenings.timed_happenings.Goals as goal

-- one that is left is made
further : {X Y Z : Type 0} (f : Y → Z) (h : X → Z) (done new : List Y) (y : Y) (x : X) (left rest : List X) (whole : List Z) → new ≡ done ++ y ∷ [] → left ≡ x ∷ rest → f y ≡ h x → map f done ++ map h left ≡ whole → map f new ++ map h rest ≡ whole
further f h done new y x left rest whole is next same so_far =
    ap (λ l. map f l ++ map h rest) is
    ∙ (ap (λ l. l ++ map h rest) (map-append f done (y ∷ []))
    ∙ (append_assoc (map f done) (f y ∷ []) (map h rest)
    ∙ (ap (λ z. map f done ++ z ∷ map h rest) same
    ∙ (ap (λ l. map f done ++ map h l) (sym next) ∙ so_far))))

pub loop-moment-init : goal.loop-moment-init
loop-moment-init g c =
    let none = c.new-happenings.ensures.items in
    let left = c.into_iter-moment-iterator.result in
    record {
      moments = ap (λ l. map (λ h. h.moment) l ++ map (λ e. Some e.0) left) none;
      steps = ap (λ l. map (λ h. h.steps) l ++ map (λ e. e.1.items) left) none;
    }

pub loop-moment-preserved : goal.loop-moment-preserved
loop-moment-preserved g c =
    let done = c.loop-moment.happenings.items in
    let new = c.push.new.self.items in
    let left = c.loop-moment.moment-iterator in
    let rest = c.next.new.self in
    let next : left ≡ (c.in-Some.moment, c.in-Some.steps) ∷ rest = search rules in
    record {
      moments = further (λ h. h.moment) (λ e. Some e.0) done new _ _ left rest _ c.in_ok-push.ensures.items next refl c.loop-moment.invariant.moments;
      steps = further (λ h. h.steps) (λ e. e.1.items) done new _ _ left rest _ c.in_ok-push.ensures.items next refl c.loop-moment.invariant.steps;
    }

pub returns : goal.returns
returns g c =
    let hs = c.loop-moment.happenings.items in
    let es = c.in_ok-groups.groups.entries in
    let whole : c.into_iter-moment-iterator.result ≡ es = search rules in
    let none : c.loop-moment.moment-iterator ≡ [] = search rules in
    let moments : map (λ h. h.moment) hs ≡ map (λ e. Some e.0) es = sym (append-nil (map (λ h. h.moment) hs)) ∙ (ap (λ l. map (λ h. h.moment) hs ++ map (λ e. Some e.0) l) (sym none) ∙ (c.loop-moment.invariant.moments ∙ ap (map (λ e. Some e.0)) whole)) in
    let steps : groups_of hs ≡ map (λ e. e.1.items) es = sym (append-nil (groups_of hs)) ∙ (ap (λ l. groups_of hs ++ map (λ e. e.1.items) l) (sym none) ∙ (c.loop-moment.invariant.steps ∙ ap (map (λ e. e.1.items)) whole)) in
    let are : AreOfTimed c.args.moments.now (moments_of hs) (groups_of hs) = made (λ v. v.items) c.args.moments.now c.in_ok-groups.groups c.in_ok-groups.ensures.ordered c.in_ok-groups.ensures.groups hs moments steps in
    record { happenings = are; each = timed_each c.args.moments.now (moments_of hs) (groups_of hs) are }
