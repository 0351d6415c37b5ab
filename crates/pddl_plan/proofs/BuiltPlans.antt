-- Plans in making, as parts of one list of names.
use Rattle.std.proofs.Common.{◌≡◌, ◌<◌, ◌≤◌, ℕ, ◌+◌, ◌-◌, Bool, true, false, IsTrue, zero, suc, List, [], ◌∷◌, ◌++◌, length, drop, take, map, refl, sym, ap, subst, ◌∙◌, inl, inr, arith}
use Rattle.std.specs.Prelude.{◌⊎◌, Option, Some, None, Result, Ok, Err, IfOk, OnErr, ◌&&◌, nat_eq, nat_lt, slice_get, slice_range, option_map}
use Rattle.std.specs.List.{list_all}
use Rattle.std.proofs.lemmas.Bool.Decides.{nat_tests}
use Rattle.std.proofs.lemmas.List.{append-nil, length-append, length-drop, length-map, length-take-le, take-append-drop, drop-append-le, drop_all}
use Rattle.std.proofs.lemmas.List.Folds.{drop_split, list_all-append}
use Rattle.pddl_token.specs.Number.{largest}
use Rattle.pddl_token.proofs.Tests.{both_true}
use Rattle.pddl_token.specs.Names.{is_name, name_of, folded}
use Rattle.pddl_plan.specs.Cuts.{cut, last_end, Rises}
use Rattle.pddl_plan.specs.NameLists.{AddsName}
use Rattle.pddl_plan.specs.Building.{Building, is_moment, AreStepsIn, AddsWord, ended, ended_at}
use Rattle.pddl_plan.specs.Built.{IsBuilt}
use Rattle.pddl_plan.specs.Plans.{StepValue, TimedValue, is_step, is_timed, is_plan, step_of_names, at_moments, plan_of, built_plan, steps_of, moment_at}
use Rattle.pddl_token.proofs.Options.{if_some}
use Rattle.pddl_plan.proofs.CutLists.{last_end_pushed, rises_pushed, as_many, length-cut, length-range, cut_kept, cut_pushed, cut_taken, range_to_end}

and_true : (a b : Bool) → IsTrue a → IsTrue b → IsTrue (a && b)
and_true a b p q = rw (p, q) refl

module _ {A : Type 0} (p : A → Bool) where
  all_both : (xs ys : List A) → IsTrue (list_all p (xs ++ ys)) → IsTrue (list_all p xs) × IsTrue (list_all p ys)
  all_both xs ys all = both_true (list_all p xs) (list_all p ys) (sym (list_all-append p xs ys) ∙ all)

  pub all_more : (xs ys : List A) → IsTrue (list_all p xs) → IsTrue (list_all p ys) → IsTrue (list_all p (xs ++ ys))
  all_more xs ys one other = list_all-append p xs ys ∙ and_true (list_all p xs) (list_all p ys) one other

  pub all_first : (n : ℕ) (xs : List A) → IsTrue (list_all p xs) → IsTrue (list_all p (take n xs))
  all_first n xs all = (all_both (take n xs) (drop n xs) (ap (list_all p) (take-append-drop n xs) ∙ all)).0

  all_range : (xs : List A) (a b : ℕ) → a ≤ b → IsTrue (list_all p xs) → IsTrue (list_all p (slice_range xs a b))
  all_range xs a b le all =
      let behind = (all_both (take a xs) (drop a xs) (ap (list_all p) (take-append-drop a xs) ∙ all)).1 in
      (all_both (slice_range xs a b) (drop b xs) (ap (list_all p) (sym (drop_split xs a b le)) ∙ behind)).0

-- ---- what is built is a plan

step_named : (names : List (List ℕ)) → 0 < length names → IsTrue (list_all is_name names) → IsTrue (is_step (step_of_names names))
step_named [] some all = absurd (omega (arith, some))
step_named (name ∷ names) some all = all

steps_named : (names : List (List ℕ)) (start : ℕ) (ends : List ℕ) → IsTrue (list_all is_name names) → Rises start ends → last_end start ends ≤ length names
    → IsTrue (list_all is_step (map step_of_names (cut names start ends)))
steps_named names start [] all rises within = refl
steps_named names start (e ∷ ends) all rises within =
    let low : e ≤ length names = omega (arith, within, as_many e ends rises.1) in
    and_true (is_step (step_of_names (slice_range names start e))) (list_all is_step (map step_of_names (cut names e ends)))
    (step_named (slice_range names start e) (omega (arith, rises.0, length-range names start e low)) (all_range is_name names start e (omega (arith, rises.0)) all))
    (steps_named names e ends all rises.1 within)

steps_timed : (moments : List ℕ) (steps : List StepValue) → IsTrue (list_all is_moment moments) → IsTrue (list_all is_step steps) → IsTrue (list_all is_timed (at_moments moments steps))
steps_timed [] steps in_range named = refl
steps_timed (m ∷ moments) [] in_range named = refl
steps_timed (m ∷ moments) (step ∷ steps) in_range named =
    let ms = both_true (is_moment m) (list_all is_moment moments) in_range in
    let ss = both_true (is_step step) (list_all is_step steps) named in
    and_true (is_moment m && is_step step) (list_all is_timed (at_moments moments steps)) (and_true (is_moment m) (is_step step) ms.0 ss.0) (steps_timed moments steps ms.1 ss.1)

plan_named : (moments : List ℕ) (steps : List StepValue) → (moments ≡ []) ⊎ (length moments ≡ length steps) → IsTrue (list_all is_moment moments) → IsTrue (list_all is_step steps) → IsTrue (is_plan (plan_of moments steps))
plan_named [] steps kinds in_range named = named
plan_named (m ∷ moments) [] (inl none) in_range named = absurd (cc (none))
plan_named (m ∷ moments) [] (inr same) in_range named = absurd (omega (arith, same))
plan_named (m ∷ moments) (step ∷ steps) kinds in_range named =
    let timed_steps : List TimedValue = at_moments (m ∷ moments) (step ∷ steps) in
    let some : nat_lt 0 (length timed_steps) ≡ true = grind (arith, nat_tests) in
    and_true (nat_lt 0 (length timed_steps)) (list_all is_timed timed_steps) some (steps_timed (m ∷ moments) (step ∷ steps) in_range named)

module _ (names : List (List ℕ)) (ends moments : List ℕ) (held : AreStepsIn names ends moments) where
  abbrev pub view : Building
  view = record { moments = moments; steps = cut names 0 ends; names = drop (last_end 0 ends) names }

  of_one_kind : (n : ℕ) → n ≡ length ends → (moments ≡ []) ⊎ (length moments ≡ length ends) → (moments ≡ []) ⊎ (length moments ≡ n)
  of_one_kind n is (inl none) = inl none
  of_one_kind n is (inr same) = inr (same ∙ sym is)

  pub is_built : IsBuilt view
  is_built =
      let steps : List StepValue = map step_of_names (cut names 0 ends) in
      record {
        kinds = of_one_kind (length (cut names 0 ends)) (length-cut names 0 ends) held.kinds;
        plan = plan_named moments steps (of_one_kind (length steps) (length-map (cut names 0 ends) step_of_names ∙ length-cut names 0 ends) held.kinds) held.in_range
            (steps_named names 0 ends held.named held.rises held.within);
      }

  -- names are added behind the steps
  module _ (new more : List (List ℕ)) (new_is : new ≡ names ++ more) (named : IsTrue (list_all is_name more)) where
    pub named_held : AreStepsIn new ends moments
    named_held = record {
      rises = held.rises;
      within = omega (arith, held.within, ap length new_is, length-append names more);
      kinds = held.kinds;
      in_range = held.in_range;
      named = subst (λ (ns : List (List ℕ)). IsTrue (list_all is_name ns)) (sym new_is) (all_more is_name names more held.named named);
    }

    pub same_steps : cut new 0 ends ≡ cut names 0 ends
    same_steps = ap (λ (ns : List (List ℕ)). cut ns 0 ends) new_is ∙ cut_kept names more 0 ends held.rises held.within

    pub names_behind : drop (last_end 0 ends) new ≡ drop (last_end 0 ends) names ++ more
    names_behind = ap (drop (last_end 0 ends)) new_is ∙ drop-append-le (last_end 0 ends) names more held.within

  -- the step of the names behind the steps is ended
  module _ (end : ℕ) (end_is : end ≡ length names) (some : 0 < length (drop (last_end 0 ends) names)) (longer : List ℕ) (longer_is : longer ≡ ends ++ end ∷ []) where
    ends_rise : Rises 0 longer
    ends_rise = subst (Rises 0) (sym longer_is) (rises_pushed 0 ends end held.rises (omega (arith, end_is, some, length-drop (last_end 0 ends) names)))

    last_is_end : last_end 0 longer ≡ end
    last_is_end = ap (last_end 0) longer_is ∙ last_end_pushed 0 ends end

    len_more : length longer ≡ length ends + 1
    len_more = ap length longer_is ∙ length-append ends (end ∷ [])

    pub steps_more : cut names 0 longer ≡ cut names 0 ends ++ drop (last_end 0 ends) names ∷ []
    steps_more =
        ap (cut names 0) longer_is ∙ cut_pushed names 0 ends end
        ∙ ap (λ (part : List (List ℕ)). cut names 0 ends ++ part ∷ []) (range_to_end names (last_end 0 ends) end end_is)

    none_behind : drop (last_end 0 longer) names ≡ []
    none_behind = drop_all (last_end 0 longer) names (omega (arith, last_is_end, end_is))

    pub plain_held : moments ≡ [] → AreStepsIn names longer moments
    plain_held none = record { rises = ends_rise; within = omega (arith, last_is_end, end_is); kinds = inl none; in_range = held.in_range; named = held.named }

    pub plain_ended : record { moments = moments; steps = cut names 0 longer; names = drop (last_end 0 longer) names } ≡ ended view
    plain_ended = rw (steps_more, none_behind) refl

    module _ (moment : ℕ) (in_range : moment ≤ largest) (as_long : length moments ≡ length (cut names 0 ends)) (times : List ℕ) (times_are : times ≡ moments ++ moment ∷ []) where
      is_in_range : IsTrue (is_moment moment)
      is_in_range = grind (arith, nat_tests, in_range)

      pub timed_held : AreStepsIn names longer times
      timed_held = record {
        rises = ends_rise;
        within = omega (arith, last_is_end, end_is);
        kinds = inr (omega (arith, len_more, ap length times_are, length-append moments (moment ∷ []), as_long, length-cut names 0 ends));
        in_range = subst (λ (ms : List ℕ). IsTrue (list_all is_moment ms)) (sym times_are) (all_more is_moment moments (moment ∷ []) held.in_range (and_true (is_moment moment) true is_in_range refl));
        named = held.named;
      }

      pub timed_ended : record { moments = times; steps = cut names 0 longer; names = drop (last_end 0 longer) names } ≡ ended_at moment view
      timed_ended = rw (steps_more, none_behind, times_are) refl

-- ---- a word is added

some_named : (o : Option (List ℕ)) (word name : List ℕ) → o ≡ name_of word → o ≡ Some name → IsTrue (is_name name)
some_named o word name is some =
    let h = if_some (is_name (folded word)) (Some (folded word)) name (sym is ∙ some) in
    let same : folded word ≡ name = cc (h.1) in
    subst (λ n. is_name n ≡ true) same h.0

-- what a list of names got
pub record IsLonger (names new : List (List ℕ)) : Type 0 where
  pub more : List (List ℕ)
  pub new_is : new ≡ names ++ more
  pub named : IsTrue (list_all is_name more)

module _ (names new : List (List ℕ)) where
  same_longer : new ≡ names → IsLonger names new
  same_longer same = record { more = []; new_is = same ∙ sym (append-nil names); named = refl }

  added_longer : (is : Bool) (o : Option (List ℕ)) (word : List ℕ) → o ≡ name_of word → AddsName is o names new → IsLonger names new
  added_longer true (Some name) word e added = record { more = name ∷ []; new_is = added; named = and_true (is_name name) true (some_named (Some name) word name e refl) refl }
  added_longer false None word e added = same_longer added
  added_longer true None word e bad = absurd bad
  added_longer false (Some name) word e bad = absurd bad

  pub word_longer : {E : Type 0} (word : List ℕ) (r : Result Bool E) → IfOk r (λ is. AddsName is (name_of word) names new) → OnErr r (new ≡ names) → IsLonger names new
  word_longer word (Ok is) added kept = added_longer is (name_of word) word refl added
  word_longer word (Err e) added kept = same_longer kept

module _ (names : List (List ℕ)) (ends moments : List ℕ) (held : AreStepsIn names ends moments) (new : List (List ℕ)) where
  abbrev pub behind : List (List ℕ) → Building
  behind ns = record { moments = moments; steps = cut ns 0 ends; names = drop (last_end 0 ends) ns }

  pub longer_held : IsLonger names new → AreStepsIn new ends moments
  longer_held longer = named_held names ends moments held new longer.more longer.new_is longer.named

  adds : (is : Bool) (o : Option (List ℕ)) (word : List ℕ) → o ≡ name_of word → AddsName is o names new → AddsName is o (drop (last_end 0 ends) names) (drop (last_end 0 ends) new)
  adds true (Some name) word e added = names_behind names ends moments held new (name ∷ []) added (and_true (is_name name) true (some_named (Some name) word name e refl) refl)
  adds false None word e added = ap (drop (last_end 0 ends)) added
  adds true None word e bad = absurd bad
  adds false (Some name) word e bad = absurd bad

  pub word_added : {E : Type 0} (word : List ℕ) (r : Result Bool E) → IsLonger names new → IfOk r (λ is. AddsName is (name_of word) names new)
      → IfOk r (λ is. AddsWord is (name_of word) (behind names) (behind new))
  word_added word (Ok is) longer added = record {
    moments = refl;
    steps = same_steps names ends moments held new longer.more longer.new_is longer.named;
    names = adds is (name_of word) word refl added;
  }
  word_added word (Err e) longer added = tt

  pub word_kept : {T E : Type 0} (r : Result T E) → OnErr r (new ≡ names) → OnErr r (behind new ≡ behind names)
  word_kept (Ok is) kept = tt
  word_kept (Err e) kept = ap behind kept

-- ---- the steps of a plan

map_at_moments : (moments : List ℕ) (steps : List StepValue) → length moments ≡ length steps → map (λ (s : TimedValue). s.step) (at_moments moments steps) ≡ steps
map_at_moments [] [] same = refl
map_at_moments [] (step ∷ steps) same = absurd (omega (arith, same))
map_at_moments (m ∷ moments) [] same = absurd (omega (arith, same))
map_at_moments (m ∷ moments) (step ∷ steps) same = ap (λ (ss : List StepValue). step ∷ ss) (map_at_moments moments steps (omega (arith, same)))

moment_of : (moments : List ℕ) (steps : List StepValue) (n : ℕ) → length moments ≡ length steps → option_map (λ (s : TimedValue). s.moment) (slice_get (at_moments moments steps) n) ≡ slice_get moments n
moment_of [] steps n same = refl
moment_of (m ∷ moments) [] n same = absurd (omega (arith, same))
moment_of (m ∷ moments) (step ∷ steps) zero same = refl
moment_of (m ∷ moments) (step ∷ steps) (suc n) same = moment_of moments steps n (omega (arith, same))

module _ (b : Building) (built : IsBuilt b) where
  by_kinds : (moments : List ℕ) (steps : List StepValue) → (moments ≡ []) ⊎ (length moments ≡ length steps) → steps_of (plan_of moments steps) ≡ steps
  by_kinds [] steps kinds = refl
  by_kinds (m ∷ moments) steps (inl none) = absurd (cc (none))
  by_kinds (m ∷ moments) steps (inr same) = map_at_moments (m ∷ moments) steps same

  at_kinds : (moments : List ℕ) (steps : List StepValue) (n : ℕ) → (moments ≡ []) ⊎ (length moments ≡ length steps) → moment_at (plan_of moments steps) n ≡ slice_get moments n
  at_kinds [] steps n kinds = refl
  at_kinds (m ∷ moments) steps n (inl none) = absurd (cc (none))
  at_kinds (m ∷ moments) steps n (inr same) = moment_of (m ∷ moments) steps n same

  kinds : (b.moments ≡ []) ⊎ (length b.moments ≡ length (map step_of_names b.steps))
  kinds = of_kinds built.kinds
    where
      of_kinds : (b.moments ≡ []) ⊎ (length b.moments ≡ length b.steps) → (b.moments ≡ []) ⊎ (length b.moments ≡ length (map step_of_names b.steps))
      of_kinds (inl none) = inl none
      of_kinds (inr same) = inr (same ∙ sym (length-map b.steps step_of_names))

  pub steps_built : steps_of (built_plan b) ≡ map step_of_names b.steps
  steps_built = by_kinds b.moments (map step_of_names b.steps) kinds

  pub built_moment : (n : ℕ) → moment_at (built_plan b) n ≡ slice_get b.moments n
  built_moment n = at_kinds b.moments (map step_of_names b.steps) n kinds

-- ---- names of no step

pub names_left : (start len count : ℕ) → count ≡ len - start → nat_lt start len ≡ nat_lt 0 count
names_left start len count is = grind (arith, nat_tests, is)

pub same_test : (a b c d : ℕ) → a ≡ c → b ≡ d → nat_eq a b ≡ nat_eq c d
same_test a b c d first second = rw (first, second) refl

module _ (names : List (List ℕ)) (ends moments : List ℕ) (held : AreStepsIn names ends moments) (end : ℕ) (end_is : end ≡ last_end 0 ends) (new : List (List ℕ)) (new_is : new ≡ take end names) where
  last : length (take (last_end 0 ends) names) ≡ last_end 0 ends
  last = length-take-le (last_end 0 ends) names held.within

  pub left_held : AreStepsIn new ends moments
  left_held = rw (new_is, end_is) (record {
    rises = held.rises;
    within = omega (arith, last);
    kinds = held.kinds;
    in_range = held.in_range;
    named = all_first is_name (last_end 0 ends) names held.named;
  })

  pub left_behind : ◌≡◌ {A = Building} (record { moments = moments; steps = cut new 0 ends; names = drop (last_end 0 ends) new }) (record { moments = moments; steps = cut names 0 ends; names = [] })
  left_behind =
      let steps : cut (take (last_end 0 ends) names) 0 ends ≡ cut names 0 ends = cut_taken names (last_end 0 ends) 0 ends held.rises (omega (arith, last)) in
      let none : drop (last_end 0 ends) (take (last_end 0 ends) names) ≡ [] = drop_all (last_end 0 ends) (take (last_end 0 ends) names) (omega (arith, last)) in
      rw (new_is, end_is, steps, none) refl
