-- The place of each step's happening, happening by happening.
use Rattle.std.proofs.Common.{◌≢◌, set, length-set, get_or-set_same, get_or-set_other, ◌≡◌, ℕ, zero, suc, ◌+◌, ◌<◌, Bool, true, false, ◌||◌, cond, List, [], ◌∷◌, refl, sym, ap, ◌∙◌, arith, length, get_or, drop, drop-cons, add-one, eqb, eq-eqb, subst}
use Rattle.std.specs.List.{list_any, concat, IsDistinct}
use Rattle.std.proofs.lemmas.Bool.{eqb-true, true≢false}
use Rattle.std.proofs.lemmas.List.Folds.{list_any-append}
use Rattle.pddl_happenings.proofs.ListedOnce.{is_distinct}
use Rattle.pddl_happenings.proofs.Prefixes.{distinct_rest}
use Rattle.pddl_happenings.proofs.TurnsTaken.{not_first, or_true}
use Rattle.pddl_happenings.specs.Happenings.{HaveEachOnce}
use Rattle.pddl_happenings.specs.Serialisations.{place_of}
use Rattle.pddl_judge.specs.HappeningValues.{HappeningValue, groups_of}
use Rattle.pddl_serial.proofs.Passes.{below_listed, listed_below}

true_or : (a b : Bool) → a ≡ true → (a || b) ≡ true
true_or a b e = ap (λ c. c || b) e

-- the happening at a place has a step
pub in_concat : (k : ℕ) (hs : List (List ℕ)) (i : ℕ) (g : List ℕ) (rest : List (List ℕ)) → drop i hs ≡ g ∷ rest → list_any (eqb k) g ≡ true → list_any (eqb k) (concat hs) ≡ true
in_concat k [] zero g rest e on = cc
in_concat k [] (suc i) g rest e on = cc
in_concat k (h ∷ hs) zero g rest e on =
    let is : h ≡ g = cc in
    list_any-append (eqb k) h (concat hs) ∙ true_or (list_any (eqb k) h) (list_any (eqb k) (concat hs)) (ap (list_any (eqb k)) is ∙ on)
in_concat k (h ∷ hs) (suc i) g rest e on =
    list_any-append (eqb k) h (concat hs) ∙ or_true (list_any (eqb k) h) (list_any (eqb k) (concat hs)) (in_concat k hs i g rest e on)

pub place_is : (k : ℕ) (hs : List (List ℕ)) (i : ℕ) (g : List ℕ) (rest : List (List ℕ)) → IsDistinct eqb (concat hs) → drop i hs ≡ g ∷ rest → list_any (eqb k) g ≡ true → place_of hs k ≡ i
place_is k [] zero g rest once e on = cc
place_is k [] (suc i) g rest once e on = cc
place_is k (h ∷ hs) zero g rest once e on =
    let is : h ≡ g = cc in
    ap (λ b. cond b 0 (1 + place_of hs k)) (ap (list_any (eqb k)) is ∙ on)
place_is k (h ∷ hs) (suc i) g rest once e on =
    let off : list_any (eqb k) h ≡ false = not_first k h (concat hs) once (in_concat k hs i g rest e on) in
    ap (λ b. cond b 0 (1 + place_of hs k)) off ∙ (ap (λ n. 1 + n) (place_is k hs i g rest (distinct_rest h (concat hs) once) e on) ∙ omega arith)

drop_map : (i : ℕ) (items : List HappeningValue) → drop i (groups_of items) ≡ groups_of (drop i items)
drop_map zero items = refl
drop_map (suc i) [] = refl
drop_map (suc i) (d ∷ items) = drop_map i items

-- the test's own groups, from the steps below n
each_below : (n : ℕ) (hs : List (List ℕ)) (each : HaveEachOnce n hs) (i : ℕ) (g : List ℕ) (rest : List (List ℕ)) → drop i hs ≡ g ∷ rest → (k : ℕ) → list_any (eqb k) g ≡ true → k < n
each_below n hs each i g rest e k on = below_listed hs n each k (in_concat k hs i g rest e on)

module _ (n : ℕ) (items : List HappeningValue) (each : HaveEachOnce n (groups_of items)) (h : ℕ) (d : HappeningValue) (at : d ≡ get_or items h d) (lt : h < length items) where
  abbrev whole : List (List ℕ)
  whole = groups_of items

  next_is : drop h whole ≡ d.steps ∷ groups_of (drop (h + 1) items)
  next_is = drop_map h items ∙ ap groups_of (drop-cons items h d lt ∙ (ap (λ x. x ∷ drop (suc h) items) (sym at) ∙ ap (λ i. d ∷ drop i items) (sym (add-one h))))

  left_is : groups_of (drop h items) ≡ d.steps ∷ groups_of (drop (h + 1) items)
  left_is = sym (drop_map h items) ∙ next_is

  pub steps_below : (k : ℕ) → list_any (eqb k) d.steps ≡ true → k < n
  steps_below = each_below n whole each h d.steps (groups_of (drop (h + 1) items)) next_is

  -- where the steps of a happening are marked, those of the happenings up to it have their places
  pub placed_more : (old new lent : List ℕ) → lent ≡ d.steps →
      ((k : ℕ) → k < n → list_any (eqb k) (concat (groups_of (drop h items))) ≡ false → get_or old k 0 ≡ place_of whole k) →
      ((k : ℕ) → get_or new k 0 ≡ cond (list_any (eqb k) lent) h (get_or old k 0)) →
      (k : ℕ) → k < n → list_any (eqb k) (concat (groups_of (drop (h + 1) items))) ≡ false → get_or new k 0 ≡ place_of whole k
  placed_more old new lent same so_far put k below off =
      let marked : (k : ℕ) → get_or new k 0 ≡ cond (list_any (eqb k) d.steps) h (get_or old k 0) = λ k. put k ∙ ap (λ l. cond (list_any (eqb k) l) h (get_or old k 0)) same in
      let rest : List (List ℕ) = groups_of (drop (h + 1) items) in
      elim (list_any (eqb k) d.steps) as (λ b. list_any (eqb k) d.steps ≡ b → get_or new k 0 ≡ place_of whole k) [
        | true ↦ λ e. marked k ∙ (ap (λ b. cond b h (get_or old k 0)) e ∙ sym (place_is k whole h d.steps rest (is_distinct n whole each) next_is e))
        | false ↦ λ e.
            let none : list_any (eqb k) (concat (groups_of (drop h items))) ≡ false = ap (λ l. list_any (eqb k) (concat l)) left_is ∙ (list_any-append (eqb k) d.steps (concat rest) ∙ (ap (λ b. b || list_any (eqb k) (concat rest)) e ∙ off)) in
            marked k ∙ (ap (λ b. cond b h (get_or old k 0)) e ∙ so_far k below none)
      ] refl

-- at first none has its place
pub placed_none : (n : ℕ) (items : List HappeningValue) → HaveEachOnce n (groups_of items) → (places : List ℕ) (k : ℕ) → k < n → list_any (eqb k) (concat (groups_of items)) ≡ false → get_or places k 0 ≡ place_of (groups_of items) k
placed_none n items each places k lt off = absurd (true≢false (sym (listed_below (groups_of items) n each k lt) ∙ off))

-- marks, one further
module _ (steps old first : List ℕ) (i place : ℕ) (lt : i < length steps)
    (within : (k : ℕ) → list_any (eqb k) (drop i steps) ≡ true → k < length old)
    (marked : (k : ℕ) → cond (list_any (eqb k) (drop i steps)) place (get_or old k 0) ≡ cond (list_any (eqb k) steps) place (get_or first k 0)) where
  abbrev here : ℕ
  here = get_or steps i 0

  abbrev rest : List ℕ
  rest = drop (i + 1) steps

  step_is : drop i steps ≡ here ∷ rest
  step_is = drop-cons steps i 0 lt ∙ ap (λ j. here ∷ drop j steps) (sym (add-one i))

  pub step_below : here < length old
  step_below = within here (ap (list_any (eqb here)) step_is ∙ true_or (eqb here here) (list_any (eqb here) rest) (eq-eqb here here refl))

  pub within_more : (k : ℕ) → list_any (eqb k) rest ≡ true → k < length (set old here place)
  within_more k on =
      let l : length (set old here place) ≡ length old = length-set old here place in
      let b : k < length old = within k (ap (list_any (eqb k)) step_is ∙ or_true (eqb k here) (list_any (eqb k) rest) on) in
      omega (arith, l, b)

  pub marked_more : (k : ℕ) → cond (list_any (eqb k) rest) place (get_or (set old here place) k 0) ≡ cond (list_any (eqb k) steps) place (get_or first k 0)
  marked_more k =
      sym (sym (marked k) ∙ ap (λ l. cond (list_any (eqb k) l) place (get_or old k 0)) step_is
      ∙ elim (eqb k here) as (λ b. eqb k here ≡ b → cond (b || list_any (eqb k) rest) place (get_or old k 0) ≡ cond (list_any (eqb k) rest) place (get_or (set old here place) k 0)) [
        | true ↦ λ e.
            let is : get_or (set old here place) k 0 ≡ place = subst (λ j. get_or (set old here place) j 0 ≡ place) (sym (eqb-true k here e)) (get_or-set_same old here place 0 step_below) in
            elim (list_any (eqb k) rest) as (λ b. place ≡ cond b place (get_or (set old here place) k 0)) [ true ↦ refl | false ↦ sym is ]
        | false ↦ λ e.
            let ne : k ≢ here = λ is. true≢false (sym (eq-eqb k here is) ∙ e) in
            ap (λ n. cond (list_any (eqb k) rest) place n) (sym (get_or-set_other old here k place 0 ne))
      ] refl)
