-- The test of a list of step numbers: what it asks of each number in turn is that the list is a serialisation.
use Rattle.std.proofs.Common.{◌≡◌, ◌↔◌, ◌≢◌, ℕ, suc, ◌≤◌, ◌<◌, Bool, true, false, ◌||◌, List, [], ◌∷◌, refl, sym, ap, ◌∙◌, arith, length, get_or, set, eqb, eq-eqb, get_or-set_same, get_or-set_other, length-set, subst, IsTrue, drop, drop-cons}
use Rattle.std.specs.List.{list_any, concat, IsDistinct, AllByRecursion}
use Rattle.std.proofs.lemmas.Bool.{eqb-true, true≢false}
use Rattle.std.proofs.lemmas.List.Sorted.{list_any-IsPermutation}
use Rattle.std.proofs.lemmas.List.{drop_all}
use Rattle.pddl_happenings.proofs.Copies.{number_listed, number_within, same_numbers}
use Rattle.pddl_happenings.proofs.ListedOnce.{is_distinct}
use Rattle.pddl_happenings.proofs.NewPlans.{once_moved}
use Rattle.pddl_happenings.proofs.Prefixes.{eqb-comm}
use Rattle.pddl_happenings.proofs.TimedHappenings.{all_weaker}
use Rattle.pddl_happenings.proofs.TurnsTaken.{self_listed}
use Rattle.pddl_happenings.specs.Happenings.{HaveEachOnce, numbers_to}
use Rattle.pddl_happenings.specs.Serialisations.{InTurn, IsSerialOrder, place_of}
use Rattle.pddl_serial.specs.Inner.Places.{IsOrderBy}

pub all_both : (P Q R : ℕ → Type 0) → ((k : ℕ) → P k → Q k → R k) → (ks : List ℕ) → AllByRecursion P ks → AllByRecursion Q ks → AllByRecursion R ks
all_both P Q R f [] one two = tt
all_both P Q R f (k ∷ ks) one two = (f k one.0 two.0, all_both P Q R f ks one.1 two.1)

pub at_listed : (P : ℕ → Type 0) (k : ℕ) (xs : List ℕ) → AllByRecursion P xs → list_any (eqb k) xs ≡ true → P k
at_listed P k [] all on = absurd (true≢false (sym on))
at_listed P k (x ∷ xs) all on =
    elim (eqb k x) as (λ b. eqb k x ≡ b → (b || list_any (eqb k) xs) ≡ true → P k) [
      | true ↦ λ e _. subst P (sym (eqb-true k x e)) all.0
      | false ↦ λ _ on. at_listed P k xs all.1 on
    ] refl on

-- number k is a step, is not seen yet, and its happening is none before that of the last; at the end each is seen
abbrev pub Passes : (ℕ → ℕ) → ℕ → List Bool → ℕ → List ℕ → Type 0
Passes place n seen last [] = (k : ℕ) → k < n → get_or seen k false ≡ true
Passes place n seen last (k ∷ ks) = (k < n) × (get_or seen k false ≡ false) × (last ≤ place k) × Passes place n (set seen k true) (place k) ks

pub record Good (place : ℕ → ℕ) (n : ℕ) (seen : List Bool) (last : ℕ) (order : List ℕ) : Type 0 where
  pub within : AllByRecursion (λ k. k < n) order
  pub fresh : AllByRecursion (λ k. get_or seen k false ≡ false) order
  pub once : IsDistinct eqb order
  pub turn : InTurn place order
  pub later : AllByRecursion (λ k. last ≤ place k) order
  pub all : (k : ℕ) → k < n → get_or seen k false ≡ false → list_any (eqb k) order ≡ true

module _ (seen : List Bool) (k : ℕ) (lt : k < length seen) where
  not_seen : (j : ℕ) → get_or (set seen k true) j false ≡ false → (eqb k j ≡ false) × (get_or seen j false ≡ false)
  not_seen j off = elim (eqb k j) as (λ b. eqb k j ≡ b → (eqb k j ≡ false) × (get_or seen j false ≡ false)) [
    | true ↦ λ e. absurd (true≢false (sym (subst (λ i. get_or (set seen k true) i false ≡ true) (eqb-true k j e) (get_or-set_same seen k true false lt)) ∙ off))
    | false ↦ λ e.
        let ne : j ≢ k = λ is. true≢false (sym (eq-eqb k j (sym is)) ∙ e) in
        (e, sym (get_or-set_other seen k j true false ne) ∙ off)
  ] refl

  still : (j : ℕ) → eqb k j ≡ false → get_or seen j false ≡ false → get_or (set seen k true) j false ≡ false
  still j e off =
      let ne : j ≢ k = λ is. true≢false (sym (eq-eqb k j (sym is)) ∙ e) in
      get_or-set_other seen k j true false ne ∙ off

module _ (place : ℕ → ℕ) (n : ℕ) where
  passes_good : (seen : List Bool) (last : ℕ) (order : List ℕ) → length seen ≡ n → Passes place n seen last order → Good place n seen last order
  unfolding IsDistinct
  passes_good seen last [] len p = record {
    within = tt;
    fresh = tt;
    once = tt;
    turn = tt;
    later = tt;
    all = λ k lt off. absurd (true≢false (sym (p k lt) ∙ off));
  }
  passes_good seen last (k ∷ ks) len p =
      let lt : k < length seen = omega (arith, len, p.0) in
      let g : Good place n (set seen k true) (place k) ks = passes_good (set seen k true) (place k) ks (length-set seen k true ∙ len) p.3 in
      let kept : AllByRecursion (λ j. (eqb k j ≡ false) × (get_or seen j false ≡ false)) ks = all_weaker (λ j. get_or (set seen k true) j false ≡ false) (λ j. (eqb k j ≡ false) × (get_or seen j false ≡ false)) (not_seen seen k lt) ks g.fresh in
      record {
        within = (p.0, g.within);
        fresh = (p.1, all_weaker (λ j. (eqb k j ≡ false) × (get_or seen j false ≡ false)) (λ j. get_or seen j false ≡ false) (λ j w. w.1) ks kept);
        once = (all_weaker (λ j. (eqb k j ≡ false) × (get_or seen j false ≡ false)) (λ j. eqb k j ≡ false) (λ j w. w.0) ks kept, g.once);
        turn = (g.later, g.turn);
        later = (p.2, all_weaker (λ j. place k ≤ place j) (λ j. last ≤ place j) (λ j w. omega (arith, p.2, w)) ks g.later);
        all = λ j below off. elim (eqb j k) as (λ b. eqb j k ≡ b → (b || list_any (eqb j) ks) ≡ true) [
          | true ↦ λ _. refl
          | false ↦ λ e. g.all j below (still seen k lt j (eqb-comm k j ∙ e) off)
        ] refl;
      }

  good_passes : (seen : List Bool) (last : ℕ) (order : List ℕ) → length seen ≡ n → Good place n seen last order → Passes place n seen last order
  unfolding IsDistinct
  good_passes seen last [] len g = λ k lt. elim (get_or seen k false) as (λ b. get_or seen k false ≡ b → b ≡ true) [
    | true ↦ λ _. refl
    | false ↦ λ e. absurd (true≢false (sym (g.all k lt e)))
  ] refl
  good_passes seen last (k ∷ ks) len g =
      let lt : k < length seen = omega (arith, len, g.within.0) in (
        g.within.0,
        g.fresh.0,
        g.later.0,
        good_passes (set seen k true) (place k) ks (length-set seen k true ∙ len) (record {
          within = g.within.1;
          fresh = all_both (λ j. eqb k j ≡ false) (λ j. get_or seen j false ≡ false) (λ j. get_or (set seen k true) j false ≡ false) (still seen k lt) ks g.once.0 g.fresh.1;
          once = g.once.1;
          turn = g.turn.1;
          later = g.turn.0;
          all = λ j below off.
              let w = not_seen seen k lt j off in
              let on : list_any (eqb j) (k ∷ ks) ≡ true = g.all j below w.1 in
              sym (ap (λ b. b || list_any (eqb j) ks) (eqb-comm j k ∙ w.0)) ∙ on;
        }),
      )

both_ways : (a b : Bool) → (a ≡ true → b ≡ true) → (b ≡ true → a ≡ true) → a ≡ b
both_ways true b f g = sym (f refl)
both_ways false true f g = g refl
both_ways false false f g = refl

turn_same : (one two : ℕ → ℕ) (xs : List ℕ) → AllByRecursion (λ k. one k ≡ two k) xs → InTurn one xs → InTurn two xs
turn_same one two [] same turn = tt
turn_same one two (x ∷ xs) same turn =
    (all_both (λ j. one j ≡ two j) (λ j. one x ≤ one j) (λ j. two x ≤ two j) (λ j e le. omega (arith, e, le, same.0)) xs same.1 turn.0, turn_same one two xs same.1 turn.1)

module _ (hs : List (List ℕ)) (n : ℕ) (each : HaveEachOnce n hs) where
  -- the happenings have a number exactly where it is below n
  pub listed_below : (k : ℕ) → k < n → list_any (eqb k) (concat hs) ≡ true
  listed_below k lt = sym (list_any-IsPermutation (eqb k) (numbers_to 0 n) (concat hs) each) ∙ number_listed k 0 n (omega arith) (omega (arith, lt))

  pub below_listed : (k : ℕ) → list_any (eqb k) (concat hs) ≡ true → k < n
  below_listed k on = omega (arith, (number_within k 0 n (list_any-IsPermutation (eqb k) (numbers_to 0 n) (concat hs) each ∙ on)).1)

  module _ (place : ℕ → ℕ) (is : (k : ℕ) → k < n → place k ≡ place_of hs k) where
    from_order : (order : List ℕ) → IsOrderBy place n order → IsSerialOrder hs order
    from_order order g = record {
      each_once = same_numbers (concat hs) order (is_distinct n hs each) g.once (λ k. both_ways (list_any (eqb k) (concat hs)) (list_any (eqb k) order)
          (λ on. g.all k (below_listed k on))
          (λ on. listed_below k (at_listed (λ j. j < n) k order g.within on)));
      in_turn = turn_same place (place_of hs) order (all_weaker (λ k. k < n) (λ k. place k ≡ place_of hs k) is order g.within) g.turn;
    }

    to_order : (order : List ℕ) → IsSerialOrder hs order → IsOrderBy place n order
    to_order order serial =
        let within : AllByRecursion (λ k. k < n) order = all_weaker (λ k. list_any (eqb k) order ≡ true) (λ k. k < n) (λ k on. below_listed k (list_any-IsPermutation (eqb k) (concat hs) order serial.each_once ∙ on)) order (self_listed order) in
        record {
          within = within;
          once = once_moved (concat hs) order serial.each_once (is_distinct n hs each);
          turn = turn_same (place_of hs) place order (all_weaker (λ k. k < n) (λ k. place_of hs k ≡ place k) (λ k lt. sym (is k lt)) order within) serial.in_turn;
          all = λ k lt. sym (list_any-IsPermutation (eqb k) (concat hs) order serial.each_once) ∙ listed_below k lt;
        }

    -- by the places of their happenings, it is a serialisation
    pub order_serial : (order : List ℕ) → IsOrderBy place n order ↔ IsSerialOrder hs order
    order_serial order = (from_order order, to_order order)

-- by a table of places, as it is lent
pub serial_by_places : (hs : List (List ℕ)) (n : ℕ) → HaveEachOnce n hs → (places lent order : List ℕ) → length places ≡ n → ((k : ℕ) → k < n → get_or places k 0 ≡ place_of hs k) → lent ≡ places →
    (b : Bool) → IsTrue b ↔ IsOrderBy (λ k. get_or lent k 0) (length lent) order → IsTrue b ↔ IsSerialOrder hs order
serial_by_places hs n each places lent order len is same b both =
    let all : IsOrderBy (λ k. get_or places k 0) n order ↔ IsSerialOrder hs order = order_serial hs n each (λ k. get_or places k 0) is order in
    let there : IsOrderBy (λ k. get_or lent k 0) (length lent) order ↔ IsSerialOrder hs order = subst (λ l. IsOrderBy (λ k. get_or l k 0) (length l) order ↔ IsSerialOrder hs order) (sym same) (subst (λ m. IsOrderBy (λ k. get_or places k 0) m order ↔ IsSerialOrder hs order) (sym len) all) in
    (λ t. there.0 (both.0 t), λ s. both.1 (there.1 s))

-- where no number is seen at first, what passes is in order
pub passes_order : (place : ℕ → ℕ) (n : ℕ) (seen : List Bool) → ((k : ℕ) → get_or seen k false ≡ false) → length seen ≡ n → (order : List ℕ) → Passes place n seen 0 order ↔ IsOrderBy place n order
passes_order place n seen none len order = (
  λ p. let g : Good place n seen 0 order = passes_good place n seen 0 order len p in
      record { within = g.within; once = g.once; all = λ k lt. g.all k lt (none k); turn = g.turn },
  λ o. good_passes place n seen 0 order len (record {
    within = o.within;
    fresh = all_weaker (λ k. k < n) (λ k. get_or seen k false ≡ false) (λ k _. none k) order o.within;
    once = o.once;
    turn = o.turn;
    later = all_weaker (λ k. k < n) (λ k. 0 ≤ place k) (λ k _. omega arith) order o.within;
    all = λ k lt _. o.all k lt;
  }),
)

-- the test, where it stands at a number of the list
module _ (place : ℕ → ℕ) (n : ℕ) (first : List Bool) (none : (k : ℕ) → get_or first k false ≡ false) (len : length first ≡ n) (order : List ℕ) (i : ℕ) (seen : List Bool) (last : ℕ)
    (so_far : Passes place n seen last (drop i order) ↔ Passes place n first 0 order) where
  asked : i < length order → IsOrderBy place n order → (get_or order i 0 < n) × (get_or seen (get_or order i 0) false ≡ false) × (last ≤ place (get_or order i 0))
  asked lt o =
      let p : Passes place n seen last (drop i order) = so_far.1 ((passes_order place n first none len order).1 o) in
      let q : Passes place n seen last (get_or order i 0 ∷ drop (suc i) order) = subst (Passes place n seen last) (drop-cons order i 0 lt) p in
      (q.0, q.1, q.2)

  pub too_large : i < length order → n ≤ get_or order i 0 → IsOrderBy place n order → ⊥
  too_large lt h o = let a = asked lt o in absurd (omega (arith, h, a.0))

  pub seen_before : i < length order → get_or seen (get_or order i 0) false ≡ true → IsOrderBy place n order → ⊥
  seen_before lt h o = true≢false (sym h ∙ (asked lt o).1)

  pub too_late : i < length order → place (get_or order i 0) < last → IsOrderBy place n order → ⊥
  too_late lt h o = let a = asked lt o in absurd (omega (arith, h, a.2))

  pub never_seen : length order ≤ i → (k : ℕ) → k < n → get_or seen k false ≡ false → IsOrderBy place n order → ⊥
  never_seen done k lt h o =
      let p : Passes place n seen last (drop i order) = so_far.1 ((passes_order place n first none len order).1 o) in
      let q : Passes place n seen last [] = subst (Passes place n seen last) (drop_all i order done) p in
      true≢false (sym (q k lt) ∙ h)

  pub all_seen : length order ≤ i → ((k : ℕ) → k < n → get_or seen k false ≡ true) → IsOrderBy place n order
  all_seen done all =
      let p : Passes place n seen last (drop i order) = subst (Passes place n seen last) (sym (drop_all i order done)) all in
      (passes_order place n first none len order).0 (so_far.0 p)
