-- A split in the words of the task is one happening by happening.
use Rattle.std.proofs.Common.{◌≡◌, ℕ, Bool, true, false, ◌&&◌, ◌||◌, List, [], ◌∷◌, ◌++◌, refl, sym, ap, ◌∙◌, eqb, subst, inl, inr, ◌⊎◌, ⊎_elim}
use Rattle.std.specs.Prelude.{IsPermutation}
use Rattle.std.specs.List.{list_any, list_all, concat, IsDistinct, AllByRecursion}
use Rattle.std.proofs.lemmas.Bool.{true≢false}
use Rattle.std.proofs.lemmas.List.Folds.{list_any-append}
use Rattle.pddl_happenings.proofs.Forms.{IsSerialisation, IsSplit}
use Rattle.pddl_happenings.proofs.Prefixes.{distinct_rest, front_of}
use Rattle.pddl_happenings.proofs.Serialisations.{serialisation_from_order}
use Rattle.pddl_happenings.proofs.TurnsTaken.{all_listed, not_first, or_true, order_from_serialisation}
use Rattle.pddl_happenings.specs.Serialisations.{IsSerialOrder}
use Rattle.pddl_happenings.specs.Splits.{IsSplitOf, within_one}

weaker : (P Q : ℕ → Type 0) → ((k : ℕ) → P k → Q k) → (ks : List ℕ) → AllByRecursion P ks → AllByRecursion Q ks
weaker P Q f [] all = tt
weaker P Q f (k ∷ ks) all = (f k all.0, weaker P Q f ks all.1)

abbrev pub HasStep : List ℕ → Type 0
HasStep g = g ≡ [] → ⊥

pub back_of : {X : Type 0} (P : X → Type 0) (xs ys : List X) → AllByRecursion P (xs ++ ys) → AllByRecursion P ys
back_of P [] ys all = all
back_of P (x ∷ xs) ys all = back_of P xs ys all.1

module _ (p : ℕ → Bool) where
  abbrev On : List ℕ → Type 0
  On g = AllByRecursion (λ k. p k ≡ true) g

  abbrev Off : List ℕ → Type 0
  Off g = AllByRecursion (λ k. p k ≡ false) g

  clash : (j k : ℕ) → p j ≡ true → p k ≡ false → j ≡ k → ⊥
  clash j k on off is = true≢false (sym on ∙ (ap p is ∙ off))

  prefix : (g xs first rest : List ℕ) → g ++ xs ≡ first ++ rest → On g → Off rest → (more : List ℕ) × (first ≡ g ++ more) × (xs ≡ more ++ rest)
  prefix [] xs first rest e on off = (first, refl, e)
  prefix (k ∷ g) xs [] [] e on off = cc
  prefix (k ∷ g) xs [] (r ∷ rest) e on off = let is : k ≡ r = cc in absurd (clash k r on.0 off.0 is)
  prefix (k ∷ g) xs (f ∷ first) rest e on off =
      let head : k ≡ f = cc in
      let tail : g ++ xs ≡ first ++ rest = cc in
      let (more, is, left) = prefix g xs first rest tail on.1 off in
      (more, ap (λ l. f ∷ l) is ∙ ap (λ x. x ∷ (g ++ more)) (sym head), left)

  -- groups of which each passes whole or not at all, where the joined list is one part that passes and one that does not
  cut : (gs : List (List ℕ)) (first rest : List ℕ) → concat gs ≡ first ++ rest → AllByRecursion HasStep gs → AllByRecursion (λ g. On g ⊎ Off g) gs → On first → Off rest →
      (one : List (List ℕ)) × (two : List (List ℕ)) × (gs ≡ one ++ two) × (concat one ≡ first) × (concat two ≡ rest)
  cut [] [] rest e some each on off = ([], [], refl, refl, e)
  cut [] (f ∷ first) rest e some each on off = cc
  cut (g ∷ gs) first rest e some each on off = ⊎_elim
      (λ (here : On g).
      let (more, is, left) = prefix g (concat gs) first rest e here off in
      let (one, two, gs_is, one_is, two_is) = cut gs more rest left some.1 each.1 (back_of (λ k. p k ≡ true) g more (subst On is on)) off in
      (g ∷ one, two, ap (λ l. g ∷ l) gs_is, ap (λ l. g ++ l) one_is ∙ sym is, two_is))
      (λ (there : Off g). none g first there some.0 e on)
      each.0
    where
      none : (g first : List ℕ) → Off g → HasStep g → g ++ concat gs ≡ first ++ rest → On first → (one : List (List ℕ)) × (two : List (List ℕ)) × (g ∷ gs ≡ one ++ two) × (concat one ≡ first) × (concat two ≡ rest)
      none g [] there some e on = ([], g ∷ gs, refl, refl, e)
      none [] (f ∷ first) there some e on = absurd (some refl)
      none (k ∷ g) (f ∷ first) there some e on = let is : f ≡ k = cc in absurd (clash f k on.0 there.0 is)

  all_on : (g : List ℕ) → list_all p g ≡ true → On g
  all_on [] e = tt
  all_on (k ∷ g) e = elim (p k) as (λ b. p k ≡ b → (b && list_all p g) ≡ true → On (k ∷ g)) [
    | true ↦ λ on e. (on, all_on g e)
    | false ↦ λ _ e. absurd (true≢false (sym e))
  ] refl e

  not_all : (g : List ℕ) → HasStep g → Off g → list_all p g ≡ false
  not_all [] some off = absurd (some refl)
  not_all (k ∷ g) some off = ap (λ b. b && list_all p g) off.0

-- a group within one happening lists what the happenings list
pub group_listed : (hs : List (List ℕ)) (g : List ℕ) → within_one hs g ≡ true → AllByRecursion (λ k. list_any (eqb k) (concat hs) ≡ true) g
group_listed [] g e = absurd (true≢false (sym e))
group_listed (h ∷ hs) g e = elim (list_all (λ k. list_any (eqb k) h) g) as (λ b. list_all (λ k. list_any (eqb k) h) g ≡ b → (b || within_one hs g) ≡ true → AllByRecursion (λ k. list_any (eqb k) (h ++ concat hs) ≡ true) g) [
  | true ↦ λ on _. weaker (λ k. list_any (eqb k) h ≡ true) (λ k. list_any (eqb k) (h ++ concat hs) ≡ true) (λ k w. list_any-append (eqb k) h (concat hs) ∙ ap (λ b. b || list_any (eqb k) (concat hs)) w) g (all_on (λ k. list_any (eqb k) h) g on)
  | false ↦ λ _ e. weaker (λ k. list_any (eqb k) (concat hs) ≡ true) (λ k. list_any (eqb k) (h ++ concat hs) ≡ true) (λ k w. list_any-append (eqb k) h (concat hs) ∙ or_true (list_any (eqb k) h) (list_any (eqb k) (concat hs)) w) g (group_listed hs g e)
] refl e

module _ (h : List ℕ) (hs : List (List ℕ)) (once : IsDistinct eqb (h ++ concat hs)) where
  abbrev p : ℕ → Bool
  p k = list_any (eqb k) h

  on_or_off : (g : List ℕ) → within_one (h ∷ hs) g ≡ true → On p g ⊎ Off p g
  on_or_off g e = elim (list_all p g) as (λ b. list_all p g ≡ b → (b || within_one hs g) ≡ true → On p g ⊎ Off p g) [
    | true ↦ λ on _. inl (all_on p g on)
    | false ↦ λ _ e. inr (weaker (λ k. list_any (eqb k) (concat hs) ≡ true) (λ k. p k ≡ false) (λ k w. not_first k h (concat hs) once w) g (group_listed hs g e))
  ] refl e

  each_on_or_off : (gs : List (List ℕ)) → AllByRecursion (λ g. within_one (h ∷ hs) g ≡ true) gs → AllByRecursion (λ g. On p g ⊎ Off p g) gs
  each_on_or_off [] all = tt
  each_on_or_off (g ∷ gs) all = (on_or_off g all.0, each_on_or_off gs all.1)

  rest_within : (gs : List (List ℕ)) → AllByRecursion HasStep gs → AllByRecursion (λ g. within_one (h ∷ hs) g ≡ true) gs → Off p (concat gs) → AllByRecursion (λ g. within_one hs g ≡ true) gs
  rest_within [] some all off = tt
  rest_within (g ∷ gs) some all off =
      let none : list_all p g ≡ false = not_all p g some.0 (front_of (λ k. p k ≡ false) g (concat gs) off) in
      (sym (ap (λ b. b || within_one hs g) none) ∙ all.0, rest_within gs some.1 all.1 (back_of (λ k. p k ≡ false) g (concat gs) off))

split_from : (hs gs : List (List ℕ)) → IsDistinct eqb (concat hs) → AllByRecursion HasStep gs → AllByRecursion (λ g. within_one hs g ≡ true) gs → IsSerialisation hs (concat gs) → IsSplit hs gs
split_from [] [] once some all is = refl
split_from [] (g ∷ gs) once some all is = absurd (true≢false (sym all.0))
split_from (h ∷ hs) gs once some all (first, rest, is, moved, more) =
    let q : ℕ → Bool = λ k. list_any (eqb k) h in
    let after : IsSerialOrder hs rest = order_from_serialisation hs rest (distinct_rest h (concat hs) once) more in
    let on : On q first = all_listed (λ k. q k ≡ true) first h moved (λ k e. e) in
    let off : Off q rest = all_listed (λ k. q k ≡ false) rest (concat hs) after.each_once (λ k e. not_first k h (concat hs) once e) in
    let (one, two, gs_is, one_is, two_is) = cut q gs first rest is some (each_on_or_off h hs once gs all) on off in
    let some_two : AllByRecursion HasStep two = back_of HasStep one two (subst (AllByRecursion HasStep) gs_is some) in
    let all_two : AllByRecursion (λ g. within_one (h ∷ hs) g ≡ true) two = back_of (λ g. within_one (h ∷ hs) g ≡ true) one two (subst (AllByRecursion (λ g. within_one (h ∷ hs) g ≡ true)) gs_is all) in (
      one,
      two,
      gs_is,
      subst (IsPermutation h) (sym one_is) moved,
      split_from hs two (distinct_rest h (concat hs) once) some_two (rest_within h hs once two some_two all_two (subst (Off q) (sym two_is) off)) (subst (IsSerialisation hs) (sym two_is) more),
    )

-- the law
pub split_by_happenings : (hs gs : List (List ℕ)) → IsDistinct eqb (concat hs) → IsSplitOf hs gs → IsSplit hs gs
split_by_happenings hs gs once split = split_from hs gs once split.none_empty split.within (serialisation_from_order hs (concat gs) once split.in_turn)
