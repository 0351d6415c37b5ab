-- A group within one happening is one whose steps have one place.
use Rattle.std.proofs.Common.{◌≡◌, ℕ, zero, suc, ◌+◌, Bool, true, false, ◌&&◌, ◌||◌, cond, List, [], ◌∷◌, refl, sym, ap, ◌∙◌, arith, eqb, eq-eqb, drop}
use Rattle.std.specs.Prelude.{◌==◌}
use Rattle.std.specs.List.{list_any, list_all, concat, IsDistinct, AllByRecursion}
use Rattle.std.proofs.lemmas.Bool.{true≢false, eqb-true}
use Rattle.std.proofs.lemmas.List.Folds.{list_any-append}
use Rattle.pddl_happenings.proofs.Cut.{back_of}
use Rattle.pddl_happenings.proofs.Prefixes.{front_of}
use Rattle.pddl_happenings.proofs.TurnsTaken.{or_true}
use Rattle.pddl_happenings.specs.Serialisations.{place_of}
use Rattle.pddl_happenings.specs.Splits.{within_one}
use Rattle.pddl_serial.proofs.Passes.{all_both}
use Rattle.pddl_serial.proofs.Placed.{place_is}
use Rattle.pddl_serial.specs.Inner.Places.{is_at_one}

-- the happening at a step's place has it
at_place : (k : ℕ) (hs : List (List ℕ)) → list_any (eqb k) (concat hs) ≡ true → (h : List ℕ) × (rest : List (List ℕ)) × (drop (place_of hs k) hs ≡ h ∷ rest) × (list_any (eqb k) h ≡ true)
at_place k [] on = absurd (true≢false (sym on))
at_place k (h ∷ hs) on =
    elim (list_any (eqb k) h) as (λ b. list_any (eqb k) h ≡ b → (b || list_any (eqb k) (concat hs)) ≡ true → (g : List ℕ) × (rest : List (List ℕ)) × (drop (cond b 0 (1 + place_of hs k)) (h ∷ hs) ≡ g ∷ rest) × (list_any (eqb k) g ≡ true)) [
      | true ↦ λ e _. (h, hs, refl, e)
      | false ↦ λ _ on.
          let (g, rest, is, has) = at_place k hs on in
          let s : 1 + place_of hs k ≡ suc (place_of hs k) = omega arith in
          (g, rest, ap (λ n. drop n (h ∷ hs)) s ∙ is, has)
    ] refl (sym (list_any-append (eqb k) h (concat hs)) ∙ on)

any_at : (test : List ℕ → Bool) (hs : List (List ℕ)) (i : ℕ) (h : List ℕ) (rest : List (List ℕ)) → drop i hs ≡ h ∷ rest → test h ≡ true → list_any test hs ≡ true
any_at test [] zero h rest e on = cc
any_at test [] (suc i) h rest e on = cc
any_at test (g ∷ hs) zero h rest e on = let is : g ≡ h = cc in ap (λ b. b || list_any test hs) (ap test is ∙ on)
any_at test (g ∷ hs) (suc i) h rest e on = or_true (test g) (list_any test hs) (any_at test hs i h rest e on)

some_at : (test : List ℕ → Bool) (hs : List (List ℕ)) → list_any test hs ≡ true → (i : ℕ) × (h : List ℕ) × (rest : List (List ℕ)) × (drop i hs ≡ h ∷ rest) × (test h ≡ true)
some_at test [] on = absurd (true≢false (sym on))
some_at test (h ∷ hs) on = elim (test h) as (λ b. test h ≡ b → (b || list_any test hs) ≡ true → (i : ℕ) × (g : List ℕ) × (rest : List (List ℕ)) × (drop i (h ∷ hs) ≡ g ∷ rest) × (test g ≡ true)) [
  | true ↦ λ e _. (0, h, hs, refl, e)
  | false ↦ λ _ on. let (i, g, rest, is, has) = some_at test hs on in (suc i, g, rest, is, has)
] refl on

pub all_true : (q : ℕ → Bool) (xs : List ℕ) → AllByRecursion (λ k. q k ≡ true) xs → list_all q xs ≡ true
all_true q [] all = refl
all_true q (x ∷ xs) all = ap (λ b. b && list_all q xs) all.0 ∙ all_true q xs all.1

true_all : (q : ℕ → Bool) (xs : List ℕ) → list_all q xs ≡ true → AllByRecursion (λ k. q k ≡ true) xs
true_all q [] e = tt
true_all q (x ∷ xs) e = elim (q x) as (λ b. q x ≡ b → (b && list_all q xs) ≡ true → AllByRecursion (λ k. q k ≡ true) (x ∷ xs)) [
  | true ↦ λ on e. (on, true_all q xs e)
  | false ↦ λ _ e. absurd (true≢false (sym e))
] refl e

module _ (hs : List (List ℕ)) (once : IsDistinct eqb (concat hs)) (place : ℕ → ℕ) where
  -- a step that the happenings list, and the place of its happening
  abbrev pub IsKnown : ℕ → Type 0
  IsKnown k = (list_any (eqb k) (concat hs) ≡ true) × (place k ≡ place_of hs k)

  at_one_within : (g : List ℕ) → AllByRecursion IsKnown g → is_at_one place g ≡ true → (g ≡ [] → ⊥) × (within_one hs g ≡ true)
  at_one_within [] known e = absurd (true≢false (sym e))
  at_one_within (k ∷ ks) known e =
      let (h, rest, is, has) = at_place k hs known.0.0 in
      let same : AllByRecursion (λ j. (place j == place k) ≡ true) ks = true_all (λ j. place j == place k) ks e in
      let each : AllByRecursion (λ j. list_any (eqb j) h ≡ true) ks = all_both (λ j. (place j == place k) ≡ true) IsKnown (λ j. list_any (eqb j) h ≡ true) (λ j t w.
      let one : place_of hs j ≡ place_of hs k = sym w.1 ∙ (eqb-true (place j) (place k) t ∙ known.0.1) in
      let (g, more, at, on) = at_place j hs w.0 in
      let both : g ∷ more ≡ h ∷ rest = sym at ∙ (ap (λ n. drop n hs) one ∙ is) in
      let here : g ≡ h = cc in
      ap (list_any (eqb j)) (sym here) ∙ on) ks same known.1 in
      (λ (none : (k ∷ ks) ≡ []). absurd (filled k ks none), any_at (λ g. list_all (λ j. list_any (eqb j) g) (k ∷ ks)) hs (place_of hs k) h rest is (all_true (λ j. list_any (eqb j) h) (k ∷ ks) (has, each)))
    where
      filled : (x : ℕ) (xs : List ℕ) → (x ∷ xs) ≡ [] → ⊥
      filled x xs e = cc

  within_at_one : (g : List ℕ) → AllByRecursion IsKnown g → (g ≡ [] → ⊥) → within_one hs g ≡ true → is_at_one place g ≡ true
  within_at_one [] known some e = absurd (some refl)
  within_at_one (k ∷ ks) known some e =
      let (i, h, rest, is, has) = some_at (λ g. list_all (λ j. list_any (eqb j) g) (k ∷ ks)) hs e in
      let all : AllByRecursion (λ j. list_any (eqb j) h ≡ true) (k ∷ ks) = true_all (λ j. list_any (eqb j) h) (k ∷ ks) has in
      let at : (j : ℕ) → list_any (eqb j) h ≡ true → IsKnown j → place j ≡ i = λ j on w. w.1 ∙ place_is j hs i h rest once is on in
      all_true (λ j. place j == place k) ks (all_both (λ j. list_any (eqb j) h ≡ true) IsKnown (λ j. (place j == place k) ≡ true) (λ j on w. eq-eqb (place j) (place k) (at j on w ∙ sym (at k all.0 known.0))) ks all.1 known.1)

  pub all_within : (gs : List (List ℕ)) → AllByRecursion IsKnown (concat gs) → list_all (is_at_one place) gs ≡ true → AllByRecursion (λ g. g ≡ [] → ⊥) gs × AllByRecursion (λ g. within_one hs g ≡ true) gs
  all_within [] known e = (tt, tt)
  all_within (g ∷ gs) known e = elim (is_at_one place g) as (λ b. is_at_one place g ≡ b → (b && list_all (is_at_one place) gs) ≡ true → AllByRecursion (λ g. g ≡ [] → ⊥) (g ∷ gs) × AllByRecursion (λ g. within_one hs g ≡ true) (g ∷ gs)) [
    | true ↦ λ on e.
        let here = at_one_within g (front_of IsKnown g (concat gs) known) on in
        let there = all_within gs (back_of IsKnown g (concat gs) known) e in
        ((here.0, there.0), (here.1, there.1))
    | false ↦ λ _ e. absurd (true≢false (sym e))
  ] refl e

  pub within_all : (gs : List (List ℕ)) → AllByRecursion IsKnown (concat gs) → AllByRecursion (λ g. g ≡ [] → ⊥) gs → AllByRecursion (λ g. within_one hs g ≡ true) gs → list_all (is_at_one place) gs ≡ true
  within_all [] known some all = refl
  within_all (g ∷ gs) known some all = ap (λ b. b && list_all (is_at_one place) gs) (within_at_one g (front_of IsKnown g (concat gs) known) some.0 all.0) ∙ within_all gs (back_of IsKnown g (concat gs) known) some.1 all.1
