-- The happenings of a plan, each with the numbers of its steps, counted from 0 in file order, and with its moment.
-- Of timed plans Fox and Long, PDDL2.1, JAIR 20, 2003; of plain plans own.
use Rattle.std.specs.Prelude.{◌≡◌, ℕ, zero, suc, ◌+◌, Bool, cond, List, [], ◌∷◌, map, ◌==◌, eqb, All, Option, Some, None, IsPermutation}
use Rattle.std.specs.List.{list_any, concat}
use Rattle.std.specs.List.Sorted.{IsStrictlySortedBy}
use Rattle.std.specs.Ordering.{nat_cmp}

-- The n numbers from i on.
abbrev pub numbers_to : ℕ → ℕ → List ℕ
numbers_to i zero = []
numbers_to i (suc n) = i ∷ numbers_to (i + 1) n

-- Each number of a list alone.
abbrev pub singles : List ℕ → List (List ℕ)
singles [] = []
singles (k ∷ ks) = (k ∷ []) ∷ singles ks

-- The happenings of a plain plan of n steps: each step alone, in file order.
abbrev pub plain_happenings : ℕ → List (List ℕ)
plain_happenings n = singles (numbers_to 0 n)

-- The numbers, counted from i, of the elements of a list that pass a test, in the order of the list.
abbrev pub numbers_from : ℕ → (ℕ → Bool) → List ℕ → List ℕ
numbers_from i test [] = []
numbers_from i test (m ∷ ms) = cond (test m) (i ∷ numbers_from (i + 1) test ms) (numbers_from (i + 1) test ms)

-- The steps at a moment, in file order, where ms has the moment of each step.
abbrev pub steps_at : List ℕ → ℕ → List ℕ
steps_at ms m = numbers_from 0 (λ n. n == m) ms

-- The moments are the distinct ones of ms, in rising order.
pub record AreMoments (ms moments : List ℕ) : Type 0 where
  pub rising : IsStrictlySortedBy nat_cmp moments
  pub same : (m : ℕ) → list_any (eqb m) moments ≡ list_any (eqb m) ms

-- Happenings, as a list of their moments and a list of their steps, are those of a timed plan whose steps have the moments
-- ms: for the distinct moments in rising order, the steps at that moment.
pub record AreOfTimed (ms : List ℕ) (at : List (Option ℕ)) (gs : List (List ℕ)) : Type 0 where
  pub moments : List ℕ
  pub are : AreMoments ms moments
  pub moments_are : at ≡ map (λ m. Some m) moments
  pub steps_are : gs ≡ map (steps_at ms) moments

-- They are those of a plain plan of n steps: each step alone, in file order, with no moment.
pub record AreOfPlain (n : ℕ) (at : List (Option ℕ)) (gs : List (List ℕ)) : Type 0 where
  pub no_moments : All (λ m. m ≡ None) at
  pub steps_are : gs ≡ plain_happenings n

-- Happenings have all numbers below n, each once.
abbrev pub HaveEachOnce : ℕ → List (List ℕ) → Type 0
HaveEachOnce n gs = IsPermutation (numbers_to 0 n) (concat gs)
