-- A walk over a list that looks back at what it has seen.
use Rattle.std.proofs.Common.{◌≡◌, ℕ, ◌+◌, ◌<◌, Bool, true, false, ◌||◌, List, [], ◌∷◌, ◌++◌, map, length, get_or, take, drop, refl, arith, Contains}
use Rattle.std.specs.List.{list_any}
use Rattle.std.proofs.Math.Bool.{or-false}
use Rattle.std.proofs.lemmas.List.Folds.{list_any-append}
use Rattle.pddl_task.specs.Names.{Name, wrong_words}
use Rattle.pddl_faults.proofs.ListTurns.{views_drop, seen_more}

pub any_more : {I : Type 0} (f : I → Bool) (xs : List I) (x : I) → list_any f (xs ++ x ∷ []) ≡ list_any f xs || f x
any_more f xs x = simp (list_any-append, or-false)

-- what was seen before the walk, and what the walk has seen
abbrev pub seen_at : {X I : Type 0} → (X → I) → List I → List X → ℕ → List I
seen_at view before xs i = before ++ map view (take i xs)

-- the words of items behind others: that of each that is bad beside those seen
module _ {X I : Type 0} (view : X → I) (word : I → Name) (bad : List I → I → Bool) (before : List I) (xs : List X) where
  abbrev whole : List Name
  whole = wrong_words bad word before (map view xs)

  -- in front of an item, the words of the whole are those of what is left
  abbrev pub AreLeft : ℕ → Type 0
  AreLeft i = wrong_words bad word (seen_at view before xs i) (map view (drop i xs)) ≡ whole

  module _ (i : ℕ) (x : X) (h : i < length xs) (at : x ≡ get_or xs i x) (left : AreLeft i) where
    -- an item that is bad beside those seen has its word
    pub seen_bad : bad (seen_at view before xs i) (view x) ≡ true → Contains whole (word (view x))
    seen_bad is = rw (← left, views_drop view xs i x h at, is) (0, omega arith, refl)

    -- another one is seen, and the walk goes on
    pub seen_good : bad (seen_at view before xs i) (view x) ≡ false → AreLeft (i + 1)
    seen_good is = rw (seen_more view before xs i x h at) (rw (views_drop view xs i x h at, is) at left)
