-- What is claimed in `:init`, one item after another, beside a table of what was claimed so far.
use Rattle.std.proofs.Common.{◌≡◌, ℕ, ◌+◌, ◌<◌, Bool, true, false, ◌&&◌, ◌||◌, ◌==◌, not, cond, List, [], ◌∷◌, ◌++◌, map, length, get_or, Some, refl, ap, sym, ◌∙◌, arith, Contains, unwrap_or, Bor, bytes_eq}
use Rattle.std.specs.Cmp.{IsEquivalence, and_equiv, on_equiv}
use Rattle.std.specs.Cmp.Lexicographic.{bytes_decides, pointwise_decides, lists_equiv, nat_list_eq_equiv}
use Rattle.std.specs.List.{list_any}
use Rattle.std.specs.Map.{lookup}
use Rattle.std.proofs.Math.Bool.{beq}
use Rattle.std.proofs.lemmas.Bool.Decides.{nat_tests}
use Rattle.pddl_problem.specs.Inits.{GroundValue, InitValue}
use Rattle.pddl_task.specs.Names.{Name, wrong_words}
use Rattle.pddl_task.specs.Places.{total_cost}
use Rattle.pddl_task.specs.Faults.{same_ground, contradicts, starts_above_zero, init_name, clashing}
use Rattle.pddl_task.proofs.Lists.{none_of, any_none}
use Rattle.pddl_names.specs.Claims.{claim_of, claim_in, ground_in, clash_in, wrong_in, is_failure}
use Rattle.pddl_faults.proofs.ListTurns.{seen_more}
use Rattle.pddl_faults.proofs.SeenItems.{any_more, seen_at, AreLeft, seen_bad, seen_good}

abbrev Key : Type 0
Key = Bor Name × Bor (List Name)

abbrev same_key : Key → Key → Bool
same_key g h = same_ground (ground_in g) (ground_in h)

-- two different numbers
abbrev unequal : ℕ → ℕ → Bool
unequal m n = not (m == n)

-- ---- which claims clash

clash_is : (of_values : Bool) (i j : InitValue) → (claim_of i).is_value ≡ of_values → (claim_of j).is_value ≡ of_values
    → clash_in of_values i j ≡ same_ground (claim_of i).ground (claim_of j).ground && unequal (claim_of i).number (claim_of j).number
clash_is of_values i j h k = grind (arith, h, k)

-- one of the other kind clashes with none, and is not wrong
clash_other : (of_values : Bool) (i j : InitValue) → (claim_of i).is_value ≡ not of_values → clash_in of_values j i ≡ false
clash_other of_values i j h = grind (arith, h)

wrong_other : (of_values : Bool) (seen : List InitValue) (i : InitValue) → (claim_of i).is_value ≡ not of_values → wrong_in of_values seen i ≡ false
wrong_other of_values [] i h = grind (arith, h)
wrong_other of_values (j ∷ seen) i h = grind (arith, wrong_other of_values seen i h, h)

-- one of this kind may start above zero
zero_is : (of_values : Bool) (i : InitValue) → (claim_of i).is_value ≡ of_values
    → (of_values && starts_above_zero i) ≡ ((of_values && bytes_eq (claim_of i).ground.name total_cost) && not ((claim_of i).number == 0))
zero_is of_values i h = grind (arith, h)

name_is : (i : InitValue) → (claim_of i).ground.name ≡ init_name i
name_is i = grind arith

-- ---- a table of claims

-- In front of item i, a table tells of each claim whether it disagrees with one of those seen, and the words of the whole are those of what is left.
pub record Checked {X : Type 0} (view : X → InitValue) (of_values : Bool) (xs : List X) (i : ℕ) (es : List (Key × ℕ)) : Type 0 where
  pub told : (j : InitValue) (k : Key) (n : ℕ) → claim_in (of_values, k, n) ≡ claim_of j
      → list_any (clash_in of_values j) (seen_at view [] xs i) ≡ unequal n (unwrap_or (lookup (same_key k) es) n)
  pub rest : AreLeft view init_name (wrong_in of_values) [] xs i

same_is : (f g : GroundValue) → same_ground f g ≡ true → f ≡ g
same_is f g h =
    let names : f.name ≡ g.name = (bytes_decides f.name g.name).0 (grind (arith, h)) in
    let objects : f.objects ≡ g.objects = (pointwise_decides bytes_decides f.objects g.objects).0 (grind (arith, h)) in
    λ i. record { name = names i; objects = objects i }

same_equiv : IsEquivalence same_ground
same_equiv = and_equiv (on_equiv (λ (f : GroundValue). f.name) nat_list_eq_equiv) (on_equiv (λ (f : GroundValue). f.objects) (lists_equiv nat_list_eq_equiv))

-- with the number that stands first under the key of a claim, where it is that of the claim
agree_more : (es : List (Key × ℕ)) (j k : Key) (m n first : ℕ) → first ≡ unwrap_or (lookup (same_key k) es) n → unequal n first ≡ false
    → (unequal m (unwrap_or (lookup (same_key j) es) m) || same_key j k && unequal m n) ≡ unequal m (unwrap_or (cond (same_key k j) (Some first) (lookup (same_key j) es)) m)
agree_more es j k m n first is agrees =
    let alike = λ (same : same_key k j ≡ true). ap (λ g. lookup (λ l. same_ground g (ground_in l)) es) (same_is (ground_in k) (ground_in j) same) in
    grind (arith, nat_tests, same_equiv.symm (ground_in k) (ground_in j), alike, is, agrees)

module _ {X : Type 0} {view : X → InitValue} {of_values : Bool} {xs : List X} {i : ℕ} {x : X} {es : List (Key × ℕ)} (h : i < length xs) (at : x ≡ get_or xs i x) (l : Checked view of_values xs i es)
    (claim : Bool × Key × ℕ) (claimed : claim_in claim ≡ claim_of (view x)) where
  abbrev so_far : List InitValue
  so_far = seen_at view [] xs i

  -- one more item that is right
  pass : (next : List (Key × ℕ)) → wrong_in of_values so_far (view x) ≡ false
      → ((j : InitValue) (k : Key) (n : ℕ) → claim_in (of_values, k, n) ≡ claim_of j → list_any (clash_in of_values j) so_far || clash_in of_values j (view x) ≡ unequal n (unwrap_or (lookup (same_key k) next) n))
      → Checked view of_values xs (i + 1) next
  pass next fine tells = record {
    told = λ j k n is. rw (seen_more view [] xs i x h at, any_more) (tells j k n is);
    rest = seen_good view init_name (wrong_in of_values) [] xs i x h at l.rest fine;
  }

  -- an item of the other kind
  pub checked_other : beq claim.0 of_values ≡ false → Checked view of_values xs (i + 1) es
  checked_other apart =
      let other : (claim_of (view x)).is_value ≡ not of_values = grind (arith, claimed, apart) in
      pass es (wrong_other of_values so_far (view x) other) (λ j k n is. grind (arith, clash_other of_values (view x) j other, l.told j k n is))

  -- one of this kind, where the table says the same of what it claims or something else
  module _ (first : ℕ) (alike : beq claim.0 of_values ≡ true) (is : first ≡ unwrap_or (lookup (same_key claim.1) es) claim.2) where
    own : claim_in (of_values, claim.1, claim.2) ≡ claim_of (view x)
    own = rw (← claimed) (grind (arith, alike))

    abbrev is_wrong : Bool
    is_wrong = ((of_values && bytes_eq claim.1.0.now total_cost) && not (claim.2 == 0)) || unequal claim.2 first

    wrong_here : wrong_in of_values so_far (view x) ≡ is_wrong
    wrong_here = rw (l.told (view x) claim.1 claim.2 own, is, zero_is of_values (view x) (ap (λ d. d.is_value) (sym own)), ← own) refl

    pub checked_wrong : is_wrong ≡ true → Contains (wrong_words (wrong_in of_values) init_name [] (map view xs)) claim.1.0.now
    checked_wrong bad = rw (ap (λ d. d.ground.name) claimed ∙ name_is (view x)) (seen_bad view init_name (wrong_in of_values) [] xs i x h at l.rest (wrong_here ∙ bad))

    pub checked_more : (next : List (Key × ℕ)) → ((k : Key) → lookup (same_key k) next ≡ cond (same_key claim.1 k) (Some first) (lookup (same_key k) es))
        → is_wrong ≡ false → Checked view of_values xs (i + 1) next
    checked_more next put fine =
        pass next (wrong_here ∙ fine) (λ j k n here.
        rw (l.told j k n here, put k, ← agree_more es k claim.1 n claim.2 first is (grind (arith, fine))) (grind (arith, clash_is of_values j (view x), here, own)))

-- ---- where no atom fails, none holds and fails

pub no_failures : {X : Type 0} (view : X → InitValue) (seen : List InitValue) (xs : List X) → list_any is_failure seen ≡ false → list_any (λ x. is_failure (view x)) xs ≡ false
    → clashing contradicts seen (map view xs) ≡ []
no_failures view seen [] h k = refl
no_failures view seen (x ∷ xs) h k =
    let own : is_failure (view x) ≡ false = grind (arith, k) in
    rw (none_of (contradicts (view x)) seen (λ j c. grind (arith, own, any_none is_failure seen j h c)))
    (no_failures view (seen ++ view x ∷ []) xs (rw (any_more, h) own) (grind (arith, k, own)))
