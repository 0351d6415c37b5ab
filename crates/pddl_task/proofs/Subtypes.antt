-- The tests on types decide the relations: what a test finds is so, and what is so is found in as many steps as there are types
-- with a parent, since a way up that comes to a type twice can be cut short.
use Rattle.std.proofs.Common.{◌≡◌, ℕ, zero, suc, ◌+◌, ◌-◌, ◌≤◌, length, true, false, ◌&&◌, List, [], ◌∷◌, map, refl, sym, ap, ◌∙◌, subst, arith, bytes_eq, inl, inr}
use Rattle.std.specs.Prelude.{Contains, ◌↔◌, IsTrue}
use Rattle.std.specs.List.{list_any, IsDistinct, AllByRecursion}
use Rattle.std.proofs.lemmas.List.{length-map}
use Rattle.std.proofs.lemmas.Cmp.{nat_list_eq_equiv}
use Rattle.std.proofs.lemmas.Map.Made.{length-le_from_is_member}
use Rattle.std.proofs.lemmas.Map.Keys.{IsDistinct-tail, IsDistinct-cons}
use Rattle.pddl_formula.specs.TypedLists.{TypedValue}
use Rattle.pddl_domain.specs.Declarations.{TypeValue}
use Rattle.pddl_task.specs.Names.{Name, is_in, item_of}
use Rattle.pddl_task.specs.Types.{Under, itself, climb, Above, IsSubtype, types_of, pairs, reaches, is_under, is_cyclic, is_subtype, fits, fitting}
use Rattle.pddl_task.proofs.Lists.{and_left, and_right, and_both, or_left, or_right, or_cases, none_left, none_right, any_found, found_any, all_found, found_all, kept_is, is_kept, bytes_same, same_bytes}

-- ---- the relation

pub under_through : (ps : List TypeValue) (t u v : Name) → Under ps t u → Under ps u v → Under ps t v
under_through ps t u v (itself same) up = subst (λ n. Under ps n v) (sym same) up
under_through ps t u v (climb e has named rest) up = climb e has named (under_through ps e.of u v rest up)

-- ---- what a test finds is so

pub reaches_sound : (ps : List TypeValue) (n : ℕ) (t u : Name) → reaches ps n t u ≡ true → Under ps t u
reaches_sound ps zero t u h = itself (bytes_same t u h)
reaches_sound ps (suc n) t u h =
    elim (or_cases (bytes_eq t u) (list_any (λ e. bytes_eq t e.item && reaches ps n e.of u) ps) h) as (λ _. Under ps t u) [
      | inl same ↦ itself (bytes_same t u same)
      | inr up ↦
          let f = any_found (λ e. bytes_eq t e.item && reaches ps n e.of u) ps up in
          climb f.0 f.1 (bytes_same t f.0.item (and_left (bytes_eq t f.0.item) (reaches ps n f.0.of u) f.2))
          (reaches_sound ps n f.0.of u (and_right (bytes_eq t f.0.item) (reaches ps n f.0.of u) f.2))
    ]

-- ---- one more step, and more steps

reaches_up : (ps : List TypeValue) (n : ℕ) (t u : Name) (e : TypeValue) → Contains ps e → t ≡ e.item → reaches ps n e.of u ≡ true → reaches ps (suc n) t u ≡ true
reaches_up ps n t u e has named h =
    or_right (bytes_eq t u) (list_any (λ d. bytes_eq t d.item && reaches ps n d.of u) ps)
    (found_any (λ d. bytes_eq t d.item && reaches ps n d.of u) ps e has (and_both (bytes_eq t e.item) (reaches ps n e.of u) (same_bytes t e.item named) h))

reaches_once_more : (ps : List TypeValue) (n : ℕ) (t u : Name) → reaches ps n t u ≡ true → reaches ps (suc n) t u ≡ true
reaches_once_more ps zero t u h = or_left (bytes_eq t u) (list_any (λ e. bytes_eq t e.item && reaches ps zero e.of u) ps) h
reaches_once_more ps (suc n) t u h =
    elim (or_cases (bytes_eq t u) (list_any (λ e. bytes_eq t e.item && reaches ps n e.of u) ps) h) as (λ _. reaches ps (suc (suc n)) t u ≡ true) [
      | inl same ↦ or_left (bytes_eq t u) (list_any (λ e. bytes_eq t e.item && reaches ps (suc n) e.of u) ps) same
      | inr up ↦
          let f = any_found (λ e. bytes_eq t e.item && reaches ps n e.of u) ps up in
          reaches_up ps (suc n) t u f.0 f.1 (bytes_same t f.0.item (and_left (bytes_eq t f.0.item) (reaches ps n f.0.of u) f.2))
          (reaches_once_more ps n f.0.of u (and_right (bytes_eq t f.0.item) (reaches ps n f.0.of u) f.2))
    ]

reaches_by_more : (ps : List TypeValue) (k n m : ℕ) (t u : Name) → n + k ≡ m → reaches ps n t u ≡ true → reaches ps m t u ≡ true
reaches_by_more ps zero n m t u sum h = subst (λ i. reaches ps i t u ≡ true) (omega (arith, sum)) h
reaches_by_more ps (suc k) n m t u sum h = reaches_by_more ps k (suc n) m t u (omega (arith, sum)) (reaches_once_more ps n t u h)

reaches_within : (ps : List TypeValue) (n m : ℕ) (t u : Name) → n ≤ m → reaches ps n t u ≡ true → reaches ps m t u ≡ true
reaches_within ps n m t u low h = reaches_by_more ps (m - n) n m t u (omega (arith, low)) h

-- ---- ways up

-- a way from a type to another, by the types left behind with their parents
abbrev pub IsWay : List TypeValue → Name → List TypeValue → Name → Type 0
IsWay ps t [] u = t ≡ u
IsWay ps t (e ∷ es) u = (t ≡ e.item) × Contains ps e × IsWay ps e.of es u

reaches_by_way : (ps : List TypeValue) (t : Name) (es : List TypeValue) (u : Name) → IsWay ps t es u → reaches ps (length es) t u ≡ true
reaches_by_way ps t [] u way = same_bytes t u way
reaches_by_way ps t (e ∷ es) u way = reaches_up ps (length es) t u e way.1 way.0 (reaches_by_way ps e.of es u way.2)

-- the rest of a way, from a type that it comes to
rest_of_way : (ps : List TypeValue) (s t : Name) (es : List TypeValue) (u : Name) → IsWay ps s es u → IsDistinct bytes_eq (map item_of es) → is_in (map item_of es) t ≡ true
    → (fs : List TypeValue) × IsWay ps t fs u × IsDistinct bytes_eq (map item_of fs)
rest_of_way ps s t [] u way once h = cc
rest_of_way ps s t (e ∷ es) u way once h =
    elim (or_cases (bytes_eq t e.item) (is_in (map item_of es) t) h) as (λ _. (fs : List TypeValue) × IsWay ps t fs u × IsDistinct bytes_eq (map item_of fs)) [
      | inl here ↦ (e ∷ es, (bytes_same t e.item here, way.1, way.2), once)
      | inr later ↦ rest_of_way ps e.of t es u way.2 (IsDistinct-tail bytes_eq e.item (map item_of es) once) later
    ]

apart_from : (n : Name) (ns : List Name) → is_in ns n ≡ false → AllByRecursion (λ m. bytes_eq n m ≡ false) ns
apart_from n [] h = tt
apart_from n (m ∷ ns) h = (none_left (bytes_eq n m) (is_in ns n) h, apart_from n ns (none_right (bytes_eq n m) (is_in ns n) h))

-- a way that comes to no type twice
straight_way : (ps : List TypeValue) (t u : Name) → Under ps t u → (es : List TypeValue) × IsWay ps t es u × IsDistinct bytes_eq (map item_of es)
unfolding IsDistinct
straight_way ps t u (itself same) = ([], same, tt)
straight_way ps t u (climb e has named rest) =
    let up = straight_way ps e.of u rest in
    elim (is_in (map item_of up.0) t) as (λ b. is_in (map item_of up.0) t ≡ b → (es : List TypeValue) × IsWay ps t es u × IsDistinct bytes_eq (map item_of es)) [
      | true ↦ λ again. rest_of_way ps e.of t up.0 u up.1 up.2 again
      | false ↦ λ new. (e ∷ up.0, (named, has, up.1), IsDistinct-cons bytes_eq e.item (map item_of up.0) (apart_from e.item (map item_of up.0) (ap (is_in (map item_of up.0)) (sym named) ∙ new)) up.2)
    ] refl

named_in : (ps : List TypeValue) (e : TypeValue) (n : Name) → Contains ps e → bytes_eq n e.item ≡ true → is_in (map item_of ps) n ≡ true
named_in [] e n c h = absurd (omega (arith, c.1))
named_in (p ∷ ps) e n (zero, low, is) h = or_left (bytes_eq n p.item) (is_in (map item_of ps) n) (ap (λ d. bytes_eq n d.item) is ∙ h)
named_in (p ∷ ps) e n (suc i, low, is) h = or_right (bytes_eq n p.item) (is_in (map item_of ps) n) (named_in ps e n (i, omega arith, is) h)

way_has : (ps : List TypeValue) (t : Name) (es : List TypeValue) (u : Name) → IsWay ps t es u → (n : Name) → is_in (map item_of es) n ≡ true → is_in (map item_of ps) n ≡ true
way_has ps t [] u way n h = cc
way_has ps t (e ∷ es) u way n h =
    elim (or_cases (bytes_eq n e.item) (is_in (map item_of es) n) h) as (λ _. is_in (map item_of ps) n ≡ true) [
      | inl here ↦ named_in ps e n way.1 here
      | inr later ↦ way_has ps e.of es u way.2 n later
    ]

straight_is_short : (ps : List TypeValue) (t : Name) (es : List TypeValue) (u : Name) → IsWay ps t es u → IsDistinct bytes_eq (map item_of es) → length es ≤ length ps
straight_is_short ps t es u way once =
    let low = length-le_from_is_member nat_list_eq_equiv (map item_of es) (map item_of ps) once (way_has ps t es u way) in
    omega (arith, low, length-map es item_of, length-map ps item_of)

-- ---- the tests decide

pub under_found : (ps : List TypeValue) (t u : Name) → Under ps t u → is_under ps t u ≡ true
under_found ps t u under =
    let way = straight_way ps t u under in
    reaches_within ps (length way.0) (length ps) t u (straight_is_short ps t way.0 u way.1 way.2) (reaches_by_way ps t way.0 u way.1)

pub is_under_decides : (ps : List TypeValue) (t u : Name) → (is_under ps t u ≡ true) ↔ Under ps t u
is_under_decides ps t u = (reaches_sound ps (length ps) t u, under_found ps t u)

pub is_subtype_decides : (declared : List TypeValue) (t u : Name) → IsTrue (is_subtype declared t u) ↔ IsSubtype declared t u
is_subtype_decides declared t u = (
  λ h.
      let both = and_right (is_in (types_of declared) t) (is_in (types_of declared) u && is_under (pairs declared) t u) h in (
        and_left (is_in (types_of declared) t) (is_in (types_of declared) u && is_under (pairs declared) t u) h,
        and_left (is_in (types_of declared) u) (is_under (pairs declared) t u) both,
        reaches_sound (pairs declared) (length (pairs declared)) t u (and_right (is_in (types_of declared) u) (is_under (pairs declared) t u) both),
      ),
  λ h. and_both (is_in (types_of declared) t) (is_in (types_of declared) u && is_under (pairs declared) t u) h.0
      (and_both (is_in (types_of declared) u) (is_under (pairs declared) t u) h.1 (under_found (pairs declared) t u h.2)),
)

pub is_cyclic_decides : (ps : List TypeValue) (t : Name) → (is_cyclic ps t ≡ true) ↔ Above ps t t
is_cyclic_decides ps t = (
  λ h.
      let f = any_found (λ e. bytes_eq t e.item && is_under ps e.of t) ps h in (
        f.0,
        f.1,
        bytes_same t f.0.item (and_left (bytes_eq t f.0.item) (is_under ps f.0.of t) f.2),
        reaches_sound ps (length ps) f.0.of t (and_right (bytes_eq t f.0.item) (is_under ps f.0.of t) f.2),
      ),
  λ h. found_any (λ e. bytes_eq t e.item && is_under ps e.of t) ps h.0 h.1
      (and_both (bytes_eq t h.0.item) (is_under ps h.0.of t) (same_bytes t h.0.item h.2) (under_found ps h.0.of t h.3)),
)

-- what fits, by each primitive type
pub fits_decides : (ps : List TypeValue) (types slot : List Name)
    → (fits ps types slot ≡ true) ↔ ((t : Name) → Contains types t → (u : Name) × Contains slot u × Under ps t u)
fits_decides ps types slot = (
  λ h t c.
      let f = any_found (is_under ps t) slot (all_found (λ s. list_any (is_under ps s) slot) types h t c) in
      (f.0, f.1, reaches_sound ps (length ps) t f.0 f.2),
  λ h. found_all (λ s. list_any (is_under ps s) slot) types
      (λ t c. let f = h t c in found_any (is_under ps t) slot f.0 f.1 (under_found ps t f.0 f.2)),
)

pub fitting_decides : (ps : List TypeValue) (objects : List TypedValue) (slot : List Name) (x : TypedValue) → Contains (fitting ps objects slot) x ↔ (Contains objects x × (fits ps x.of slot ≡ true))
fitting_decides ps objects slot x = (kept_is (λ o. fits ps o.of slot) objects x, λ h. is_kept (λ o. fits ps o.of slot) objects x h.0 h.1)
