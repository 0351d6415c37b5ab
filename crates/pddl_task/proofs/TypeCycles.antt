-- Declared types and their parents, and types that are above themselves.
use Rattle.std.proofs.Common.{◌≡◌, Bool, true, false, not, List, [], ◌∷◌, map, filter, refl, sym, ap, ◌∙◌, arith, bytes_eq, subst, ◌⊎◌, inl, inr}
use Rattle.std.specs.Prelude.{Contains}
use Rattle.std.proofs.lemmas.List.Elements.{Contains-append_left, Contains-append_cases}
use Rattle.pddl_domain.specs.Declarations.{TypeValue}
use Rattle.pddl_domain.specs.Domains.{DomainValue}
use Rattle.pddl_task.specs.Names.{Name, is_in, item_of}
use Rattle.pddl_task.specs.Types.{root, parent_of, says_nothing, under_root, only_parents, pairs, Under, itself, climb, Above, is_cyclic}
use Rattle.pddl_task.specs.Faults.{type_cycles, first_alone}
use Rattle.pddl_task.proofs.Lists.{and_left, and_right, none_left, bytes_same, same_bytes, kept_is, is_kept, mapped_is, is_mapped, has_none}
use Rattle.pddl_task.proofs.Subtypes.{is_cyclic_decides, under_through}

not_false : (b : Bool) → not b ≡ true → b ≡ false
not_false b h = grind arith

-- ---- a declared type is under its parent

pair_or_nothing : (declared : List TypeValue) (e : TypeValue) (b : Bool) → says_nothing e ≡ b → Contains declared e → Under (pairs declared) e.item e.of
pair_or_nothing declared e true nothing has =
    itself (bytes_same e.item root (and_left (bytes_eq e.item root) (bytes_eq e.of root) nothing) ∙ sym (bytes_same e.of root (and_right (bytes_eq e.item root) (bytes_eq e.of root) nothing)))
pair_or_nothing declared e false something has =
    climb e (Contains-append_left (filter (λ d. not (says_nothing d)) declared) (map under_root (only_parents declared)) e (is_kept (λ d. not (says_nothing d)) declared e has (ap not something))) refl (itself refl)

pub parent_above : (declared : List TypeValue) (e : TypeValue) → Contains declared e → Under (pairs declared) e.item e.of
parent_above declared e has = pair_or_nothing declared e (says_nothing e) refl has

-- ---- what has a parent is declared, or only stands as a parent

abbrev pub Origin : List TypeValue → TypeValue → Type 0
Origin declared e = Contains (map item_of declared) e.item ⊎ ((e.of ≡ root) × (bytes_eq e.item root ≡ false))

origin : (declared : List TypeValue) (e : TypeValue) → Contains (pairs declared) e → Origin declared e
origin declared e has =
    elim (Contains-append_cases (filter (λ d. not (says_nothing d)) declared) (map under_root (only_parents declared)) e has) as (λ _. Origin declared e) [
      | inl kept ↦ inl (is_mapped item_of declared e (kept_is (λ d. not (says_nothing d)) declared e kept).0)
      | inr added ↦
          let from = mapped_is under_root (only_parents declared) e added in
          let new = kept_is (λ t. not (is_in (root ∷ map item_of declared) t)) (map parent_of declared) from.0 from.1 in
          let other = none_left (bytes_eq from.0 root) (is_in (map item_of declared) from.0) (not_false (is_in (root ∷ map item_of declared) from.0) new.1) in
          inr (sym (ap parent_of from.2), ap (λ d. bytes_eq d.item root) (sym from.2) ∙ other)
    ]

-- ---- a type that is above itself is declared, or `object` is above itself and declared

nothing_first : (ns : List Name) (n : Name) → first_alone ns ≡ [] → Contains ns n → ⊥
nothing_first [] n h has = has_none n has
nothing_first (m ∷ ns) n h has = cc

declared_cycle : (d : DomainValue) (t : Name) → type_cycles d ≡ [] → Contains (map item_of d.types) t → Above (pairs d.types) t t → ⊥
declared_cycle d t h has above =
    let q = is_cyclic (pairs d.types) in
    nothing_first (filter q (map item_of d.types)) t h (is_kept q (map item_of d.types) t has ((is_cyclic_decides (pairs d.types) t).1 above))

-- `object` is under no type but itself, where no declared type is above itself and a type under `object` would be
root_is_top : (d : DomainValue) (t : Name) → type_cycles d ≡ [] → bytes_eq t root ≡ false → Under (pairs d.types) t root → Under (pairs d.types) root t → ⊥
root_is_top d t h other up (itself same) = let is : bytes_eq t root ≡ true = same_bytes t root (sym same) in cc
root_is_top d t h other up (climb e has named rest) =
    elim (origin d.types e has) as (λ _. ⊥) [
      | inl declared ↦ declared_cycle d root h (subst (Contains (map item_of d.types)) (sym named) declared) (e, has, named, under_through (pairs d.types) e.of t root rest up)
      | inr only ↦ let is : bytes_eq e.item root ≡ true = same_bytes e.item root (sym named) in let off : bytes_eq e.item root ≡ false = only.1 in cc
    ]

pub cycle_is_fault : (d : DomainValue) (t : Name) → Above (pairs d.types) t t → type_cycles d ≡ [] → ⊥
cycle_is_fault d t above h =
    let e = above.0 in
    elim (origin d.types e above.1) as (λ _. ⊥) [
      | inl declared ↦ declared_cycle d t h (subst (Contains (map item_of d.types)) (sym above.2) declared) above
      | inr only ↦ root_is_top d t h (ap (λ n. bytes_eq n root) above.2 ∙ only.1) (climb e above.1 above.2 (itself only.0)) (subst (λ n. Under (pairs d.types) n t) only.0 above.3)
    ]
