-- Types with their parents, as they are declared; the rows of their table, by place and by name, and how it grows; which places are under which, and ways that go round.
use Rattle.std.proofs.Common.{◌-◌, ◌==◌, MatchOption, ◌≡◌, ℕ, zero, suc, ◌<◌, ◌||◌, Bool, true, false, cond, List, [], ◌∷◌, ◌++◌, length, map, refl, sym, ap, ◌∙◌, subst, arith, bytes_eq, ◌≢◌, ◌+◌, filter, get_or, drop, true≢false, not, ◌&&◌, fold, inl, inr, Option, Some, None, is_some, unwrap_or, slice_get, ◌↔◌, IsTrue, Contains, Bor}
use Rattle.std.specs.Cmp.{IsEquivalence, on_equiv}
use Rattle.std.specs.List.{position, position_or_len, IsDistinct, slice_index_or}
use Rattle.std.specs.Map.{keys_of}
use Rattle.std.proofs.lemmas.Cmp.{nat_list_eq_equiv}
use Rattle.std.proofs.lemmas.List.{length-map, map-append}
use Rattle.std.proofs.lemmas.List.Folds.{list_any-append, list_any_none}
use Rattle.std.proofs.lemmas.List.Sums.{fold_push}
use Rattle.std.proofs.lemmas.Map.Entries.{lookup_from_place}
use Rattle.std.proofs.lemmas.Option.{same_Some, slice_get_within, get_or_from_slice_get}
use Rattle.indexmap.specs.IndexMap.{insert_entry}
use Rattle.indexmap.proofs.MapLemmas.{or_len-first, or_len-absent, absent_from_lookup, Found-position, Missing-position, insert_entry-absent, some_index}
use Rattle.indexmap.proofs.RemoveLemmas.{own_first}
use Rattle.pddl_forest.specs.Forests.{parent_of, up, IsUnder}
use Rattle.pddl_domain.specs.Declarations.{TypeValue}
use Rattle.pddl_task.specs.Names.{Name, is_in, number_in, item_of, repeated}
use Rattle.pddl_task.specs.Types.{root, parent_of as declared_parent, types_of, says_nothing, pairs, Under, itself, climb, is_under, is_cyclic, under_root, only_parents}
use Rattle.pddl_faults.proofs.PutValues.{found_or, lookup_put}
use Rattle.pddl_task.proofs.Lists.{none_left, none_right, bytes_same, same_bytes, at_place, some_at, or_none, any_found, found_any, has_cases, has_later, has_none, and_left, and_right, kept_is, is_kept, mapped_is, is_mapped}
use Rattle.pddl_types.specs.TypeTables.{Row, names_in, parents_in, StandsAt, parent_place, parent_in, IsTableOf, IsTypeTable, cycle_in}
use Rattle.pddl_types.proofs.Lookups.{seen_entry, entry_seen, at_end, entry_found, number_lent}
use Rattle.pddl_types.proofs.SignatureTables.{none_found}
use Rattle.std.proofs.lemmas.Bool.{false_from_ne_true, cases_Bool, not-true}
use Rattle.pddl_forest.specs.Rounds.{IsOnRound, HasRound, AreRounds}
use Rattle.pddl_task.specs.Faults.{first_alone}
use Rattle.pddl_task.proofs.Subtypes.{is_under_decides, is_cyclic_decides, under_through}
use Rattle.pddl_task.proofs.TypeCycles.{cycle_is_fault}
use Rattle.pddl_faults.proofs.ListTurns.{rest_is, viewed_at}
use Rattle.pddl_faults.proofs.SeenItems.{any_more}
use Rattle.std.proofs.lemmas.List.Elements.{Contains-append_left, Contains-append_right, Contains-append_cases, All-from_recursion}
use Rattle.std.proofs.lemmas.Map.Keys.{IsDistinct-head, IsDistinct-tail}
use Rattle.std.proofs.Math.Bool.{and-true, or-false}
use Rattle.std.proofs.lemmas.Bool.Decides.{nat_tests}
use Rattle.pddl_task.proofs.DistinctNames.{no_repetition}

-- ---- names that are in a list

pub in_has : (ns : List Name) (t : Name) → is_in ns t ≡ true → Contains ns t
in_has ns t h = let f = any_found (bytes_eq t) ns h in subst (Contains ns) (sym (bytes_same t f.0 f.2)) f.1

has_in : (ns : List Name) (t : Name) → Contains ns t → is_in ns t ≡ true
has_in ns t c = found_any (bytes_eq t) ns t c (same_bytes t t refl)

-- ---- declared parents

-- `object` under `object`
pub both_root : (e : TypeValue) → says_nothing e ≡ true → (e.item ≡ root) × (e.of ≡ root)
both_root e nothing = (bytes_same e.item root (and_left (bytes_eq e.item root) (bytes_eq e.of root) nothing), bytes_same e.of root (and_right (bytes_eq e.item root) (bytes_eq e.of root) nothing))

-- the parent of a type behind another declaration
abbrev pub told_over : Name → Name → TypeValue → Name
told_over t over e = cond (bytes_eq t e.item) e.of over

pub parent_undeclared : (declared : List TypeValue) (t over : Name) → is_in (map item_of declared) t ≡ false → fold (told_over t) over declared ≡ over
parent_undeclared [] t over h = refl
parent_undeclared (d ∷ ds) t over h = grind (arith, parent_undeclared ds t over)

parent_declared : (declared : List TypeValue) (e : TypeValue) (over : Name) → IsDistinct bytes_eq (map item_of declared) → Contains declared e → fold (told_over e.item) over declared ≡ e.of
parent_declared [] e over once c = absurd (has_none e c)
parent_declared (d ∷ ds) e over once c =
    elim (has_cases d ds e c) as (λ _. fold (told_over e.item) (told_over e.item over d) ds ≡ e.of) [
      | inl is ↦
          let apart = list_any_none (bytes_eq d.item) (map item_of ds) (All-from_recursion (λ n. bytes_eq d.item n ≡ false) (map item_of ds) (IsDistinct-head bytes_eq d.item (map item_of ds) once)) in
          rw (← is, same_bytes d.item d.item refl) (parent_undeclared ds d.item d.of apart)
      | inr later ↦ parent_declared ds e (told_over e.item over d) (IsDistinct-tail bytes_eq d.item (map item_of ds) once) later
    ]

-- ---- the pairs, as the table has them

module _ (declared : List TypeValue) (once : repeated [] (map item_of declared) ≡ []) where
  abbrev is_type : Name → Bool
  is_type = is_in (types_of declared)

  -- a type with its parent
  abbrev pub with_parent : Name → TypeValue
  with_parent t = record { item = t; of = parent_in declared t }

  parent_told : (e : TypeValue) → Contains declared e → parent_in declared e.item ≡ e.of
  unfolding IsDistinct
  parent_told e has = parent_declared declared e root (no_repetition [] (map item_of declared) tt once) has

  pub type_declared : (t : Name) → Contains (map item_of declared) t → is_type t ≡ true
  type_declared t c = has_in (types_of declared) t (has_later root (map item_of declared ++ map declared_parent declared) t (Contains-append_left (map item_of declared) (map declared_parent declared) t c))

  type_above : (t : Name) → Contains (map declared_parent declared) t → is_type t ≡ true
  type_above t c = has_in (types_of declared) t (has_later root (map item_of declared ++ map declared_parent declared) t (Contains-append_right (map item_of declared) (map declared_parent declared) t c))

  abbrev kept : List TypeValue
  kept = filter (λ e. not (says_nothing e)) declared

  abbrev added : List TypeValue
  added = map under_root (only_parents declared)

  -- each pair is of a type with its parent, and says something
  abbrev IsPair : TypeValue → Type 0
  IsPair e = (is_type e.item ≡ true) × (is_type e.of ≡ true) × (parent_in declared e.item ≡ e.of) × (says_nothing e ≡ false)

  pub pair_is : (e : TypeValue) → Contains (pairs declared) e → IsPair e
  pair_is e has =
      elim (Contains-append_cases kept added e has) as (λ _. IsPair e) [
        | inl own ↦
            let c = kept_is (λ d. not (says_nothing d)) declared e own in
            (type_declared e.item (is_mapped item_of declared e c.0), type_above e.of (is_mapped declared_parent declared e c.0), parent_told e c.0, not-true (says_nothing e) c.1)
        | inr more ↦
            let from = mapped_is under_root (only_parents declared) e more in
            let new = kept_is (λ t. not (is_in (root ∷ map item_of declared) t)) (map declared_parent declared) from.0 from.1 in
            let off = not-true (is_in (root ∷ map item_of declared) from.0) new.1 in
            subst IsPair from.2 (
              type_above from.0 new.0,
              refl,
              parent_undeclared declared from.0 root (none_right (bytes_eq from.0 root) (is_in (map item_of declared) from.0) off),
              ap (λ b. b && bytes_eq root root) (none_left (bytes_eq from.0 root) (is_in (map item_of declared) from.0) off),
            )
      ]

  -- and each type with its parent is one of them, but for `object` under itself
  pub is_pair : (t : Name) → is_type t ≡ true → says_nothing (with_parent t) ≡ false → Contains (pairs declared) (with_parent t)
  is_pair t type something =
      elim (is_in (map item_of declared) t) as (λ b. is_in (map item_of declared) t ≡ b → Contains (pairs declared) (with_parent t)) [
        | true ↦ λ on.
            let d = mapped_is item_of declared t (in_has (map item_of declared) t on) in
            let same : d.0 ≡ with_parent t = ap (λ (n : Name). record { item = d.0.item; of = n }) (sym (parent_told d.0 d.1)) ∙ ap with_parent d.2 in
            let own = is_kept (λ e. not (says_nothing e)) declared d.0 d.1 (ap (λ e. not (says_nothing e)) same ∙ ap not something) in
            subst (Contains (pairs declared)) same (Contains-append_left kept added d.0 own)
        | false ↦ λ off.
            let top = parent_undeclared declared t root off in
            let other : bytes_eq t root ≡ false = sym (and-true (bytes_eq t root)) ∙ ap (λ n. bytes_eq t root && bytes_eq n root) (sym top) ∙ something in
            let above : is_in (map declared_parent declared) t ≡ true = rw (other, list_any-append (bytes_eq t) (map item_of declared) (map declared_parent declared), off) at type in
            let new = is_kept (λ n. not (is_in (root ∷ map item_of declared) n)) (map declared_parent declared) t (in_has (map declared_parent declared) t above) (ap not (or_none (bytes_eq t root) (is_in (map item_of declared) t) other off)) in
            subst (Contains (pairs declared)) (ap (λ (n : Name). record { item = t; of = n }) (sym top)) (Contains-append_right kept added (under_root t) (is_mapped under_root (only_parents declared) t new))
      ] refl

  -- a type is under its parent
  pub under_parent : (t : Name) → is_type t ≡ true → Under (pairs declared) t (parent_in declared t)
  under_parent t type =
      elim (cases_Bool (says_nothing (with_parent t))) as (λ _. Under (pairs declared) t (parent_in declared t)) [
        | inl nothing ↦ let (item, of) = both_root (with_parent t) nothing in itself (item ∙ sym of)
        | inr something ↦ climb (with_parent t) (is_pair t type something) refl (itself refl)
      ]

  -- what is under a type is one, and what a type is under
  pub same_types : (t u : Name) → Under (pairs declared) t u → is_type t ≡ is_type u
  same_types t u (itself is) = ap is_type is
  same_types t u (climb e has named rest) = let p = pair_is e has in ap is_type named ∙ p.0 ∙ sym p.1 ∙ same_types e.of u rest

-- ---- by place

pub below : (rows : List Row) (i : ℕ) (n : Name) → StandsAt rows i n → i < length (parents_in rows)
below rows i n at = omega (arith, slice_get_within (names_in rows) i n at, length-map rows (λ (r : Row). r.0.now), length-map rows (λ (r : Row). r.1 - 1))

pub one_name : (rows : List Row) (i j : ℕ) (t u : Name) → i ≡ j → StandsAt rows i t → StandsAt rows j u → t ≡ u
one_name rows i j t u same at there = same_Some t u (sym at ∙ ap (slice_get (names_in rows)) same ∙ there)

-- ---- by name

module _ (rows : List Row) (t : Name) where
  pub found_number : (i : ℕ) → position (λ k. bytes_eq t k.now) (keys_of rows) ≡ Some i → number_in (names_in rows) t ≡ i
  found_number i at = sym (number_lent rows t) ∙ (Found-position (λ k. bytes_eq t k.now) rows i at).or_len

  pub found_place : (i : ℕ) → position (λ k. bytes_eq t k.now) (keys_of rows) ≡ Some i → StandsAt rows i t
  found_place i at =
      let (r, there, same) = entry_found (λ (k : Bor (List ℕ)). bytes_eq t k.now) rows i at in
      seen_entry (λ (s : Row). s.0.now) rows i r there ∙ ap Some (sym (bytes_same t r.0.now same))

  pub no_place : position (λ k. bytes_eq t k.now) (keys_of rows) ≡ None → is_some (parent_place rows t) ≡ false
  no_place at = sym (some_index (λ k. bytes_eq t k.now) rows) ∙ ap is_some at

  pub number_at : is_some (parent_place rows t) ≡ true → StandsAt rows (number_in (names_in rows) t) t
  number_at h = grind (arith, found_number, found_place, no_place)

  pub number_past : is_some (parent_place rows t) ≡ false → number_in (names_in rows) t ≡ length rows
  number_past h = sym (number_lent rows t) ∙ or_len-absent (λ k. bytes_eq t k.now) rows (absent_from_lookup (λ k. bytes_eq t k.now) rows (none_found (parent_place rows t) h))

  -- a name that stands at a place has that number, and beside it stands the place of its parent
  pub beside : (i : ℕ) → IsDistinct (λ x y. bytes_eq x.now y.now) (keys_of rows) → StandsAt rows i t
      → (number_in (names_in rows) t ≡ i) × (p : ℕ) × (parent_place rows t ≡ Some p) × (parent_of (parents_in rows) i ≡ p - 1)
  beside i once at =
      let (r, here, named) = entry_seen (λ (s : Row). s.0.now) rows i t at in
      subst (λ n. (number_in (names_in rows) n ≡ i) × (p : ℕ) × (parent_place rows n ≡ Some p) × (parent_of (parents_in rows) i ≡ p - 1)) named (
        sym (number_lent rows r.0.now) ∙ or_len-first (λ k. bytes_eq r.0.now k.now) rows i (own_first (λ x y. bytes_eq x.now y.now) equiv rows i r.0 r.1 once here),
        r.1,
        lookup_from_place equiv rows i r.0 r.1 once here,
        get_or_from_slice_get (parents_in rows) i (r.1 - 1) i (seen_entry (λ (s : Row). s.1 - 1) rows i r here),
      )
    where
      equiv : IsEquivalence (λ (x y : Bor (List ℕ)). bytes_eq x.now y.now)
      equiv = on_equiv (λ (k : Bor (List ℕ)). k.now) nat_list_eq_equiv

-- ---- a row that is put into a table: where the name stands already, it takes the place of the parent

abbrev pub put : List Row → Bor (List ℕ) → ℕ → List Row
put rows k p = insert_entry (λ x y. bytes_eq x.now y.now) rows k p

-- what stands keeps its place
pub stands_on : (rows : List Row) (k : Bor (List ℕ)) (p i : ℕ) (n : Name) → StandsAt rows i n → StandsAt (put rows k p) i n
stands_on [] k p i n at = cc
stands_on (r ∷ rows) k p zero n at = elim (bytes_eq k.now r.0.now) as (λ b. StandsAt (cond b ((r.0, p) ∷ rows) (r ∷ put rows k p)) zero n) [ true ↦ at | false ↦ at ]
stands_on (r ∷ rows) k p (suc i) n at = elim (bytes_eq k.now r.0.now) as (λ b. StandsAt (cond b ((r.0, p) ∷ rows) (r ∷ put rows k p)) (suc i) n) [ true ↦ at | false ↦ stands_on rows k p i n at ]

-- ---- tables

-- the same types
of_types : {types others : List Name} {told : List TypeValue} {rows : List Row} → ((t : Name) → is_in types t ≡ is_in others t) → IsTableOf types told rows → IsTableOf others told rows
of_types same h = record { once = h.once; first = h.first; has = λ t. h.has t ∙ same t; declared = h.declared; parents = h.parents }

-- one that stands there already
pub again : (types : List Name) (told : List TypeValue) (rows : List Row) (i : ℕ) (n : Name) → StandsAt rows i n → IsTableOf types told rows → IsTableOf (n ∷ types) told rows
again types told rows i n at h = of_types (λ t. let (_, p, here, _) = beside rows n i h.once at in grind (arith, bytes_same t n, h.has n, here)) h

-- a type that is put beside the place of its parent, where those of the others stay
put_in : (rows after : List Row) (k : Bor (List ℕ)) (p : ℕ) → after ≡ put rows k p → IsDistinct (λ x y. bytes_eq x.now y.now) (keys_of after)
    → (types : List Name) (told next : List TypeValue) → IsTableOf types told rows → StandsAt rows (p - 1) (parent_in next k.now) → not (p == 0) ≡ is_in (map item_of next) k.now
    → ((t : Name) → bytes_eq t k.now ≡ false → (parent_in told t ≡ parent_in next t) × (is_in (map item_of told) t ≡ is_in (map item_of next) t)) → IsTableOf (k.now ∷ types) next after
put_in rows after k p put_there once types told next h at own others = record {
  once = once;
  first = subst (λ rs. StandsAt rs 0 root) (sym put_there) (stands_on rows k p 0 root h.first);
  has = λ t. ap is_some (place t) ∙ found_or (bytes_eq t k.now) p (parent_place rows t) ∙ ap (λ b. bytes_eq t k.now || b) (h.has t);
  declared = λ t. rw (place t) (grind (arith, nat_tests, own, h.declared t, others t, bytes_same t k.now));
  parents = λ t i is.
      let stays = stands_on rows k p (i - 1) (parent_in next t) in
      rw put_there (grind (arith, place t, is, bytes_same t k.now, stays, others t, h.parents t i, at));
}
  where
    place : (t : Name) → parent_place after t ≡ cond (bytes_eq t k.now) (Some p) (parent_place rows t)
    place t = ap (λ rs. parent_place rs t) put_there ∙ lookup_put rows k p t

-- a declared type goes under its parent, which stands at a place
pub put_under : (rows after : List Row) (k : Bor (List ℕ)) (p : ℕ) → after ≡ put rows k (p + 1) → IsDistinct (λ x y. bytes_eq x.now y.now) (keys_of after)
    → (told : List TypeValue) (d : TypeValue) → IsTableOf (d.of ∷ types_of told) told rows → d.item ≡ k.now → StandsAt rows p d.of → IsTableOf (types_of (told ++ d ∷ [])) (told ++ d ∷ []) after
put_under rows after k p put_there once told d h item at =
    of_types types_more (put_in rows after k (p + 1) put_there once (d.of ∷ types_of told) told (told ++ d ∷ []) h
    (rw (parent_more k.now, ← item, same_bytes d.item d.item refl) (subst (λ i. StandsAt rows i d.of) (omega arith) at))
    (rw (named_more k.now, ← item, same_bytes d.item d.item refl) (grind (arith, nat_tests)))
    (λ t other. (rw (parent_more t, item, other) refl, rw (named_more t, item, other) (sym (or-false _)))))
  where
    parent_more : (t : Name) → parent_in (told ++ d ∷ []) t ≡ cond (bytes_eq t d.item) d.of (parent_in told t)
    parent_more t = fold_push (told_over t) root told d

    named_more : (t : Name) → is_in (map item_of (told ++ d ∷ [])) t ≡ is_in (map item_of told) t || bytes_eq t d.item
    named_more t = rw (map-append item_of told (d ∷ [])) (any_more (bytes_eq t) (map item_of told) d.item)

    types_more : (t : Name) → is_in (k.now ∷ d.of ∷ types_of told) t ≡ is_in (types_of (told ++ d ∷ [])) t
    types_more t =
        let is = bytes_eq t in
        let items = map item_of told in
        rw (← item, map-append item_of told (d ∷ []), map-append declared_parent told (d ∷ []), list_any-append is (items ++ d.item ∷ []) (map declared_parent told ++ d.of ∷ []), list_any-append is items (map declared_parent told), list_any-append is items (d.item ∷ []), list_any-append is (map declared_parent told) (d.of ∷ []))
        (grind arith)

-- a parent that does not stand there goes under `object`, behind all others; so its place is known
pub parent_put : (told : List TypeValue) (rows after : List Row) (k : Bor (List ℕ)) (place : ℕ) (o : Option ℕ) → o ≡ position (λ x. bytes_eq k.now x.now) (keys_of rows) → IsTableOf (types_of told) told rows
    → place ≡ position_or_len (λ x. bytes_eq k.now x.now) (keys_of rows) → MatchOption o (after ≡ rows ++ (k, 0) ∷ []) (λ _. after ≡ rows) → IsDistinct (λ x y. bytes_eq x.now y.now) (keys_of after)
    → IsTableOf (k.now ∷ types_of told) told after × StandsAt after place k.now
parent_put told rows after k place (Some i) is h at put_there once =
    let here = found_place rows k.now i (sym is) in
    rw (put_there, at, (Found-position (λ x. bytes_eq k.now x.now) rows i (sym is)).or_len) (again (types_of told) told rows i k.now here h, here)
parent_put told rows after k place None is h at put_there once =
    let absent = (Missing-position (λ x. bytes_eq k.now x.now) rows (sym is)).absent in (
      put_in rows after k 0 (put_there ∙ sym (insert_entry-absent (λ x y. bytes_eq x.now y.now) k 0 rows absent)) once (types_of told) told told h
          (subst (StandsAt rows 0) (sym (parent_undeclared told k.now root untold)) h.first) (sym untold) (λ t _. (refl, refl)),
      rw (put_there, at, or_len-absent (λ x. bytes_eq k.now x.now) rows absent) (seen_entry (λ (r : Row). r.0.now) (rows ++ (k, 0) ∷ []) (length rows) (k, 0) (at_end rows (k, 0))),
    )
  where
    untold : is_in (map item_of told) k.now ≡ false
    untold = sym (h.declared k.now) ∙ ap (λ (o : Option ℕ). not (unwrap_or o 0 == 0)) (none_found (parent_place rows k.now) (no_place rows k.now (sym is)))

-- ---- which places are under which, and ways that go round

none_kept : (q : Name → Bool) (ns : List Name) → ((n : Name) → q n ≡ true → ⊥) → filter q ns ≡ []
none_kept q [] h = refl
none_kept q (n ∷ ns) h = grind (arith, none_kept q ns h, h n)

module _ (declared : List TypeValue) (rows : List Row) (h : IsTypeTable declared rows) where
  abbrev ps : List ℕ
  ps = parents_in rows

  -- a type has a place
  pub place_in : (t : Name) → is_in (types_of declared) t ≡ true → StandsAt rows (number_in (names_in rows) t) t
  place_in t type = number_at rows t (h.1.has t ∙ type)

  same_place : (i j : ℕ) (t : Name) → StandsAt rows i t → StandsAt rows j t → i ≡ j
  same_place i j t at there = sym (beside rows t i h.1.once at).0 ∙ (beside rows t j h.1.once there).0

  -- and what has one is a type
  type_at : (i : ℕ) (t : Name) → StandsAt rows i t → is_in (types_of declared) t ≡ true
  type_at i t at = sym (h.1.has t) ∙ ap is_some (beside rows t i h.1.once at).2

  -- each place has its parent's
  parent_at : (i : ℕ) (t : Name) → StandsAt rows i t → StandsAt rows (parent_of ps i) (parent_in declared t)
  parent_at i t at = let (_, p, here, is) = beside rows t i h.1.once at in rw is (h.1.parents t p here)

  pair_at : (e : TypeValue) (i : ℕ) (t : Name) → Contains (pairs declared) e → t ≡ e.item → StandsAt rows i t → StandsAt rows (parent_of ps i) e.of
  pair_at e i t has named at = subst (StandsAt rows (parent_of ps i)) (ap (parent_in declared) named ∙ (pair_is declared h.0 e has).2) (parent_at i t at)

  name_at : (i : ℕ) → i < length ps → (t : Name) × StandsAt rows i t
  name_at i low = some_at (names_in rows) i (omega (arith, low, length-map rows (λ (r : Row). r.0.now), length-map rows (λ (r : Row). r.1 - 1)))

  -- each parent's place is one of them
  pub parents_within : (i : ℕ) → i < length ps → parent_of ps i < length ps
  parents_within i low = let (t, at) = name_at i low in below rows (parent_of ps i) (parent_in declared t) (parent_at i t at)

  -- ---- what is come to from a place is above it

  come_to : (n i g : ℕ) (t u : Name) → StandsAt rows i t → StandsAt rows g u → up ps n i ≡ g → Under (pairs declared) t u
  come_to zero i g t u at there is = itself (one_name rows i g t u is at there)
  come_to (suc n) i g t u at there is =
      under_through (pairs declared) t (parent_in declared t) u (under_parent declared h.0 t (type_at i t at)) (come_to n (parent_of ps i) g (parent_in declared t) u (parent_at i t at) there is)

  -- and what is above it is come to
  goes_to : (t u : Name) (i g : ℕ) → StandsAt rows i t → StandsAt rows g u → Under (pairs declared) t u → IsUnder ps i g
  goes_to t u i g at there (itself same) = (0, same_place i g u (subst (StandsAt rows i) same at) there)
  goes_to t u i g at there (climb e has named rest) = let way = goes_to e.of u (parent_of ps i) g (pair_at e i t has named at) there rest in (suc way.0, way.1)

  pub under_numbered : (i g : ℕ) (t u : Name) → StandsAt rows i t → StandsAt rows g u → IsTrue (is_under (pairs declared) t u) ↔ IsUnder ps i g
  under_numbered i g t u at there =
      let tells = is_under_decides (pairs declared) t u in (λ yes. goes_to t u i g at there (tells.0 yes), λ way. tells.1 (come_to way.0 i g t u at there way.1))

  -- ---- a type is above itself where its place lies on a way round

  cyclic_round : (t : Name) (i : ℕ) → StandsAt rows i t → is_cyclic (pairs declared) t ≡ true → IsOnRound ps i
  cyclic_round t i at cyclic =
      let (e, has, named, under) = (is_cyclic_decides (pairs declared) t).0 cyclic in
      let of = pair_at e i t has named at in (
        goes_to e.of t (parent_of ps i) i of at under,
        λ top own.
            let item_root = sym named ∙ one_name rows i 0 t root top at h.1.first in
            let of_root = one_name rows (parent_of ps i) 0 e.of root (ap (parent_of ps) top ∙ own) of h.1.first in
            grind (arith, same_bytes e.item root item_root, same_bytes e.of root of_root, (pair_is declared h.0 e has).3),
      )

  -- and only there
  round_cyclic : (t : Name) (i : ℕ) → StandsAt rows i t → IsOnRound ps i → is_cyclic (pairs declared) t ≡ true
  round_cyclic t i at round =
      let e = with_parent declared h.0 t in
      let of = parent_at i t at in
      let something = false_from_ne_true (says_nothing e) (λ nothing.
      let (item_root, of_root) = both_root e nothing in
      let top = same_place i 0 root (subst (StandsAt rows i) item_root at) h.1.first in
      round.1 top (ap (parent_of ps) (sym top) ∙ same_place (parent_of ps i) 0 root (subst (StandsAt rows (parent_of ps i)) of_root of) h.1.first)) in
      (is_cyclic_decides (pairs declared) t).1 (e, is_pair declared h.0 t (type_at i t at) something, refl, come_to round.0.0 (parent_of ps i) i e.of t of at round.0.1)

  -- where none goes round, none is
  pub no_cycle : (HasRound ps → ⊥) → cycle_in declared ≡ []
  no_cycle none =
      ap first_alone (none_kept (is_cyclic (pairs declared)) (map item_of declared) (λ t cyclic.
      let (e, has, named, _) = (is_cyclic_decides (pairs declared) t).0 cyclic in
      let at = place_in t (ap (is_in (types_of declared)) named ∙ (pair_is declared h.0 e has).0) in
      none (number_in (names_in rows) t, below rows (number_in (names_in rows) t) t at, cyclic_round t (number_in (names_in rows) t) at cyclic)))

  -- and where some do, some declared type is
  pub some_cycle : HasRound ps → cycle_in declared ≢ []
  some_cycle (i, low, round) none =
      let (t, at) = name_at i low in
      cycle_is_fault (record { name = []; requirements = []; types = declared; constants = []; predicates = []; functions = []; actions = [] }) t
      ((is_cyclic_decides (pairs declared) t).0 (round_cyclic t i at round)) none

-- ---- declared types one by one

module _ {X : Type 0} (view : X → TypeValue) (xs : List X) {rows : List Row} (h : IsTypeTable (map view xs) rows) {i : ℕ} {x : X} (low : i < length xs) (is : x ≡ get_or xs i x) (q : Bor (List ℕ)) (named : q.now ≡ (view x).item) where
  abbrev names : List Name
  names = map item_of (map view xs)

  abbrev cyclic : Name → Bool
  cyclic = is_cyclic (pairs (map view xs))

  listed : slice_get names i ≡ Some q.now
  listed = seen_entry item_of (map view xs) i (view x) (viewed_at view xs i x low is) ∙ ap Some (sym named)

  -- a declared type stands in the table
  pub stands : position (λ k. bytes_eq q.now k.now) (keys_of rows) ≡ None → ⊥
  stands none = true≢false (sym (type_declared (map view xs) h.0 q.now (at_place names i q.now listed)) ∙ sym (h.1.has q.now) ∙ no_place rows q.now none)

  -- and is above itself where its place lies on a way round: it is the first of those that are left, or these are left behind it
  pub told_at : {numbers : List ℕ} {place : ℕ} → AreRounds (parents_in rows) numbers → Some place ≡ position (λ k. bytes_eq q.now k.now) (keys_of rows) → filter cyclic (drop i names) ≡ filter cyclic names
      → (slice_index_or numbers place 0 ≢ 0 → Contains (cycle_in (map view xs)) q.now) × (slice_index_or numbers place 0 ≡ 0 → filter cyclic (drop (i + 1) names) ≡ filter cyclic names)
  told_at {numbers} {place} rounds at left =
      let stands_at = found_place rows q.now place (sym at) in
      let tells = rounds.each place (below rows place q.now stands_at) in
      let first = rest_is names i q.now (slice_get_within names i q.now listed) (sym (get_or_from_slice_get names i q.now q.now listed)) in (
        λ on. subst (λ ns. Contains (first_alone ns) q.now) (rw (first, round_cyclic (map view xs) rows h q.now place stands_at (tells.0 on)) at left) (0, omega arith, refl),
        λ off. rw (first, false_from_ne_true (cyclic q.now) (λ yes. tells.1 (cyclic_round (map view xs) rows h q.now place stands_at yes) off)) at left,
      )
