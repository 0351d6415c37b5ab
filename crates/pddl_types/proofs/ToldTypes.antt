-- Types that are told by number, with their tops, the numbers of items' types, and what is found of pairs of them.
use Rattle.std.proofs.Common.{◌^◌, Result, Ok, Err, IfOk, OnOk, MatchResult, MatchOption, ◌≡◌, ℕ, ◌+◌, ◌<◌, ◌==◌, ◌&&◌, cond, Bool, true, not, List, [], ◌∷◌, ◌++◌, filter, length, get_or, take, Option, Some, None, position, refl, sym, ap, ◌∙◌, subst, arith, append-nil, append_assoc, map, IsTrue, Contains, option_map, slice_get, Bor, eqb-true, eq-eqb}
use Rattle.std.specs.Cmp.Lexicographic.{bytes_decides, pointwise_decides}
use Rattle.std.specs.List.{IsDistinct, list_all, list_any, position_or_len}
use Rattle.std.specs.Map.{keys_of, lookup}
use Rattle.std.proofs.lemmas.Bool.Decides.{nat_tests}
use Rattle.std.proofs.lemmas.Cmp.{nat_list_eq_equiv, lists_equiv, on_equiv}
use Rattle.std.proofs.lemmas.List.{length-append, take_more}
use Rattle.std.proofs.lemmas.List.Elements.{All-nil, All-weaker, All-push, All-contains}
use Rattle.std.proofs.lemmas.Option.{same_Some, get_or_from_slice_get, slice_get_within, slice_get-map, slice_get-get_or}
use Rattle.std.proofs.lemmas.Slice.Zip.{AllZip-left, AllZip-long, all_zipped_more}
use Rattle.indexmap.proofs.MapLemmas.{or_len-first, or_len-absent, Missing-position}
use Rattle.indexmap.proofs.RemoveLemmas.{own_first}
use Rattle.pddl_forest.specs.Spans.{AreApart, hold_all}
use Rattle.pddl_forest.specs.declared.spans.Span.{Span}
use Rattle.pddl_formula.specs.TypedLists.{TypedValue, typed_view}
use Rattle.pddl_domain.specs.Declarations.{TypeValue}
use Rattle.pddl_task.specs.Names.{Name, is_in, same_names}
use Rattle.pddl_task.specs.Types.{types_of, pairs, itself, is_under, fits}
use Rattle.pddl_task.proofs.Lists.{at_place, found_all, found_any}
use Rattle.pddl_task.proofs.Numbers.{both_ways}
use Rattle.pddl_task.proofs.Subtypes.{under_found}
use Rattle.pddl_faults.specs.declared.fault.LinkFault.{LinkFault}
use Rattle.pddl_faults.specs.declared.fault.LinkFault.TheVariants.{Memory}
use Rattle.pddl_faults.specs.Passes.{Passes}
use Rattle.pddl_types.specs.TypeSpans.{TypesValue, IsTold, are_types}
use Rattle.pddl_types.specs.Told.{ToldValue, tops_at, IsAt, AreAt, AreDistinct, AreTold, AreKept, IsFit, AreFitting}
use Rattle.pddl_types.specs.Signatures.{Rows, IsSlotsAt, AreSlotsAt}
use Rattle.pddl_types.proofs.Lookups.{entry_seen, in_front, at_end, entry_found}

abbrev Entry : Type 0
Entry = Bor (List Name) × List Span

abbrev same_keys : Bor (List Name) → Bor (List Name) → Bool
same_keys t u = same_names t.now u.now

-- ---- what stays told

pub told_none : (t : TypesValue) (told : ToldValue) → told ≡ [] → AreTold t told
unfolding IsDistinct
told_none t told none = rw none (record { once = tt; each = All-nil (λ e. IsTold t e.0.now e.1 × IsTrue (are_types t.declared e.0.now)) })

pub kept_self : (told : ToldValue) → AreKept told told
kept_self told = ([], sym (append-nil told))

pub kept_then : (before between after : ToldValue) → AreKept before between → AreKept between after → AreKept before after
kept_then before between after first second = (first.0 ++ second.0, second.1 ∙ ap (λ (ts : ToldValue). ts ++ second.0) first.1 ∙ append_assoc before first.0 second.0)

entry_of : (told : ToldValue) (names : List Name) (n : ℕ) → IsAt told names n → (e : Entry) × (slice_get told n ≡ Some e) × (e.0.now ≡ names)
entry_of told names n at = entry_seen (λ (e : Entry). e.0.now) told n names (slice_get-map (λ (e : Entry). e.0.now) told n ∙ at)

pub still_at : (before after : ToldValue) (names : List Name) (n : ℕ) → AreKept before after → IsAt before names n → IsAt after names n
still_at before after names n kept at =
    let low = slice_get_within before n (entry_of before names n at).0 (entry_of before names n at).1 in
    rw (kept.1, in_front before kept.0 n low) at

pub still_all : (before after : ToldValue) (items : List TypedValue) (numbers : List ℕ) → AreKept before after → AreAt before items numbers → AreAt after items numbers
still_all before after [] [] kept are = tt
still_all before after [] (n ∷ numbers) kept are = are
still_all before after (x ∷ items) [] kept are = are
still_all before after (x ∷ items) (n ∷ numbers) kept are = (still_at before after x.of n kept are.0, still_all before after items numbers kept are.1)

-- so it is with the slots of a table
pub slots_still : {A B : Type 0} (before after : ToldValue) (rows : Rows A B) → AreKept before after → AreSlotsAt before rows → AreSlotsAt after rows
slots_still before after rows kept =
    All-weaker (λ e. IsSlotsAt before e.1) (λ e. IsSlotsAt after e.1) (λ e. still_all before after (map typed_view e.1.parameters.now) e.1.numbers.items kept) rows

-- ---- tests of names

-- where all pass, none is left that fails
all_pass : (q : Name → Bool) (names : List Name) → list_all q names ≡ true → filter (λ n. not (q n)) names ≡ []
all_pass q [] h = refl
all_pass q (n ∷ names) h = grind (arith, all_pass q names)

pass_all : (q : Name → Bool) (names : List Name) → filter (λ n. not (q n)) names ≡ [] → list_all q names ≡ true
pass_all q [] h = refl
pass_all q (n ∷ names) h = grind (arith, pass_all q names)

-- ---- a type of a number

module _ {t : TypesValue} {told : ToldValue} (are : AreTold t told) where
  each_of : (n : ℕ) (e : Entry) → slice_get told n ≡ Some e → IsTold t e.0.now e.1 × IsTrue (are_types t.declared e.0.now)
  each_of n e there = All-contains (λ (d : Entry). IsTold t d.0.now d.1 × IsTrue (are_types t.declared d.0.now)) told e are.each (at_place told n e there)

  -- its tops stand there, and its primitives are types
  pub tops_there : (names : List Name) (n : ℕ) → IsAt told names n → IsTold t names (tops_at told n) × IsTrue (are_types t.declared names)
  tops_there names n at = let (e, there, is) = entry_of told names n at in rw (← is, there) (each_of n e there)

  -- so none is unknown
  pub none_unknown : (names : List Name) (n : ℕ) → IsAt told names n → filter (λ m. not (is_in (types_of t.declared) m)) names ≡ []
  none_unknown names n at = all_pass (is_in (types_of t.declared)) names (tops_there names n at).1

  -- the tops of any number are apart
  pub apart_there : (n : ℕ) → AreApart (tops_at told n)
  apart_there n = one (slice_get told n) refl
    where
      one : (o : Option Entry) → slice_get told n ≡ o → AreApart (tops_at told n)
      one None none = rw none (record { own = λ i low. absurd (omega (arith, low)); behind = λ i j less low. absurd (omega (arith, low)) })
      one (Some e) there = rw there (each_of n e there).0.tops_are.apart

  pub apart_read : (n : ℕ) (e : Entry) → Some e ≡ slice_get told n → AreApart e.1
  apart_read n e is = (each_of n e (sym is)).0.tops_are.apart

  -- where tops decide, those of two numbers do
  pub decided_there :
      ((types slot : List Name) (first second : List Span) → IsTold t types first → IsTold t slot second → IsTrue (are_types t.declared types) → hold_all second first ≡ fits (pairs t.declared) types slot)
      → (number slot : ℕ) (of to : List Name) → IsAt told of number → IsAt told to slot → hold_all (tops_at told slot) (tops_at told number) ≡ fits (pairs t.declared) of to
  decided_there decide number slot of to at there = let (own, known) = tops_there of number at in decide of to (tops_at told number) (tops_at told slot) own (tops_there to slot there).0 known

-- tops that are read are those of their number
pub tops_read : (told : ToldValue) (n : ℕ) (e : Entry) → Some e ≡ slice_get told n → (n < length told) × (e.1 ≡ tops_at told n)
tops_read told n e is = (slice_get_within told n e (sym is), rw (← is) refl)

-- where none are read, no type has the number
pub none_there : (told : ToldValue) (n : ℕ) (names : List Name) → None ≡ slice_get told n → IsAt told names n → ⊥
none_there told n names none at = cc (rw (← none) at at)

-- ---- types are the same where their numbers are

module _ (told : ToldValue) (once : AreDistinct told) where
  number_is : (names : List Name) (i : ℕ) → IsAt told names i → position_or_len (λ k. same_names names k.now) (keys_of told) ≡ i
  number_is names i at =
      let (e, here, is) = entry_of told names i at in
      rw (← is) (or_len-first (same_keys e.0) told i (own_first same_keys (on_equiv (λ (k : Bor (List Name)). k.now) (lists_equiv nat_list_eq_equiv)) told i e.0 e.1 once here))

  pub one_number : (names others : List Name) (i j : ℕ) → IsAt told names i → IsAt told others j → (i == j) ≡ same_names names others
  one_number names others i j at also =
      let decided = pointwise_decides bytes_decides names others in
      both_ways (i == j) (same_names names others)
      (λ is. decided.1 (same_Some names others (sym at ∙ ap (λ n. option_map (λ (e : Entry). e.0.now) (slice_get told n)) (eqb-true i j is) ∙ also)))
      (λ is. eq-eqb i j (sym (number_is names i at) ∙ ap (λ ns. position_or_len (λ (k : Bor (List Name)). same_names ns k.now) (keys_of told)) (decided.0 is) ∙ number_is others j also))

-- ---- a type fits itself

pub own_fits : (ps : List TypeValue) (told : ToldValue) (number : ℕ) (of to : List Name) → IsAt told of number → IsAt told to number → true ≡ fits ps of to
own_fits ps told number of to at there =
    sym (found_all (λ n. list_any (is_under ps n) to) of (λ n c.
    found_any (is_under ps n) to n (subst (λ ns. Contains ns n) (same_Some of to (sym at ∙ there)) c) (under_found ps n n (itself refl))))

-- ---- a type is told

-- the type that was looked for is that of the number which it was found at
pub found_there : (told : ToldValue) (k : Bor (List Name)) (n : ℕ) → Some n ≡ position (same_keys k) (keys_of told) → IsAt told k.now n
found_there told k n found =
    let (e, at, same) = entry_found (same_keys k) told n (sym found) in rw at (ap Some (sym ((pointwise_decides bytes_decides k.now e.0.now).0 same)))

-- one that is not there comes last, where its tops could be made
pub told_put : {t : TypesValue} {told next : ToldValue} (k : Bor (List Name)) (made : Result (List Span) LinkFault) (r : Result ℕ LinkFault) → AreTold t told → None ≡ position (same_keys k) (keys_of told)
    → IfOk made (IsTold t k.now) → Passes 23 (filter (λ n. not (is_in (types_of t.declared) n)) k.now) made → OnOk r (AreDistinct next) → IfOk r (λ place. (place ≡ position_or_len (same_keys k) (keys_of told)) × (place < 2 ^ 63))
    → MatchResult made (λ tops. MatchResult r (λ _. MatchOption (position (same_keys k) (keys_of told)) (next ≡ told ++ (k, tops) ∷ []) (λ _. next ≡ told)) (λ fault. (next ≡ told) × (fault ≡ Memory)))
    (λ fault. (next ≡ told) × (r ≡ Err fault)) → AreKept told next × AreTold t next × Passes 23 (filter (λ n. not (is_in (types_of t.declared) n)) k.now) r × IfOk r (IsAt next k.now)
told_put {told = told} k (Err f) r are none tell known once place put = rw (put.0, put.1) (kept_self told, are, known, tt)
told_put {told = told} k (Ok tops) (Err e) are none tell known once place put = rw (put.0, put.1) (kept_self told, are, tt, tt)
told_put {t} {told} k (Ok tops) (Ok n) are none tell known once place put =
    let last = rw (← none) at put in
    let absent = Missing-position (same_keys k) told (sym none) in (
      ((k, tops) ∷ [], last),
      record {
        once = once;
        each = rw last (All-push (λ (e : Entry). IsTold t e.0.now e.1 × IsTrue (are_types t.declared e.0.now)) told (k, tops) are.each (tell, pass_all (is_in (types_of t.declared)) k.now known));
      },
      known,
      rw (last, place.0, or_len-absent (same_keys k) told absent.absent) (ap (option_map (λ (e : Entry). e.0.now)) (at_end told (k, tops))),
    )

-- ---- types of so many items

-- the number of the type of an item
pub number_at : (told : ToldValue) (items : List TypedValue) (numbers : List ℕ) (i d : ℕ) (x : TypedValue) → AreAt told items numbers → slice_get items i ≡ Some x
    → IsAt told x.of (get_or numbers i d)
number_at told items numbers i d x are at =
    let low : i < length numbers = omega (arith, slice_get_within items i x at, AllZip-long _ items numbers are) in
    rw (at, slice_get-get_or numbers i d low) at (AllZip-left (λ (y : TypedValue). IsAt told y.of) items numbers are i)

-- with the next one
pub told_next : (told new : ToldValue) (list : List TypedValue) (count next : ℕ) (numbers : List ℕ) (x : TypedValue) → AreAt told (take count list) numbers → AreKept told new → slice_get list count ≡ Some x
    → IsAt new x.of next → AreAt new (take (count + 1) list) (numbers ++ next ∷ [])
told_next told new list count next numbers x are kept at is =
    rw (take_more list count x (slice_get_within list count x at), get_or_from_slice_get list count x x at)
    (all_zipped_more (λ (y : TypedValue). IsAt new y.of) (take count list) numbers x next (still_all told new (take count list) numbers kept are) is)

-- ---- tables of what fits

-- the same two numbers
abbrev same_pair : ℕ × ℕ → ℕ × ℕ → Bool
same_pair p q = (p.0 == q.0) && (p.1 == q.1)

-- with what is found of one pair more
pub fitting_more : (told : ToldValue) (table new : List ((ℕ × ℕ) × Bool)) (k : ℕ × ℕ) (found : Bool) → AreFitting told table
    → ((p : ℕ × ℕ) → lookup (same_pair p) new ≡ cond (same_pair k p) (Some found) (lookup (same_pair p) table)) → IsFit told k found → AreFitting told new
fitting_more told table new k found are put fit p other at =
    (grind (arith, nat_tests, put p, at, are p other, fit.0), grind (arith, nat_tests, put p, at, are p other, fit.1), grind (arith, nat_tests, put p, at, are p other, fit.2))

-- while more types are told
pub fitting_kept : (before after : ToldValue) (table : List ((ℕ × ℕ) × Bool)) → AreKept before after → AreFitting before table → AreFitting after table
fitting_kept before after table kept are p fit at =
    let (first, second, is) = are p fit at in
    let more = length-append before kept.0 in
    rw (kept.1, in_front before kept.0 p.0 first, in_front before kept.0 p.1 second) (omega (arith, first, more), omega (arith, second, more), is)
