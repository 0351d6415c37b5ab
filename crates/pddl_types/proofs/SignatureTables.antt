-- Tables of what is declared, as it is put into them one after another, and the types of parameters.
use Rattle.std.proofs.Common.{◌≡◌, ℕ, ◌==◌, true, false, not, length, MatchOption, List, [], ◌∷◌, ◌++◌, map, Option, Some, None, refl, ap, sym, ◌∙◌, bytes_eq, append_assoc, arith, is_some, slice_get, Bor, IsSomeAnd, Vec}
use Rattle.std.proofs.lemmas.Bool.Decides.{nat_tests}
use Rattle.std.proofs.lemmas.List.{map-append}
use Rattle.std.proofs.lemmas.List.Elements.{All-push}
use Rattle.std.proofs.lemmas.List.Folds.{find-append}
use Rattle.std.proofs.lemmas.Slice.Zip.{AllZip-left}
use Rattle.indexmap.specs.IndexMap.{IndexMap, index_of, insert_index}
use Rattle.indexmap.proofs.MapLemmas.{Found-position, Missing-position, or_len-absent, some_index}
use Rattle.pddl_formula.specs.TypedLists.{TypedValue, typed_view}
use Rattle.pddl_domain.specs.Actions.{ActionValue}
use Rattle.pddl_domain.specs.Declarations.{Signature}
use Rattle.pddl_task.specs.Names.{Name, is_in, word_if, repeated}
use Rattle.pddl_task.specs.Settings.{symbol_of}
use Rattle.pddl_task.proofs.Lists.{append-none, bytes_same, nil_parts}
use Rattle.pddl_types.specs.KnownNames.{signature_in}
use Rattle.pddl_types.specs.Told.{ToldValue, IsAt, AreAt, AreKept}
use Rattle.pddl_types.specs.Signatures.{Rows, IsSlotsAt, signature_among, AreFirst, HaveFirst, HaveSignatures}
use Rattle.pddl_types.specs.Known.{AreParametersAt}
use Rattle.pddl_types.specs.declared.signatures.Slots.{Slots}
use Rattle.pddl_types.proofs.Lookups.{is_symbol}
use Rattle.pddl_types.proofs.ToldTypes.{still_all, slots_still}

pub none_found : {X : Type 0} (o : Option X) → is_some o ≡ false → o ≡ None
none_found None h = refl
none_found (Some x) h = cc

-- names, each that stands before it too, with one name more
pub repeated_more : (before names : List Name) (n : Name) → repeated before (names ++ n ∷ []) ≡ repeated before names ++ word_if (is_in (before ++ names) n) n
repeated_more before [] n = simp append-none
repeated_more before (m ∷ names) n = simp (append_assoc, repeated_more (before ++ m ∷ []) names n)

-- a name has a signature where it is one of the names
pub is_among : (gs : List Signature) (n : Name) → is_some (signature_among gs n) ≡ is_in (map symbol_of gs) n
is_among [] n = refl
is_among (g ∷ gs) n = grind (arith, is_among gs n)

-- ---- what is seen of signatures is held of them, and so with one more

module _ {held seen : List Signature} (are : AreFirst held seen) (g : Signature) where
  -- where it is put there
  first_more : AreFirst (held ++ g ∷ []) (seen ++ g ∷ [])
  first_more = record {
    first = λ n. simp (find-append, are.first n);
    all = λ once. grind (arith, nil_parts, repeated_more [] (map symbol_of seen) g.name, are.all, rw map-append at once);
  }

  -- or not, as its name was seen
  first_still : is_in (map symbol_of seen) g.name ≡ true → AreFirst held (seen ++ g ∷ [])
  first_still old = record {
    first = λ n.
        let there = λ (is : bytes_eq n g.name ≡ true). is_among seen n ∙ ap (is_in (map symbol_of seen)) (bytes_same n g.name is) ∙ old in
        grind (arith, are.first n, find-append (λ s. bytes_eq n s.name) seen (g ∷ []), there);
    all = λ once. grind (arith, nil_parts, repeated_more [] (map symbol_of seen) g.name, old, rw map-append at once);
  }

-- ---- what is declared

-- it is held while more is told
pub have_still : {A B : Type 0} {before after : ToldValue} {rows : Rows A B} {gs : List Signature} → AreKept before after → HaveFirst before rows gs → HaveFirst after rows gs
have_still {before = before} {after} {rows} kept have = record { first = have.first; slots = slots_still before after rows kept have.slots }

-- all are held where no name stands twice
pub have_all : {A B : Type 0} {told : ToldValue} {rows : Rows A B} {gs : List Signature} → repeated [] (map symbol_of gs) ≡ [] → HaveFirst told rows gs → HaveSignatures told rows gs
have_all once have = record { signatures_are = have.first.all once; slots = have.slots }

-- one more is put into a table
module _ {A B S : Type 0} (m : IndexMap (Bor (List ℕ)) (Slots A B) S) {before after : ToldValue} (kept : AreKept before after) (seen : List Signature) (have : HaveFirst before m.entries seen)
    (g : Signature) (k : Bor (List ℕ)) (name : k.now ≡ g.name) where
  -- a name is in it where it was seen
  seen_there : (place : Option ℕ) → place ≡ index_of (λ a b. bytes_eq a.now b.now) m k → is_in (map symbol_of seen) g.name ≡ is_some place
  seen_there place is =
      rw (← name)
      (cc (is_among seen k.now, have.first.first k.now, is_among (map signature_in m.entries) k.now, is_symbol m.entries k.now, is, some_index (λ j. bytes_eq k.now j.now) m.entries))

  -- a new name comes last, and its place is not among those before
  pub put_where_new : (v : Slots A B) (next : Rows A B) (place : ℕ) (o : Option ℕ) → o ≡ index_of (λ a b. bytes_eq a.now b.now) m k → place ≡ insert_index (λ a b. bytes_eq a.now b.now) m k
      → MatchOption o (next ≡ m.entries ++ (k, v) ∷ []) (λ _. next ≡ m.entries) → (map typed_view v.parameters.now ≡ g.parameters) × AreAt after g.parameters v.numbers.items
      → (is_in (map symbol_of seen) g.name ≡ not (place == length m.entries)) × HaveFirst after next (seen ++ g ∷ [])
  put_where_new v next place (Some i) is at put made =
      let there = seen_there (Some i) is in
      let found = Found-position (λ j. bytes_eq k.now j.now) m.entries i (sym is) in
      (there ∙ grind (arith, nat_tests, at, found.or_len, found.within), rw put (record { first = first_still have.first g there; slots = (have_still kept have).slots }))
  put_where_new v next place None is at put made =
      let absent = (Missing-position (λ j. bytes_eq k.now j.now) m.entries (sym is)).absent in
      let own : signature_in (k, v) ≡ g = rw (name, made.0) refl in (
        seen_there None is ∙ grind (arith, nat_tests, at, or_len-absent (λ j. bytes_eq k.now j.now) m.entries absent),
        rw put (record {
          first = rw (map-append, own) (first_more have.first g);
          slots = All-push (λ e. IsSlotsAt after e.1) m.entries (k, v) (have_still kept have).slots (rw made.0 made.1);
        }),
      )

-- ---- the types of the parameters of actions

-- they are told still while more is told
pub parameters_still : {B : Type 0} (before after : ToldValue) (acts : List ActionValue) (rows : List (Vec ℕ B)) → AreKept before after → AreParametersAt before acts rows → AreParametersAt after acts rows
parameters_still before after [] [] kept are = tt
parameters_still before after [] (r ∷ rows) kept are = are
parameters_still before after (a ∷ acts) [] kept are = are
parameters_still before after (a ∷ acts) (r ∷ rows) kept are = (still_all before after a.parameters r.items kept are.0, parameters_still before after acts rows kept are.1)

module _ {B : Type 0} (told : ToldValue) (acts : List ActionValue) (rows : List (Vec ℕ B)) (are : AreParametersAt told acts rows) (i j : ℕ) (a : ActionValue) (x : TypedValue)
    (here : slice_get acts i ≡ Some a) (there : slice_get a.parameters j ≡ Some x) where
  row_there : IsSomeAnd (slice_get rows i) (λ r. AreAt told a.parameters r.items)
  row_there = rw here at (AllZip-left (λ b (r : Vec ℕ B). AreAt told b.parameters r.items) acts rows are i)

  pub some_row : slice_get rows i ≡ None → ⊥
  some_row none = rw none at row_there

  -- the type of each of them has a number
  pub number_there : (row : Vec ℕ B) → slice_get rows i ≡ Some row → IsSomeAnd (slice_get row.items j) (IsAt told x.of)
  number_there row at = rw there at (AllZip-left (λ (y : TypedValue). IsAt told y.of) a.parameters row.items (rw at at row_there) j)
