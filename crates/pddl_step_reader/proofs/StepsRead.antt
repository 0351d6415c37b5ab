-- Steps read word by word.
use Rattle.std.proofs.Common.{◌≡◌, ◌<◌, ◌≤◌, ◌+◌, ℕ, List, [], ◌∷◌, ◌++◌, length, map, take, drop, refl, sym, ap, subst, ◌∙◌, arith, inl, inr}
use Rattle.std.specs.Prelude.{◌≢◌, Option, Some, None, IfSome, slice_get}
use Rattle.std.proofs.lemmas.Option.{get_or_from_slice_get}
use Rattle.std.proofs.lemmas.List.{append_assoc, map_push, map-append, length-append, take-append-le, take-append-drop, drop-append-le, take_all, take_more, drop_all}
use Rattle.pddl_token.specs.declared.token.TokenKind.TheVariants.{Open, Close, Name}
use Rattle.pddl_token.specs.Spelling.{PlacedWord}
use Rattle.pddl_token.specs.Trees.{Tree, Placed, placed_leaf, placed_node, placed_of, list_of, erased, all_erased}
use Rattle.pddl_text.specs.Lists.{span_over, AreItems, none, plain, nested}
use Rattle.pddl_text.proofs.Nests.{items_append}
use Rattle.pddl_step_reader.specs.declared.plan_words.Place.{Place}
use Rattle.pddl_step_reader.specs.declared.plan_words.Place.TheVariants.{Between, Moment, Colon, Inside, Lost}
use Rattle.pddl_token.specs.Names.{name_of}
use Rattle.pddl_plan.specs.Building.{Building, ended, ended_at}
use Rattle.pddl_plan.specs.Plans.{StepValue, TimedValue, step_of_names, IsStep, IsTimed, AreTimed, steps_built, timed_built}
use Rattle.pddl_token.specs.TreeWords.{SpellsName, Each}
use Rattle.pddl_step_reader.specs.Inner.StepWords.{AreNames, AreBuilt, AreStepWords, ReadsTo, ReadsOn, ReadsWords, HasMoved}
use Rattle.pddl_step_reader.proofs.BuiltSteps.{plain_pushed, moment_pushed, moments_pushed}
use Rattle.pddl_plan.proofs.GotNames.{GotName}
use Rattle.pddl_items.proofs.Readers.{name_of_some}

-- ---- names

names_push : (names : List (List ℕ)) (words : List PlacedWord) (name : List ℕ) (w : PlacedWord) → AreNames names words → SpellsName name (erased (placed_leaf w)) → AreNames (names ++ name ∷ []) (words ++ w ∷ [])
names_push [] [] name w named here = (here, tt)
names_push [] (v ∷ words) name w bad here = absurd bad
names_push (n ∷ names) [] name w bad here = absurd bad
names_push (n ∷ names) (v ∷ words) name w (first, rest) here = (first, names_push names words name w rest here)

names_form : (names : List (List ℕ)) (words : List PlacedWord) → AreNames names words → AreItems 127 words (map placed_leaf words)
names_form [] [] named = none
names_form [] (w ∷ words) bad = absurd bad
names_form (name ∷ names) [] bad = absurd bad
names_form (name ∷ names) (w ∷ words) (first, rest) = plain w (λ e. absurd (cc (first.1.0, e))) (λ e. absurd (cc (first.1.0, e))) (names_form names words rest)

names_named : (names : List (List ℕ)) (words : List PlacedWord) → AreNames names words → Each SpellsName names (list_of (all_erased (placed_of (map placed_leaf words))))
names_named [] [] named = tt
names_named [] (w ∷ words) bad = absurd bad
names_named (name ∷ names) [] bad = absurd bad
names_named (name ∷ names) (w ∷ words) (first, rest) = (first, names_named names words rest)

-- ---- the list of a step

-- the item from an opening to a closing, with names between
abbrev step_item : PlacedWord → List PlacedWord → PlacedWord → Placed
step_item opening inner closing = placed_node (span_over opening closing) (placed_of (map placed_leaf inner))

module _ (names : List (List ℕ)) (opening closing : PlacedWord) (inner : List PlacedWord) (is_open : opening.kind ≡ Open) (is_close : closing.kind ≡ Close) (named : AreNames names inner) where
  step_form : AreItems 128 (opening ∷ (inner ++ closing ∷ [])) (step_item opening inner closing ∷ [])
  step_form = nested {levels = 127} opening closing inner [] (map placed_leaf inner) [] is_open is_close (names_form names inner named) none refl refl

  is_step : 0 < length names → IsStep (step_of_names names) (erased (step_item opening inner closing))
  is_step some = by_names names some named
    where
      by_names : (names : List (List ℕ)) → 0 < length names → AreNames names inner → IsStep (step_of_names names) (erased (step_item opening inner closing))
      by_names [] some named = absurd (omega (arith, some))
      by_names (name ∷ names) some named = names_named (name ∷ names) inner named

-- ---- whole steps

-- names change none of them
pub same_steps : (b new : Building) (words : List PlacedWord) → new.moments ≡ b.moments → new.steps ≡ b.steps → AreStepWords b words → AreStepWords new words
same_steps b new words moments steps are = subst (λ (c : Building). AreStepWords c words) (λ i. record { moments = sym moments i; steps = sym steps i; names = new.names })
    (record { items = are.items; form = are.form; built = are.built })

plain_push : (steps : List StepValue) (ts : List Tree) (step : StepValue) (t : Tree) → Each IsStep steps ts → IsStep step t → Each IsStep (steps ++ step ∷ []) (ts ++ t ∷ [])
plain_push [] [] step t are is = (is, tt)
plain_push [] (u ∷ ts) step t bad is = absurd bad
plain_push (s ∷ steps) [] step t bad is = absurd bad
plain_push (s ∷ steps) (u ∷ ts) step t (first, rest) is = (first, plain_push steps ts step t rest is)

timed_push : (steps : List TimedValue) (ts : List Tree) (s : TimedValue) (number colon t : Tree) → AreTimed steps ts → IsTimed s number colon t → AreTimed (steps ++ s ∷ []) (ts ++ number ∷ colon ∷ t ∷ [])
timed_push [] [] s number colon t are is = (is, tt)
timed_push (r ∷ steps) (n ∷ c ∷ u ∷ ts) s number colon t (first, rest) is = (first, timed_push steps ts s number colon t rest is)
timed_push [] (n ∷ ts) s number colon t bad is = absurd bad
timed_push (r ∷ steps) [] s number colon t bad is = absurd bad
timed_push (r ∷ steps) (n ∷ []) s number colon t bad is = absurd bad
timed_push (r ∷ steps) (n ∷ c ∷ []) s number colon t bad is = absurd bad

pub no_elements : {A : Type 0} (xs : List A) → length xs ≡ 0 → xs ≡ []
no_elements [] e = refl
no_elements (x ∷ xs) e = absurd (omega (arith, e))

-- steps of which none has a moment are plain
plain_so_far : (b : Building) (items : List Placed) → b.moments ≡ [] → AreBuilt b items → Each IsStep (steps_built b) (map erased items)
plain_so_far b items empty (inl are) = are.1
plain_so_far b items empty (inr are) = absurd (omega (arith, ap length empty, are.0, are.1))

-- steps of which each has a moment are timed
timed_so_far : (b : Building) (items : List Placed) → length b.moments ≡ length b.steps → AreBuilt b items → AreTimed (timed_built b) (map erased items)
timed_so_far b items same (inr are) = are.2
timed_so_far b items same (inl are) = by_steps b.steps b.moments (omega (arith, ap length are.0, same)) are.0 are.1
  where
    no_trees : (ts : List Tree) → Each IsStep [] ts → AreTimed [] ts
    no_trees [] are = tt
    no_trees (t ∷ ts) bad = absurd bad

    by_steps : (steps : List (List (List ℕ))) (moments : List ℕ) → length steps ≡ 0 → moments ≡ [] → Each IsStep (map step_of_names steps) (map erased items) → AreTimed (timed_built (record { moments = moments; steps = steps; names = [] })) (map erased items)
    by_steps [] moments e empty are = rw empty (no_trees (map erased items) are)
    by_steps (s ∷ steps) moments e empty are = absurd (omega (arith, e))

-- ---- one word more

module _ (b : Building) (done kept : List PlacedWord) (w : PlacedWord) where
  pub name_read : (moment : Option ℕ) (new : Building) → w.kind ≡ Name → GotName (name_of w.text) b new → ReadsTo (Inside moment) b done kept → ReadsTo (Inside moment) new done (kept ++ w ∷ [])
  name_read moment new is got reads =
      let inside = reads.rest in
      let name = name_of_some w.text got.name got.some in
      record {
        steps = same_steps b new done got.moments got.steps reads.steps;
        rest = record {
          front = inside.front;
          opening = inside.opening;
          inner = inside.inner ++ w ∷ [];
          words_are = ap (λ (t : List PlacedWord). t ++ w ∷ []) inside.words_are ∙ append_assoc inside.front (inside.opening ∷ inside.inner) (w ∷ []);
          is_front = inside.is_front;
          is_opening = inside.is_opening;
          named = subst (λ (ns : List (List ℕ)). AreNames ns (inside.inner ++ w ∷ [])) (sym got.names) (names_push b.names inside.inner got.name w inside.named (name.0, (is, name.1)));
        };
      }

  pub plain_ended : (new : Building) → w.kind ≡ Close → b.moments ≡ [] → 0 < length b.names → new ≡ ended b → ReadsTo (Inside None) b done kept → ReadsTo Between new (done ++ (kept ++ w ∷ [])) []
  plain_ended new is empty some new_is reads =
      let inside = reads.rest in
      let before = reads.steps in
      let item : Placed = step_item inside.opening inside.inner w in
      let words : List PlacedWord = inside.opening ∷ (inside.inner ++ w ∷ []) in
      let words_are : kept ++ w ∷ [] ≡ words = ap (λ (t : List PlacedWord). t ++ w ∷ []) (inside.words_are ∙ ap (λ (t : List PlacedWord). t ++ inside.opening ∷ inside.inner) inside.is_front) in
      let form : AreItems 128 (done ++ words) (before.items ++ item ∷ []) = items_append before.form words (item ∷ []) (step_form b.names inside.opening w inside.inner inside.is_opening is inside.named) in
      let are : Each IsStep (steps_built b ++ step_of_names b.names ∷ []) (map erased before.items ++ erased item ∷ []) =
      plain_push (steps_built b) (map erased before.items) (step_of_names b.names) (erased item) (plain_so_far b before.items empty before.built) (is_step b.names inside.opening w inside.inner inside.is_opening is inside.named some) in
      record {
        steps = record {
          items = before.items ++ item ∷ [];
          form = subst (λ (t : List PlacedWord). AreItems 128 (done ++ t) (before.items ++ item ∷ [])) (sym words_are) form;
          built = inl (
            ap (λ (c : Building). c.moments) new_is ∙ empty,
            subst (λ (ss : List StepValue). Each IsStep ss (map erased (before.items ++ item ∷ []))) (sym (plain_pushed b b new refl new_is)) (subst (Each IsStep (steps_built b ++ step_of_names b.names ∷ [])) (sym (map_push erased before.items item)) are),
          );
        };
        rest = (ap (λ (c : Building). c.names) new_is, refl);
      }

  pub timed_ended : (moment : ℕ) (new : Building) → w.kind ≡ Close → length b.moments ≡ length b.steps → 0 < length b.names → new ≡ ended_at moment b → ReadsTo (Inside (Some moment)) b done kept → ReadsTo Between new (done ++ (kept ++ w ∷ [])) []
  timed_ended moment new is same some new_is reads =
      let inside = reads.rest in
      let front = inside.is_front in
      let before = reads.steps in
      let item : Placed = step_item inside.opening inside.inner w in
      let number : Placed = placed_leaf front.number in
      let colon : Placed = placed_leaf front.colon in
      let step : TimedValue = record { moment = moment; step = step_of_names b.names } in
      let words : List PlacedWord = front.number ∷ front.colon ∷ (inside.opening ∷ (inside.inner ++ w ∷ [])) in
      let words_are : kept ++ w ∷ [] ≡ words = ap (λ (t : List PlacedWord). t ++ w ∷ []) (inside.words_are ∙ ap (λ (t : List PlacedWord). t ++ inside.opening ∷ inside.inner) front.words_are) in
      let here : AreItems 128 words (number ∷ colon ∷ item ∷ []) =
      plain front.number (λ e. absurd (cc (front.is_number, e))) (λ e. absurd (cc (front.is_number, e)))
      (plain front.colon (λ e. absurd (cc (front.is_colon, e))) (λ e. absurd (cc (front.is_colon, e))) (step_form b.names inside.opening w inside.inner inside.is_opening is inside.named)) in
      let form : AreItems 128 (done ++ words) (before.items ++ number ∷ colon ∷ item ∷ []) = items_append before.form words (number ∷ colon ∷ item ∷ []) here in
      let are : AreTimed (timed_built b ++ step ∷ []) (map erased before.items ++ erased number ∷ erased colon ∷ erased item ∷ []) =
      timed_push (timed_built b) (map erased before.items) step (erased number) (erased colon) (erased item) (timed_so_far b before.items same before.built)
      ((front.is_number, front.value), front.is_colon, is_step b.names inside.opening w inside.inner inside.is_opening is inside.named some) in
      let many = moments_pushed b b new moment same refl refl new_is in
      record {
        steps = record {
          items = before.items ++ number ∷ colon ∷ item ∷ [];
          form = subst (λ (t : List PlacedWord). AreItems 128 (done ++ t) (before.items ++ number ∷ colon ∷ item ∷ [])) (sym words_are) form;
          built = inr (
            many,
            omega (arith, ap (λ (c : Building). length c.steps) new_is, length-append b.steps (b.names ∷ [])),
            subst (λ (ss : List TimedValue). AreTimed ss (map erased (before.items ++ number ∷ colon ∷ item ∷ []))) (sym (moment_pushed b b new moment same refl refl new_is))
                (subst (AreTimed (timed_built b ++ step ∷ [])) (sym (map-append erased before.items (number ∷ colon ∷ item ∷ []))) are),
          );
        };
        rest = (ap (λ (c : Building). c.names) new_is, refl);
      }

-- ---- words in turn

-- the step from one place to the next, whatever was kept
abbrev GoesOn : Place → Place → Building → Building → PlacedWord → Type 0
GoesOn place next b new w = (done kept : List PlacedWord) → ReadsTo place b done kept → ReadsOn next new done (kept ++ w ∷ [])

module _ (place : Place) (b new : Building) (done kept words : List PlacedWord) (w : PlacedWord) where
  -- the step goes on
  kept_on : (count : Option ℕ) (next : Place) → IfSome count (λ n. n ≤ length words) → ((done kept : List PlacedWord) → ReadsTo place b done kept → ReadsTo next new done (kept ++ w ∷ []))
      → ReadsWords count place b done kept words → ReadsWords count next new done kept (words ++ w ∷ [])
  kept_on None next in_range on reads = subst (ReadsTo next new done) (append_assoc kept words (w ∷ [])) (on done (kept ++ words) reads)
  kept_on (Some n) next in_range on reads =
      rw (take-append-le n words (w ∷ []) in_range, drop-append-le n words (w ∷ []) in_range) (on (done ++ (kept ++ take n words)) (drop n words) reads)

  -- the step ends
  all_ended : (count : Option ℕ) → ((done kept : List PlacedWord) → ReadsTo place b done kept → ReadsTo Between new (done ++ (kept ++ w ∷ [])) [])
      → ReadsWords count place b done kept words → ReadsTo Between new (done ++ (kept ++ (words ++ w ∷ []))) []
  all_ended None on reads = subst (λ (t : List PlacedWord). ReadsTo Between new (done ++ t) []) (append_assoc kept words (w ∷ [])) (on done (kept ++ words) reads)
  all_ended (Some n) on reads =
      let regroup : (done ++ (kept ++ take n words)) ++ (drop n words ++ w ∷ []) ≡ done ++ (kept ++ (words ++ w ∷ [])) =
      append_assoc done (kept ++ take n words) (drop n words ++ w ∷ [])
      ∙ ap (λ (t : List PlacedWord). done ++ t) (append_assoc kept (take n words) (drop n words ++ w ∷ [])
      ∙ ap (λ (t : List PlacedWord). kept ++ t) (sym (append_assoc (take n words) (drop n words) (w ∷ [])) ∙ ap (λ (t : List PlacedWord). t ++ w ∷ []) (take-append-drop n words))) in
      subst (λ (t : List PlacedWord). ReadsTo Between new t []) regroup (on (done ++ (kept ++ take n words)) (drop n words) reads)

  pub word_on : (count after : Option ℕ) (next : Place) → IfSome count (λ n. n ≤ length words) → GoesOn place next b new w → (next ≡ Between → after ≡ Some (length words + 1)) → (next ≢ Between → after ≡ count)
      → ReadsWords count place b done kept words → ReadsWords after next new done kept (words ++ w ∷ [])
  word_on count after Between in_range on ends keeps reads =
      let size : length words + 1 ≡ length (words ++ w ∷ []) = omega (arith, length-append words (w ∷ [])) in
      rw (ends refl, size, take_all (length (words ++ w ∷ [])) (words ++ w ∷ []) (omega arith), drop_all (length (words ++ w ∷ [])) (words ++ w ∷ []) (omega arith)) (all_ended count on reads)
  word_on count after (Moment moment) in_range on ends keeps reads = rw (keeps (λ e. absurd (cc (e)))) (kept_on count (Moment moment) in_range on reads)
  word_on count after (Colon moment) in_range on ends keeps reads = rw (keeps (λ e. absurd (cc (e)))) (kept_on count (Colon moment) in_range on reads)
  word_on count after (Inside moment) in_range on ends keeps reads = rw (keeps (λ e. absurd (cc (e)))) (kept_on count (Inside moment) in_range on reads)
  word_on count after Lost in_range on ends keeps reads = rw (keeps (λ e. absurd (cc (e)))) (kept_on count Lost in_range on reads)

-- how many were read when a step was last ended
pub ended_before : (o : Option ℕ) (count n : ℕ) → IfSome o (λ m. m < count) → count ≡ n + 1 → IfSome o (λ m. m ≤ n)
ended_before (Some m) count n lt is = omega (arith, lt, is)
ended_before None count n lt is = lt

pub ended_low : (o : Option ℕ) (count : ℕ) → IfSome o (λ m. m < count) → IfSome o (λ m. m ≤ count)
ended_low (Some m) count lt = omega (arith, lt)
ended_low None count lt = lt

pub ended_less : (o : Option ℕ) (n : ℕ) → IfSome o (λ m. m ≤ n) → IfSome o (λ m. m < n + 1)
ended_less (Some m) n le = omega (arith, le)
ended_less None n le = le

-- the words so far, and the next
pub next_word : (words : List PlacedWord) (n : ℕ) (w : PlacedWord) → n < length words → slice_get words n ≡ Some w → take n words ++ w ∷ [] ≡ take (n + 1) words
next_word words n w lt got = ap (λ (v : PlacedWord). take n words ++ v ∷ []) (sym (get_or_from_slice_get words n w w got)) ∙ sym (take_more words n w lt)

-- ---- what is kept

module _ (place : Place) (b : Building) (done kept words new : List PlacedWord) where
  pub none_moved : new ≡ kept ++ words → ReadsTo place b done (kept ++ words) → HasMoved place b (done ++ (kept ++ words)) new
  none_moved new_is reads = record { done = done; all = ap (λ (t : List PlacedWord). done ++ t) new_is; reads = subst (ReadsTo place b done) (sym new_is) reads }

  pub some_moved : (count : ℕ) → new ≡ drop count words → ReadsTo place b (done ++ (kept ++ take count words)) (drop count words) → HasMoved place b (done ++ (kept ++ words)) new
  some_moved count new_is reads = record {
    done = done ++ (kept ++ take count words);
    all = ap (λ (t : List PlacedWord). (done ++ (kept ++ take count words)) ++ t) new_is ∙ append_assoc done (kept ++ take count words) (drop count words)
        ∙ ap (λ (t : List PlacedWord). done ++ t) (append_assoc kept (take count words) (drop count words) ∙ ap (λ (t : List PlacedWord). kept ++ t) (take-append-drop count words));
    reads = subst (ReadsTo place b (done ++ (kept ++ take count words))) (sym new_is) reads;
  }
