-- Items as the code goes over them, and steps read from them.
use Rattle.std.proofs.Common.{◌≡◌, ℕ, ◌+◌, ◌<◌, ◌≤◌, Bool, true, false, List, [], ◌∷◌, ◌++◌, length, get_or, drop, refl, sym, ap, subst, ◌∙◌, arith}
use Rattle.std.specs.Prelude.{Option, Some, None, Result, Ok, Err, is_some, ◌&&◌, option_map}
use Rattle.std.proofs.lemmas.Bool.{cond_both}
use Rattle.std.proofs.lemmas.List.{append-nil, append_assoc, length-append, drop-map, drop-drop, length-map, length-drop}
use Rattle.pddl_items.specs.declared.item.Item.{Item}
use Rattle.pddl_token.specs.Trees.{Placed}
use Rattle.pddl_items.specs.Items.{item_view, items_view, span_of}
use Rattle.pddl_step_reader.specs.declared.fault.ReadFault.{ReadFault}
use Rattle.pddl_plan.specs.Plans.{StepValue, TimedValue, PlanValue, plain, timed, step_of_names}
use Rattle.pddl_plan.specs.NameLists.{AddsName}
use Rattle.pddl_plan.specs.Building.{Building, AddsWord, AddsNames}
use Rattle.pddl_step_reader.specs.Inner.StepNames.{names_of_step, AddsTimed}
use Rattle.pddl_step_reader.specs.Inner.PlanReading.{moment_at, is_colon, timed_span, name_at, names_at, step_of, step_at, is_bracket, no_step, timed_at, plain_fault, timed_fault, is_behind, where_some, plain_from, timed_from, Refuses}
use Rattle.pddl_items.specs.Inner.TreeReading.{both}
use Rattle.pddl_items.proofs.TreeLists.{view_from}
use Rattle.pddl_items.proofs.Fronts.{with_front, front_more, front_none}
use Rattle.pddl_plan.proofs.GotNames.{GotName}

-- ---- names

pub names_on : {A : Type 0} (xs : List (Item A)) (i : ℕ) (d : Item A) (front new : List (List ℕ)) (name : List ℕ) (whole : Option (List (List ℕ))) → i < length xs
    → with_front front (names_at (items_view (drop i xs))) ≡ whole → Some name ≡ name_at (item_view (get_or xs i d)) → new ≡ front ++ name ∷ []
    → with_front new (names_at (items_view (drop (i + 1) xs))) ≡ whole
names_on xs i d front new name whole lt so_far found pushed =
    let rest : Option (List (List ℕ)) = names_at (items_view (drop (i + 1) xs)) in
    ap (λ t. with_front t rest) pushed ∙ front_more front name rest ∙ ap (λ o. with_front front (both o rest)) found
    ∙ ap (λ items. with_front front (names_at items)) (sym (view_from xs i d lt)) ∙ so_far

pub names_stop : {A : Type 0} (xs : List (Item A)) (i : ℕ) (d : Item A) (front : List (List ℕ)) (whole : Option (List (List ℕ))) → i < length xs
    → with_front front (names_at (items_view (drop i xs))) ≡ whole → None ≡ name_at (item_view (get_or xs i d)) → None ≡ whole
names_stop xs i d front whole lt so_far missing =
    let rest : Option (List (List ℕ)) = names_at (items_view (drop (i + 1) xs)) in
    ap (λ o. with_front front (both o rest)) missing ∙ ap (λ items. with_front front (names_at items)) (sym (view_from xs i d lt)) ∙ so_far

-- the names that were added, and the items that are left
pub record NamesSoFar (whole : Option (List (List ℕ))) (rest : List Placed) (old now : Building) : Type 0 where
  pub names : List (List ℕ)
  pub added : now.names ≡ old.names ++ names
  pub read : with_front names (names_at rest) ≡ whole
  pub moments : now.moments ≡ old.moments
  pub steps : now.steps ≡ old.steps

pub no_names_added : (items : List Placed) (b : Building) → NamesSoFar (names_at items) items b b
no_names_added items b = record { names = []; added = sym (append-nil b.names); read = front_none (names_at items); moments = refl; steps = refl }

pub name_added : {A : Type 0} (xs : List (Item A)) (i : ℕ) (d : Item A) (old now new : Building) (whole : Option (List (List ℕ))) → i < length xs
    → NamesSoFar whole (items_view (drop i xs)) old now → GotName (name_at (item_view (get_or xs i d))) now new → NamesSoFar whole (items_view (drop (i + 1) xs)) old new
name_added xs i d old now new whole lt so_far got = record {
  names = so_far.names ++ got.name ∷ [];
  added = got.names ∙ ap (λ (ns : List (List ℕ)). ns ++ got.name ∷ []) so_far.added ∙ append_assoc old.names so_far.names (got.name ∷ []);
  read = names_on xs i d so_far.names (so_far.names ++ got.name ∷ []) got.name whole lt so_far.read (sym got.some) refl;
  moments = got.moments ∙ so_far.moments;
  steps = got.steps ∙ so_far.steps;
}

-- an item that is no name
pub not_added : {A : Type 0} (xs : List (Item A)) (i : ℕ) (d : Item A) (old now new : Building) (whole : Option (List (List ℕ))) (is : Bool) → i < length xs
    → NamesSoFar whole (items_view (drop i xs)) old now → is ≡ false → AddsWord is (name_at (item_view (get_or xs i d))) now new → AddsNames false whole old new
not_added xs i d old now new whole is lt so_far fails adds =
    let missing : None ≡ name_at (item_view (get_or xs i d)) = no_word is (name_at (item_view (get_or xs i d))) fails adds.names in
    subst (λ o. AddsNames false o old new) (names_stop xs i d so_far.names whole lt so_far.read missing)
    (record { moments = adds.moments ∙ so_far.moments; steps = adds.steps ∙ so_far.steps; names = tt })
  where
    no_word : (is : Bool) (o : Option (List ℕ)) → is ≡ false → AddsName is o now.names new.names → None ≡ o
    no_word false None e h = refl
    no_word false (Some n) e h = absurd h
    no_word true o e h = absurd (cc (e))

pub all_names_added : (whole : Option (List (List ℕ))) (rest : List Placed) (old now : Building) → rest ≡ [] → NamesSoFar whole rest old now → AddsNames true whole old now
all_names_added whole rest old now none so_far =
    let read : Some so_far.names ≡ whole = ap Some (sym (append-nil so_far.names)) ∙ ap (λ (r : List Placed). with_front so_far.names (names_at r)) (sym none) ∙ so_far.read in
    subst (λ o. AddsNames true o old now) read (record { moments = so_far.moments; steps = so_far.steps; names = so_far.added })

-- a step that was added
pub record GotStep (o : Option StepValue) (old new : Building) : Type 0 where
  pub step : StepValue
  pub some : Some step ≡ o
  pub names : new.names ≡ old.names ++ names_of_step step
  pub moments : new.moments ≡ old.moments
  pub steps : new.steps ≡ old.steps

pub got_step : (is : Bool) (o : Option StepValue) (old new : Building) → is ≡ true → AddsNames is (option_map names_of_step o) old new → GotStep o old new
got_step true (Some step) old new e adds = record { step = step; some = refl; names = adds.names; moments = adds.moments; steps = adds.steps }
got_step true None old new e adds = absurd adds.names
got_step false o old new e adds = absurd (cc (e))

pub no_step_added : (is : Bool) (o : Option StepValue) (old new : Building) → is ≡ false → AddsNames is (option_map names_of_step o) old new → None ≡ o
no_step_added false None old new e adds = refl
no_step_added false (Some step) old new e adds = absurd adds.names
no_step_added true o old new e adds = absurd (cc (e))

pub step_test : (is : Bool) (o : Option StepValue) (old new : Building) → AddsNames is (option_map names_of_step o) old new → is ≡ is_some o
step_test true (Some step) old new adds = refl
step_test false None old new adds = refl
step_test true None old new adds = absurd adds.names
step_test false (Some step) old new adds = absurd adds.names

-- the names of some items are those of the step that they are
pub step_names : (items : List Placed) → 0 < length items → names_at items ≡ option_map names_of_step (step_of (names_at items))
step_names [] some = absurd (omega (arith, some))
step_names (item ∷ items) some = of_both (name_at item) (names_at items)
  where
    of_both : (o : Option (List ℕ)) (os : Option (List (List ℕ))) → both o os ≡ option_map names_of_step (step_of (both o os))
    of_both None os = refl
    of_both (Some x) None = refl
    of_both (Some x) (Some xs) = refl

-- a timed step that was added
pub record GotTimed (moment : ℕ) (o : Option TimedValue) (old new : Building) : Type 0 where
  pub step : StepValue
  pub some : Some (record { moment = moment; step = step }) ≡ o
  pub names : new.names ≡ old.names ++ names_of_step step
  pub moments : new.moments ≡ old.moments
  pub steps : new.steps ≡ old.steps

pub got_timed : (found : Option ℕ) (moment : ℕ) (o : Option TimedValue) (old new : Building) → found ≡ Some moment → AddsTimed found o old new → GotTimed moment o old new
got_timed (Some m) moment (Some s) old new e adds =
    let same : m ≡ moment = cc (e) in
    record {
      step = s.step;
      some = ap (λ (n : ℕ). Some (record { moment = n; step = s.step })) (sym same ∙ adds.0);
      names = adds.1.names;
      moments = adds.1.moments;
      steps = adds.1.steps;
    }
got_timed (Some m) moment None old new e adds = absurd adds
got_timed None moment o old new e adds = absurd (cc (e))

pub timed_added : (moment : ℕ) (step : StepValue) (o : Option TimedValue) (old new : Building) → o ≡ Some (record { moment = moment; step = step }) → GotStep (Some step) old new → AddsTimed (Some moment) o old new
timed_added moment step o old new is got =
    let same : step ≡ got.step = let e = got.some in cc in
    subst (λ o. AddsTimed (Some moment) o old new) (sym is)
    (refl, record { moments = got.moments; steps = got.steps; names = got.names ∙ ap (λ (s : StepValue). old.names ++ names_of_step s) (sym same) })

-- the first three items are a timed step
pub timed_three : {A : Type 0} (xs : List (Item A)) (d e f : Item A) → 3 ≤ length xs → (moment : ℕ) (step : StepValue) → is_colon (item_view (get_or xs 1 e)) ≡ true
    → moment_at (item_view (get_or xs 0 d)) ≡ Some moment → step_at (item_view (get_or xs 2 f)) ≡ Some step → timed_at (items_view xs) ≡ Some (record { moment = moment; step = step })
timed_three [] d e f le moment step colon at is = absurd (omega (arith, le))
timed_three (x ∷ []) d e f le moment step colon at is = absurd (omega (arith, le))
timed_three (x ∷ y ∷ []) d e f le moment step colon at is = absurd (omega (arith, le))
timed_three (x ∷ y ∷ z ∷ xs) d e f le moment step colon at is = rw (colon, at, is) refl

pub none_timed : (o : Option TimedValue) (old new : Building) → None ≡ o → new.moments ≡ old.moments → new.steps ≡ old.steps → AddsTimed None o old new
none_timed o old new none moments steps = subst (λ o. AddsTimed None o old new) none (moments, steps)

pub no_timed_added : (found : Option ℕ) (o : Option TimedValue) (old new : Building) → found ≡ None → AddsTimed found o old new → None ≡ o
no_timed_added None None old new e adds = refl
no_timed_added None (Some s) old new e adds = absurd adds
no_timed_added (Some m) o old new e adds = absurd (cc (e))

pub timed_kept : (found : Option ℕ) (o : Option TimedValue) (old new : Building) → found ≡ None → AddsTimed found o old new → new.steps ≡ old.steps
timed_kept None None old new e adds = adds.1
timed_kept None (Some s) old new e adds = absurd adds
timed_kept (Some m) o old new e adds = absurd (cc (e))

pub timed_test : (found : Option ℕ) (o : Option TimedValue) (old new : Building) → AddsTimed found o old new → is_some found ≡ is_some o
timed_test (Some m) (Some s) old new adds = refl
timed_test None None old new adds = refl
timed_test (Some m) None old new adds = absurd adds
timed_test None (Some s) old new adds = absurd adds

-- a step that is added is that of its names
pub step_got : {o : Option StepValue} {old new : Building} → old.names ≡ [] → (got : GotStep o old new) → step_of_names new.names ≡ got.step
step_got none got = ap step_of_names (got.names ∙ ap (λ (ns : List (List ℕ)). ns ++ names_of_step got.step) none)

pub some_got : {o : Option StepValue} {old new : Building} → GotStep o old new → 0 < length new.names
some_got {old = old} got = omega (arith, ap length got.names, length-append old.names (names_of_step got.step))

pub timed_got : {moment : ℕ} {o : Option TimedValue} {old new : Building} → old.names ≡ [] → (got : GotTimed moment o old new) → step_of_names new.names ≡ got.step
timed_got none got = ap step_of_names (got.names ∙ ap (λ (ns : List (List ℕ)). ns ++ names_of_step got.step) none)

pub some_timed_got : {moment : ℕ} {o : Option TimedValue} {old new : Building} → GotTimed moment o old new → 0 < length new.names
some_timed_got {old = old} got = omega (arith, ap length got.names, length-append old.names (names_of_step got.step))

-- ---- spans

pub span_over_three : {A : Type 0} (xs : List (Item A)) (d e : Item A) → 3 ≤ length xs
    → timed_span (items_view xs) ≡ record { start = (span_of (item_view (get_or xs 0 d))).start; end = (span_of (item_view (get_or xs 2 e))).end }
span_over_three [] d e le = absurd (omega (arith, le))
span_over_three (x ∷ []) d e le = absurd (omega (arith, le))
span_over_three (x ∷ y ∷ []) d e le = absurd (omega (arith, le))
span_over_three (x ∷ y ∷ z ∷ xs) d e le = refl

-- ---- what is wrong is no fault of a text

refused_no_step : (behind : Bool) (item : Placed) (answer : Result PlanValue ReadFault) → answer ≡ Err (no_step behind item) → Refuses (no_step behind item) answer
refused_no_step behind item answer =
    cond_both (behind && is_bracket item) _ _ (λ f. answer ≡ Err f → Refuses f answer) (λ is e. e) (λ other e. e)

pub refused_plain : (behind : Bool) (items : List Placed) (answer : Result PlanValue ReadFault) → 0 < length items → answer ≡ Err (plain_fault behind items) → Refuses (plain_fault behind items) answer
refused_plain behind [] answer some e = absurd (omega (arith, some))
refused_plain behind (item ∷ items) answer some e =
    cond_both (is_some (timed_at (item ∷ items))) _ _ (λ f. answer ≡ Err f → Refuses f answer) (λ is e. e) (λ other. refused_no_step behind item answer) e

pub refused_timed : (behind : Bool) (items : List Placed) (answer : Result PlanValue ReadFault) → 0 < length items → answer ≡ Err (timed_fault behind items) → Refuses (timed_fault behind items) answer
refused_timed behind [] answer some e = absurd (omega (arith, some))
refused_timed behind (item ∷ items) answer some e =
    cond_both (is_some (step_at item)) _ _ (λ f. answer ≡ Err f → Refuses f answer) (λ is e. e) (λ other. refused_no_step behind item answer) e

-- no timed step stands first, so the fault is that of no step
pub no_timed_first : {A : Type 0} (xs : List (Item A)) (d : Item A) (behind : Bool) (fault : ReadFault) → 1 ≤ length xs → is_some (timed_at (items_view xs)) ≡ false
    → fault ≡ no_step behind (item_view (get_or xs 0 d)) → fault ≡ plain_fault behind (items_view xs)
no_timed_first [] d behind fault le fails is = absurd (omega (arith, le))
no_timed_first (x ∷ xs) d behind fault le fails is = rw fails is

-- ---- plain steps

pub plain_some : (found : List StepValue) (item : Placed) (items : List Placed) (step : StepValue) → Some step ≡ step_at item → plain_from found (item ∷ items) ≡ plain_from (found ++ step ∷ []) items
unfolding plain_from
plain_some found item items step e = ap (λ o. where_some o (λ step. plain_from (found ++ step ∷ []) items) (Err (plain_fault (is_behind found) (item ∷ items)))) (sym e)

pub plain_none : (found : List StepValue) (item : Placed) (items : List Placed) → None ≡ step_at item → plain_from found (item ∷ items) ≡ Err (plain_fault (is_behind found) (item ∷ items))
unfolding plain_from
plain_none found item items e = ap (λ o. where_some o (λ step. plain_from (found ++ step ∷ []) items) (Err (plain_fault (is_behind found) (item ∷ items)))) (sym e)

pub plain_on : {A : Type 0} (xs : List (Item A)) (i : ℕ) (d : Item A) (found new : List StepValue) (step : StepValue) (whole : Result PlanValue ReadFault) → i < length xs
    → plain_from found (items_view (drop i xs)) ≡ whole → Some step ≡ step_at (item_view (get_or xs i d)) → new ≡ found ++ step ∷ [] → plain_from new (items_view (drop (i + 1) xs)) ≡ whole
plain_on xs i d found new step whole lt so_far e pushed =
    ap (λ t. plain_from t (items_view (drop (i + 1) xs))) pushed ∙ sym (plain_some found (item_view (get_or xs i d)) (items_view (drop (i + 1) xs)) step e)
    ∙ ap (plain_from found) (sym (view_from xs i d lt)) ∙ so_far

pub plain_stop : {A : Type 0} (xs : List (Item A)) (i : ℕ) (d : Item A) (found : List StepValue) (behind : Bool) (fault : ReadFault) (whole : Result PlanValue ReadFault) → i < length xs
    → plain_from found (items_view (drop i xs)) ≡ whole → None ≡ step_at (item_view (get_or xs i d)) → behind ≡ is_behind found → fault ≡ plain_fault behind (items_view (drop i xs)) → Refuses fault whole
plain_stop xs i d found behind fault whole lt so_far e is_behind fault_is =
    let items = view_from xs i d lt in
    let stopped : whole ≡ Err (plain_fault behind (items_view (drop i xs))) =
    sym so_far ∙ ap (plain_from found) items ∙ plain_none found _ _ e ∙ ap (λ (b : Bool). Err (plain_fault b (item_view (get_or xs i d) ∷ items_view (drop (i + 1) xs)))) (sym is_behind) ∙ ap (λ (t : List Placed). Err (plain_fault behind t)) (sym items) in
    subst (λ f. Refuses f whole) (sym fault_is) (refused_plain behind (items_view (drop i xs)) whole (omega (arith, ap length items)) stopped)

pub plain_end : (found : List StepValue) (items : List Placed) → items ≡ [] → plain_from found items ≡ Ok (plain found)
unfolding plain_from
plain_end found items e = ap (plain_from found) e

-- ---- timed steps

pub timed_some : (found : List TimedValue) (items : List Placed) (step : TimedValue) → Some step ≡ timed_at items → timed_from found items ≡ timed_from (found ++ step ∷ []) (drop 3 items)
unfolding timed_from
timed_some found (number ∷ colon ∷ item ∷ items) step e = ap (λ o. where_some o (λ step. timed_from (found ++ step ∷ []) items) (Err (timed_fault (is_behind found) (number ∷ colon ∷ item ∷ items)))) (sym e)
timed_some found [] step e = absurd (cc)
timed_some found (number ∷ []) step e = absurd (cc)
timed_some found (number ∷ colon ∷ []) step e = absurd (cc)

pub timed_none : (found : List TimedValue) (items : List Placed) → 0 < length items → None ≡ timed_at items → timed_from found items ≡ Err (timed_fault (is_behind found) items)
unfolding timed_from
timed_none found (number ∷ colon ∷ item ∷ items) some e = ap (λ o. where_some o (λ step. timed_from (found ++ step ∷ []) items) (Err (timed_fault (is_behind found) (number ∷ colon ∷ item ∷ items)))) (sym e)
timed_none found [] some e = absurd (omega (arith, some))
timed_none found (number ∷ []) some e = refl
timed_none found (number ∷ colon ∷ []) some e = refl

view_drop : {A : Type 0} (xs : List (Item A)) (n : ℕ) → items_view (drop n xs) ≡ drop n (items_view xs)
view_drop xs n = sym (drop-map item_view n xs)

pub timed_on : {A : Type 0} (xs : List (Item A)) (i : ℕ) (found new : List TimedValue) (step : TimedValue) (whole : Result PlanValue ReadFault)
    → timed_from found (items_view (drop i xs)) ≡ whole → Some step ≡ timed_at (items_view (drop i xs)) → new ≡ found ++ step ∷ [] → timed_from new (items_view (drop (i + 3) xs)) ≡ whole
timed_on xs i found new step whole so_far e pushed =
    let later : items_view (drop (i + 3) xs) ≡ drop 3 (items_view (drop i xs)) = ap items_view (sym (drop-drop 3 i xs)) ∙ view_drop (drop i xs) 3 in
    ap (λ t. timed_from t (items_view (drop (i + 3) xs))) pushed ∙ ap (timed_from (found ++ step ∷ [])) later ∙ sym (timed_some found (items_view (drop i xs)) step e) ∙ so_far

pub timed_stop : {A : Type 0} (xs : List (Item A)) (i : ℕ) (found : List TimedValue) (behind : Bool) (fault : ReadFault) (whole : Result PlanValue ReadFault) → i < length xs
    → timed_from found (items_view (drop i xs)) ≡ whole → None ≡ timed_at (items_view (drop i xs)) → behind ≡ is_behind found → fault ≡ timed_fault behind (items_view (drop i xs)) → Refuses fault whole
timed_stop xs i found behind fault whole lt so_far e is_behind fault_is =
    let some : 0 < length (items_view (drop i xs)) = omega (arith, length-map (drop i xs) item_view, length-drop i xs) in
    let stopped : whole ≡ Err (timed_fault behind (items_view (drop i xs))) =
    sym so_far ∙ timed_none found (items_view (drop i xs)) some e ∙ ap (λ (b : Bool). Err (timed_fault b (items_view (drop i xs)))) (sym is_behind) in
    subst (λ f. Refuses f whole) (sym fault_is) (refused_timed behind (items_view (drop i xs)) whole some stopped)

pub timed_end : (found : List TimedValue) (items : List Placed) → items ≡ [] → timed_from found items ≡ Ok (timed found)
unfolding timed_from
timed_end found items e = ap (timed_from found) e
