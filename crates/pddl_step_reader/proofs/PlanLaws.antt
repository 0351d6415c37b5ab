-- Reading from the left answers the plan that items spell, or the fault that stands in them, and no other.
use Rattle.std.proofs.Common.{◌≡◌, ℕ, Bool, true, false, List, [], ◌∷◌, ◌++◌, ◌<◌, length, map, IsTrue, refl, sym, ap, subst, ◌∙◌, cond, arith, inl, inr}
use Rattle.std.specs.Prelude.{◌≢◌, ◌⊎◌, Option, Some, None, Result, Ok, Err, is_some, ◌&&◌}
use Rattle.std.proofs.lemmas.Bool.{cond_both}
use Rattle.std.proofs.lemmas.List.{append_assoc, append-nil}
use Rattle.pddl_token.specs.declared.token.TokenKind.{TokenKind}
use Rattle.pddl_token.specs.declared.token.TokenKind.TheVariants.{Name, Number, Colon, Bracket}
use Rattle.pddl_token.specs.declared.token.Span.{Span}
use Rattle.pddl_token.specs.Number.{value_of}
use Rattle.pddl_token.specs.Spelling.{PlacedWord}
use Rattle.pddl_token.specs.Trees.{list_of, Placed, placed_leaf, placed_node, PlacedList, no_placed, placed_tree, erased, all_erased}
use Rattle.pddl_token.proofs.Tests.{both_true}
use Rattle.pddl_step_reader.specs.declared.fault.ReadFault.{ReadFault}
use Rattle.pddl_step_reader.specs.declared.fault.ReadFault.TheVariants as faults
use Rattle.pddl_token.specs.Names.{folded, is_name}
use Rattle.pddl_plan.specs.Plans.{StepValue, TimedValue, PlanValue, plain, timed, IsStep, IsColon, IsTimed, AreTimed, AreSteps, at_moments as with_moments}
use Rattle.pddl_step_reader.specs.PlanFaults.{StepKind, alone, at_moments, other_kind, Follows, NoneFollows, IsNext, IsNextBracket, IsReached, IsMixed, IsDuration, IsNoStep}
use Rattle.pddl_items.specs.Items.{span_of}
use Rattle.pddl_step_reader.specs.Inner.PlanReading.{name_at, names_at, step_of, step_at, moment_at, colon_by, is_colon, timed_of, timed_by, timed_at, bracket_by, is_bracket, no_step, timed_span, plain_fault, timed_fault, is_behind, where_some, plain_from, timed_from, plan_at, plan_behind}
use Rattle.pddl_items.specs.Inner.TreeReading.{name_by, both, placed_items, moment_by}
use Rattle.pddl_token.specs.TreeWords.{SpellsName, SpellsNumber, Each}
use Rattle.pddl_step_reader.proofs.PlanSteps.{plain_some, plain_none, timed_some, timed_none}

-- ---- what a computed answer says of its parts

where_true : {A : Type 0} (b : Bool) (o : Option A) (y : A) → cond b o None ≡ Some y → (b ≡ true) × (o ≡ Some y)
where_true true o y e = (refl, e)
where_true false o y e = absurd (cc)

both_some : {A : Type 0} (o : Option A) (os : Option (List A)) (zs : List A) → both o os ≡ Some zs → (x : A) × (xs : List A) × (o ≡ Some x) × (os ≡ Some xs) × (x ∷ xs ≡ zs)
both_some None os zs e = absurd (cc)
both_some (Some x) None zs e = absurd (cc)
both_some (Some x) (Some xs) zs e = (x, xs, refl, refl, cc)

timed_of_some : (moment : Option ℕ) (step : Option StepValue) (s : TimedValue) → timed_of moment step ≡ Some s
    → (m : ℕ) × (t : StepValue) × (moment ≡ Some m) × (step ≡ Some t) × (record { moment = m; step = t } ≡ s)
timed_of_some None step s e = absurd (cc)
timed_of_some (Some m) None s e = absurd (cc)
timed_of_some (Some m) (Some t) s e = (m, t, refl, refl, cc)

-- ---- names

pub named_sound : (kind : TokenKind) (text name : List ℕ) → name_by kind text ≡ Some name → IsTrue (is_name name) × (kind ≡ Name) × (folded text ≡ name)
named_sound Name text name e =
    let parts = where_true (is_name (folded text)) (Some (folded text)) name e in
    let same : folded text ≡ name = cc (parts.1) in
    (subst (λ n. is_name n ≡ true) same parts.0, refl, same)
named_sound _ text name e = absurd (cc)

named_complete : (kind : TokenKind) (text name : List ℕ) → IsTrue (is_name name) → kind ≡ Name → folded text ≡ name → name_by kind text ≡ Some name
named_complete kind text name good is folds =
    ap (λ k. name_by k text) is ∙ ap (λ t. cond (is_name t) (Some t) None) folds ∙ ap (λ b. cond b (Some name) None) good

name_sound : (item : Placed) (name : List ℕ) → name_at item ≡ Some name → SpellsName name (erased item)
name_sound (placed_leaf w) name e = let n = named_sound w.kind w.text name e in (n.0, (n.1, n.2))
name_sound (placed_node span items) name e = absurd (cc)

name_complete : (item : Placed) (name : List ℕ) → SpellsName name (erased item) → name_at item ≡ Some name
name_complete (placed_leaf w) name (good, (is, folds)) = named_complete w.kind w.text name good is folds
name_complete (placed_node span items) name bad = absurd bad.1

names_sound : (items : PlacedList) (names : List (List ℕ)) → names_at (placed_items items) ≡ Some names → Each SpellsName names (list_of (all_erased items))
names_sound no_placed [] e = tt
names_sound no_placed (name ∷ names) e = absurd (cc)
names_sound (placed_tree item items) names e =
    let parts = both_some (name_at item) (names_at (placed_items items)) names e in
    subst (λ ns. Each SpellsName ns (erased item ∷ list_of (all_erased items))) parts.4 (name_sound item parts.0 parts.2, names_sound items parts.1 parts.3)

names_complete : (items : PlacedList) (names : List (List ℕ)) → Each SpellsName names (list_of (all_erased items)) → names_at (placed_items items) ≡ Some names
names_complete no_placed [] named = refl
names_complete no_placed (name ∷ names) bad = absurd bad
names_complete (placed_tree item items) [] bad = absurd bad
names_complete (placed_tree item items) (name ∷ names) (first, rest) =
    ap (λ o. both o (names_at (placed_items items))) (name_complete item name first) ∙ ap (both (Some name)) (names_complete items names rest)

-- ---- steps

step_by : (items : PlacedList) (step : StepValue) (o : Option (List (List ℕ))) → names_at (placed_items items) ≡ o → step_of o ≡ Some step → Each SpellsName (step.action ∷ step.objects) (list_of (all_erased items))
step_by items step None names e = absurd (cc (e))
step_by items step (Some []) names e = absurd (cc (e))
step_by items step (Some (action ∷ objects)) names e =
    let is : record { action = action; objects = objects } ≡ step = cc (e) in
    subst (λ s. Each SpellsName (s.action ∷ s.objects) (list_of (all_erased items))) is (names_sound items (action ∷ objects) names)

step_sound : (item : Placed) (step : StepValue) → step_at item ≡ Some step → IsStep step (erased item)
step_sound (placed_leaf w) step e = absurd (cc)
step_sound (placed_node span items) step e = step_by items step (names_at (placed_items items)) refl e

step_complete : (item : Placed) (step : StepValue) → IsStep step (erased item) → step_at item ≡ Some step
step_complete (placed_leaf w) step bad = absurd bad
step_complete (placed_node span items) step is = ap step_of (names_complete items (step.action ∷ step.objects) is)

moment_by_sound : (kind : TokenKind) (text : List ℕ) (m : ℕ) → moment_by kind text ≡ Some m → (kind ≡ Number) × (value_of text ≡ Some m)
moment_by_sound Number text m e = (refl, e)
moment_by_sound _ text m e = absurd (cc)

moment_sound : (item : Placed) (m : ℕ) → moment_at item ≡ Some m → SpellsNumber m (erased item)
moment_sound (placed_leaf w) m e = moment_by_sound w.kind w.text m e
moment_sound (placed_node span items) m e = absurd (cc)

moment_complete : (item : Placed) (m : ℕ) → SpellsNumber m (erased item) → moment_at item ≡ Some m
moment_complete (placed_leaf w) m (is, value) = ap (λ k. moment_by k w.text) is ∙ value
moment_complete (placed_node span items) m bad = absurd bad

colon_by_sound : (kind : TokenKind) → colon_by kind ≡ true → kind ≡ Colon
colon_by_sound Colon e = refl
colon_by_sound _ e = absurd (cc)

colon_sound : (item : Placed) → is_colon item ≡ true → IsColon (erased item)
colon_sound (placed_leaf w) e = colon_by_sound w.kind e
colon_sound (placed_node span items) e = absurd (cc)

colon_complete : (item : Placed) → IsColon (erased item) → is_colon item ≡ true
colon_complete (placed_leaf w) is = ap colon_by is
colon_complete (placed_node span items) bad = absurd bad

timed_sound : (number colon item : Placed) (s : TimedValue) → timed_by number colon item ≡ Some s → IsTimed s (erased number) (erased colon) (erased item)
timed_sound number colon item s e =
    let behind = where_true (is_colon colon) (timed_of (moment_at number) (step_at item)) s e in
    let parts = timed_of_some (moment_at number) (step_at item) s behind.1 in
    subst (λ t. IsTimed t (erased number) (erased colon) (erased item)) parts.4 (moment_sound number parts.0 parts.2, colon_sound colon behind.0, step_sound item parts.1 parts.3)

timed_complete : (number colon item : Placed) (s : TimedValue) → IsTimed s (erased number) (erased colon) (erased item) → timed_by number colon item ≡ Some s
timed_complete number colon item s (moment, is_colon_there, step) =
    ap (λ b. cond b (timed_of (moment_at number) (step_at item)) None) (colon_complete colon is_colon_there)
    ∙ ap (λ o. timed_of o (step_at item)) (moment_complete number s.moment moment) ∙ ap (timed_of (Some s.moment)) (step_complete item s.step step)

-- ---- what stands first

-- where reading finds no step, none stands
none_follows : (item : Placed) (items : List Placed) → None ≡ step_at item → None ≡ timed_at (item ∷ items) → NoneFollows (item ∷ items)
none_follows item items no_plain no_timed = λ kind span follows. by_kind kind span items no_timed follows
  where
    by_kind : (kind : StepKind) (span : Span) (items : List Placed) → None ≡ timed_at (item ∷ items) → Follows kind span (item ∷ items) → ⊥
    by_kind alone span items no_timed (step, is, span_is) = absurd (cc (no_plain, step_complete item step is))
    by_kind at_moments span [] no_timed bad = bad
    by_kind at_moments span (colon ∷ []) no_timed bad = bad
    by_kind at_moments span (colon ∷ last ∷ items) no_timed (step, is, span_is) = absurd (cc (no_timed, timed_complete item colon last step is))

none_by : {A : Type 0} (o : Option A) → ((x : A) → o ≡ Some x → ⊥) → None ≡ o
none_by None never = refl
none_by (Some x) never = absurd (never x refl)

no_plain_first : (item : Placed) (items : List Placed) → NoneFollows (item ∷ items) → None ≡ step_at item
no_plain_first item items none = none_by (step_at item) (λ step e. none alone (span_of item) (step, step_sound item step e, refl))

no_timed_first : (items : List Placed) → NoneFollows items → None ≡ timed_at items
no_timed_first [] none = refl
no_timed_first (number ∷ []) none = refl
no_timed_first (number ∷ colon ∷ []) none = refl
no_timed_first (number ∷ colon ∷ item ∷ items) none =
    none_by (timed_by number colon item) (λ step e. none at_moments (record { start = (span_of number).start; end = (span_of item).end }) (step, timed_sound number colon item step e, refl))

bracket_by_sound : (kind : TokenKind) → bracket_by kind ≡ true → kind ≡ Bracket
bracket_by_sound Bracket e = refl
bracket_by_sound _ e = absurd (cc)

bracket_sound : (item : Placed) (items : List Placed) → is_bracket item ≡ true → IsNextBracket (span_of item) (item ∷ items)
bracket_sound (placed_leaf w) items e = (bracket_by_sound w.kind e, refl)
bracket_sound (placed_node span children) items e = absurd (cc)

bracket_complete : (item : Placed) (items : List Placed) (span : Span) → IsNextBracket span (item ∷ items) → (is_bracket item ≡ true) × (span ≡ span_of item)
bracket_complete (placed_leaf w) items span (is, span_is) = (ap bracket_by is, span_is)
bracket_complete (placed_node s children) items span bad = absurd bad

-- ---- plain steps

plain_through : (steps found : List StepValue) (before after : List Placed) → Each IsStep steps (map erased before) → plain_from found (before ++ after) ≡ plain_from (found ++ steps) after
plain_through [] found [] after are = ap (λ f. plain_from f after) (sym (append-nil found))
plain_through [] found (item ∷ before) after bad = absurd bad
plain_through (step ∷ steps) found [] after bad = absurd bad
plain_through (step ∷ steps) found (item ∷ before) after (first, rest) =
    plain_some found item (before ++ after) step (sym (step_complete item step first)) ∙ plain_through steps (found ++ step ∷ []) before after rest
    ∙ ap (λ f. plain_from f after) (append_assoc found (step ∷ []) steps)

-- the answer is a plan of these steps, or what is wrong behind them
pub record PlainStop (found : List StepValue) (items : List Placed) (fault : ReadFault) : Type 0 where
  pub steps : List StepValue
  pub before : List Placed
  pub item : Placed
  pub after : List Placed
  pub items_are : items ≡ before ++ item ∷ after
  pub are_plain : Each IsStep steps (map erased before)
  pub no_plain : None ≡ step_at item
  pub fault_is : fault ≡ plain_fault (is_behind (found ++ steps)) (item ∷ after)

stop_later : (found : List StepValue) (item : Placed) (items : List Placed) (step : StepValue) (fault : ReadFault) → step_at item ≡ Some step → PlainStop (found ++ step ∷ []) items fault → PlainStop found (item ∷ items) fault
stop_later found item items step fault e stop = record {
  steps = step ∷ stop.steps;
  before = item ∷ stop.before;
  item = stop.item;
  after = stop.after;
  items_are = ap (λ (t : List Placed). item ∷ t) stop.items_are;
  are_plain = (step_sound item step e, stop.are_plain);
  no_plain = stop.no_plain;
  fault_is = stop.fault_is ∙ ap (λ f. plain_fault (is_behind f) (stop.item ∷ stop.after)) (append_assoc found (step ∷ []) stop.steps);
}

abbrev PlainRead : List StepValue → List Placed → Result PlanValue ReadFault → Type 0
PlainRead found items (Ok plan) = (steps : List StepValue) × (plan ≡ plain (found ++ steps)) × Each IsStep steps (map erased items)
PlainRead found items (Err fault) = PlainStop found items fault

read_later : (found : List StepValue) (item : Placed) (items : List Placed) (step : StepValue) (answer : Result PlanValue ReadFault) → step_at item ≡ Some step
    → PlainRead (found ++ step ∷ []) items answer → PlainRead found (item ∷ items) answer
read_later found item items step (Ok plan) e (steps, plan_is, are) = (step ∷ steps, plan_is ∙ ap plain (append_assoc found (step ∷ []) steps), (step_sound item step e, are))
read_later found item items step (Err fault) e stop = stop_later found item items step fault e stop

plain_read : (items : List Placed) (found : List StepValue) → PlainRead found items (plain_from found items)
unfolding plain_from
plain_read [] found = ([], ap plain (sym (append-nil found)), tt)
plain_read (item ∷ items) found = by_step (step_at item) refl (λ step. plain_read items (found ++ step ∷ []))
  where
    by_step : (o : Option StepValue) → step_at item ≡ o → ((step : StepValue) → PlainRead (found ++ step ∷ []) items (plain_from (found ++ step ∷ []) items))
        → PlainRead found (item ∷ items) (where_some o (λ step. plain_from (found ++ step ∷ []) items) (Err (plain_fault (is_behind found) (item ∷ items))))
    by_step None e on = record { steps = []; before = []; item = item; after = items; items_are = refl; are_plain = tt; no_plain = sym e; fault_is = ap (λ f. plain_fault (is_behind f) (item ∷ items)) (sym (append-nil found)) }
    by_step (Some step) e on = read_later found item items step (plain_from (found ++ step ∷ []) items) e (on step)

-- ---- timed steps

timed_through : (steps found : List TimedValue) (before after : List Placed) → AreTimed steps (map erased before) → timed_from found (before ++ after) ≡ timed_from (found ++ steps) after
timed_through [] found [] after are = ap (λ f. timed_from f after) (sym (append-nil found))
timed_through (s ∷ steps) found (number ∷ colon ∷ item ∷ before) after (first, rest) =
    timed_some found (number ∷ colon ∷ item ∷ (before ++ after)) s (sym (timed_complete number colon item s first)) ∙ timed_through steps (found ++ s ∷ []) before after rest
    ∙ ap (λ f. timed_from f after) (append_assoc found (s ∷ []) steps)
timed_through [] found (number ∷ before) after bad = absurd bad
timed_through (s ∷ steps) found [] after bad = absurd bad
timed_through (s ∷ steps) found (number ∷ []) after bad = absurd bad
timed_through (s ∷ steps) found (number ∷ colon ∷ []) after bad = absurd bad

pub record TimedStop (found : List TimedValue) (items : List Placed) (fault : ReadFault) : Type 0 where
  pub steps : List TimedValue
  pub before : List Placed
  pub item : Placed
  pub after : List Placed
  pub items_are : items ≡ before ++ item ∷ after
  pub are_timed : AreTimed steps (map erased before)
  pub no_timed : None ≡ timed_at (item ∷ after)
  pub fault_is : fault ≡ timed_fault (is_behind (found ++ steps)) (item ∷ after)

abbrev TimedRead : List TimedValue → List Placed → Result PlanValue ReadFault → Type 0
TimedRead found items (Ok plan) = (steps : List TimedValue) × (plan ≡ timed (found ++ steps)) × AreTimed steps (map erased items)
TimedRead found items (Err fault) = TimedStop found items fault

timed_later : (found : List TimedValue) (number colon item : Placed) (items : List Placed) (s : TimedValue) (answer : Result PlanValue ReadFault) → timed_by number colon item ≡ Some s
    → TimedRead (found ++ s ∷ []) items answer → TimedRead found (number ∷ colon ∷ item ∷ items) answer
timed_later found number colon item items s (Ok plan) e (steps, plan_is, are) = (s ∷ steps, plan_is ∙ ap timed (append_assoc found (s ∷ []) steps), (timed_sound number colon item s e, are))
timed_later found number colon item items s (Err fault) e stop = record {
  steps = s ∷ stop.steps;
  before = number ∷ colon ∷ item ∷ stop.before;
  item = stop.item;
  after = stop.after;
  items_are = ap (λ (t : List Placed). number ∷ colon ∷ item ∷ t) stop.items_are;
  are_timed = (timed_sound number colon item s e, stop.are_timed);
  no_timed = stop.no_timed;
  fault_is = stop.fault_is ∙ ap (λ f. timed_fault (is_behind f) (stop.item ∷ stop.after)) (append_assoc found (s ∷ []) stop.steps);
}

stopped : (found : List TimedValue) (item : Placed) (items : List Placed) → None ≡ timed_at (item ∷ items) → TimedStop found (item ∷ items) (timed_fault (is_behind found) (item ∷ items))
stopped found item items e = record { steps = []; before = []; item = item; after = items; items_are = refl; are_timed = tt; no_timed = e; fault_is = ap (λ f. timed_fault (is_behind f) (item ∷ items)) (sym (append-nil found)) }

timed_read : (items : List Placed) (found : List TimedValue) → TimedRead found items (timed_from found items)
unfolding timed_from
timed_read [] found = ([], ap timed (sym (append-nil found)), tt)
timed_read (number ∷ colon ∷ item ∷ items) found = by_step (timed_by number colon item) refl (λ s. timed_read items (found ++ s ∷ []))
  where
    by_step : (o : Option TimedValue) → timed_by number colon item ≡ o → ((s : TimedValue) → TimedRead (found ++ s ∷ []) items (timed_from (found ++ s ∷ []) items))
        → TimedRead found (number ∷ colon ∷ item ∷ items) (where_some o (λ s. timed_from (found ++ s ∷ []) items) (Err (timed_fault (is_behind found) (number ∷ colon ∷ item ∷ items))))
    by_step None e on = stopped found number (colon ∷ item ∷ items) (sym e)
    by_step (Some s) e on = timed_later found number colon item items s (timed_from (found ++ s ∷ []) items) e (on s)
timed_read (number ∷ []) found = stopped found number [] refl
timed_read (number ∷ colon ∷ []) found = stopped found number (colon ∷ []) refl

-- ---- whole plans: the plan

plan_plain : (item : Placed) (items : List Placed) (step : StepValue) → IsStep step (erased item) → plan_at (item ∷ items) ≡ plain_from [] (item ∷ items)
plan_plain (placed_leaf w) items step bad = absurd bad
plan_plain (placed_node span children) items step is = refl

plan_timed : (item : Placed) (items : List Placed) (m : ℕ) → SpellsNumber m (erased item) → plan_at (item ∷ items) ≡ timed_from [] (item ∷ items)
plan_timed (placed_leaf w) items m is = refl
plan_timed (placed_node span children) items m bad = absurd bad

plain_at : (steps : List StepValue) (before after : List Placed) → Each IsStep steps (map erased before) → before ≢ [] → plan_at (before ++ after) ≡ plain_from steps after
plain_at steps [] after are some = absurd (some refl)
plain_at [] (item ∷ before) after bad some = absurd bad
plain_at (step ∷ steps) (item ∷ before) after are some = plan_plain item (before ++ after) step are.0 ∙ plain_through (step ∷ steps) [] (item ∷ before) after are

timed_at_some : (steps : List TimedValue) (before after : List Placed) → AreTimed steps (map erased before) → before ≢ [] → plan_at (before ++ after) ≡ timed_from steps after
timed_at_some steps [] after are some = absurd (some refl)
timed_at_some (s ∷ steps) (number ∷ colon ∷ item ∷ before) after are some =
    plan_timed number (colon ∷ item ∷ (before ++ after)) s.moment are.0.0 ∙ timed_through (s ∷ steps) [] (number ∷ colon ∷ item ∷ before) after are
timed_at_some [] (number ∷ before) after bad some = absurd bad
timed_at_some (s ∷ steps) (number ∷ []) after bad some = absurd bad
timed_at_some (s ∷ steps) (number ∷ colon ∷ []) after bad some = absurd bad

plain_done : (steps : List StepValue) → plain_from steps [] ≡ Ok (plain steps)
unfolding plain_from
plain_done steps = refl

timed_done : (steps : List TimedValue) → timed_from steps [] ≡ Ok (timed steps)
unfolding timed_from
timed_done steps = refl

-- items that are a plan's steps are read as that plan
pub plan_complete : (plan : PlanValue) (items : List Placed) → AreSteps plan (map erased items) → plan_at items ≡ Ok plan
plan_complete (plain []) [] are = refl
plan_complete (plain (step ∷ steps)) [] bad = absurd bad
plan_complete (plain steps) (item ∷ items) are =
    ap plan_at (sym (append-nil (item ∷ items))) ∙ plain_at steps (item ∷ items) [] are (λ e. absurd (cc (e))) ∙ plain_done steps
plan_complete (timed []) items are = absurd (omega (arith, are.0))
plan_complete (timed (s ∷ steps)) [] are = absurd are.1
plan_complete (timed (s ∷ steps)) (item ∷ items) are =
    ap plan_at (sym (append-nil (item ∷ items))) ∙ timed_at_some (s ∷ steps) (item ∷ items) [] are.1 (λ e. absurd (cc (e))) ∙ timed_done (s ∷ steps)

-- a plan that is read is that of the items
pub plan_sound : (items : List Placed) (plan : PlanValue) → plan_at items ≡ Ok plan → AreSteps plan (map erased items)
plan_sound [] plan e = let is : plain [] ≡ plan = cc (e) in subst (λ p. AreSteps p []) is tt
plan_sound (placed_leaf w ∷ items) plan e =
    let read : TimedRead [] (placed_leaf w ∷ items) (Ok plan) = subst (TimedRead [] (placed_leaf w ∷ items)) e (timed_read (placed_leaf w ∷ items) []) in
    by_steps read.0 read.1 read.2
  where
    by_steps : (steps : List TimedValue) → plan ≡ timed steps → AreTimed steps (map erased (placed_leaf w ∷ items)) → AreSteps plan (map erased (placed_leaf w ∷ items))
    by_steps [] plan_is bad = absurd bad
    by_steps (s ∷ steps) plan_is are = subst (λ p. AreSteps p (map erased (placed_leaf w ∷ items))) (sym plan_is) (omega arith, are)
plan_sound (placed_node span children ∷ items) plan e =
    let read : PlainRead [] (placed_node span children ∷ items) (Ok plan) = subst (PlainRead [] (placed_node span children ∷ items)) e (plain_read (placed_node span children ∷ items) []) in
    subst (λ p. AreSteps p (map erased (placed_node span children ∷ items))) (sym read.1) read.2

-- ---- whole plans: the fault

-- what a fault says of the items
abbrev pub ItemsStand : ReadFault → List Placed → Type 0
ItemsStand (faults.Text fault) items = ⊥
ItemsStand (faults.Step span near) items = IsNoStep span items × (span.start ≡ near)
ItemsStand (faults.Mixed span) items = IsMixed span items
ItemsStand (faults.Duration span) items = IsDuration span items

-- no step before means no items before, and the other way round
plain_none_before : (steps : List StepValue) (before : List Placed) → Each IsStep steps (map erased before) → is_behind steps ≡ true → before ≢ []
plain_none_before [] before are behind = absurd (cc (behind))
plain_none_before (step ∷ steps) [] bad behind = absurd bad
plain_none_before (step ∷ steps) (item ∷ before) are behind = λ e. absurd (cc (e))

plain_some_before : (steps : List StepValue) (before : List Placed) → Each IsStep steps (map erased before) → before ≢ [] → is_behind steps ≡ true
plain_some_before steps [] are some = absurd (some refl)
plain_some_before [] (item ∷ before) bad some = absurd bad
plain_some_before (step ∷ steps) (item ∷ before) are some = refl

timed_none_before : (steps : List TimedValue) (before : List Placed) → AreTimed steps (map erased before) → is_behind steps ≡ true → before ≢ []
timed_none_before [] before are behind = absurd (cc (behind))
timed_none_before (s ∷ steps) [] bad behind = absurd bad
timed_none_before (s ∷ steps) (item ∷ before) are behind = λ e. absurd (cc (e))

timed_some_before : (steps : List TimedValue) (before : List Placed) → AreTimed steps (map erased before) → before ≢ [] → is_behind steps ≡ true
timed_some_before steps [] are some = absurd (some refl)
timed_some_before [] (item ∷ before) bad some = absurd bad
timed_some_before (s ∷ steps) (item ∷ before) are some = refl

-- a fault where no step of either kind stands first
no_step_stands : (kind : StepKind) (before : List Placed) (item : Placed) (after items : List Placed) (behind : Bool) → IsReached kind before (item ∷ after) items → NoneFollows (item ∷ after)
    → (behind ≡ true → before ≢ []) → (before ≢ [] → behind ≡ true) → ItemsStand (no_step behind item) items
no_step_stands kind before item after items behind reached none some back =
    cond_both (behind && is_bracket item) (faults.Duration (span_of item)) (faults.Step (span_of item) (span_of item).start) (λ f. ItemsStand f items)
    (λ is. let parts = both_true behind (is_bracket item) is in record { kind = kind; before = before; after = item ∷ after; reached = reached; holds = (some parts.0, none, bracket_sound item after parts.1) })
    (λ other. (
      record { kind = kind; before = before; after = item ∷ after; reached = reached; holds = (none, λ some_there bracket. absurd (cc (other, back some_there, (bracket_complete item after (span_of item) bracket).0)), refl) },
      refl,
    ))

node_no_timed : (span : Span) (children : PlacedList) (items : List Placed) → None ≡ timed_at (placed_node span children ∷ items)
node_no_timed span children [] = refl
node_no_timed span children (colon ∷ []) = refl
node_no_timed span children (colon ∷ item ∷ items) = cond_both (is_colon colon) None None (λ (o : Option TimedValue). None ≡ o) (λ is. refl) (λ other. refl)

step_no_timed : (item : Placed) (items : List Placed) (step : StepValue) → IsStep step (erased item) → None ≡ timed_at (item ∷ items)
step_no_timed (placed_leaf w) items step bad = absurd bad
step_no_timed (placed_node span children) items step is = node_no_timed span children items

moment_no_step : (item : Placed) (m : ℕ) → SpellsNumber m (erased item) → None ≡ step_at item
moment_no_step (placed_leaf w) m is = refl
moment_no_step (placed_node span children) m bad = absurd bad

timed_follows : (items : List Placed) (s : TimedValue) → timed_at items ≡ Some s → Follows at_moments (timed_span items) items
timed_follows [] s e = absurd (cc)
timed_follows (number ∷ []) s e = absurd (cc)
timed_follows (number ∷ colon ∷ []) s e = absurd (cc)
timed_follows (number ∷ colon ∷ item ∷ items) s e = (s, timed_sound number colon item s e, refl)

plain_stop_stands : (span : Span) (children : PlacedList) (items : List Placed) (fault : ReadFault) → PlainStop [] (placed_node span children ∷ items) fault → ItemsStand fault (placed_node span children ∷ items)
plain_stop_stands span children items fault stop =
    subst (λ f. ItemsStand f (placed_node span children ∷ items)) (sym stop.fault_is) (by_timed (timed_at (stop.item ∷ stop.after)) refl)
  where
    some_before : (s : TimedValue) → timed_at (stop.item ∷ stop.after) ≡ Some s → stop.before ≢ []
    some_before s e = λ none.
        let same : placed_node span children ∷ items ≡ stop.item ∷ stop.after = stop.items_are ∙ ap (λ (t : List Placed). t ++ stop.item ∷ stop.after) none in
        absurd (cc (node_no_timed span children items, ap timed_at same, e))

    by_timed : (o : Option TimedValue) → timed_at (stop.item ∷ stop.after) ≡ o
        → ItemsStand (cond (is_some o) (faults.Mixed (timed_span (stop.item ∷ stop.after))) (no_step (is_behind stop.steps) stop.item)) (placed_node span children ∷ items)
    by_timed (Some s) e = record {
      kind = alone;
      before = stop.before;
      after = stop.item ∷ stop.after;
      reached = record { items_are = stop.items_are; whole = (stop.steps, stop.are_plain) };
      holds = (some_before s e, timed_follows (stop.item ∷ stop.after) s e);
    }
    by_timed None e =
        no_step_stands alone stop.before stop.item stop.after (placed_node span children ∷ items) (is_behind stop.steps) (record { items_are = stop.items_are; whole = (stop.steps, stop.are_plain) })
        (none_follows stop.item stop.after stop.no_plain (sym e)) (plain_none_before stop.steps stop.before stop.are_plain) (plain_some_before stop.steps stop.before stop.are_plain)

timed_stop_stands : (w : PlacedWord) (items : List Placed) (fault : ReadFault) → TimedStop [] (placed_leaf w ∷ items) fault → ItemsStand fault (placed_leaf w ∷ items)
timed_stop_stands w items fault stop =
    subst (λ f. ItemsStand f (placed_leaf w ∷ items)) (sym stop.fault_is) (by_step (step_at stop.item) refl)
  where
    some_before : (step : StepValue) → step_at stop.item ≡ Some step → stop.before ≢ []
    some_before step e = λ none.
        let same : placed_leaf w ∷ items ≡ stop.item ∷ stop.after = stop.items_are ∙ ap (λ (t : List Placed). t ++ stop.item ∷ stop.after) none in
        let first : placed_leaf w ≡ stop.item = cc (same) in
        absurd (cc (ap step_at first, e))

    by_step : (o : Option StepValue) → step_at stop.item ≡ o
        → ItemsStand (cond (is_some o) (faults.Mixed (span_of stop.item)) (no_step (is_behind stop.steps) stop.item)) (placed_leaf w ∷ items)
    by_step (Some step) e = record {
      kind = at_moments;
      before = stop.before;
      after = stop.item ∷ stop.after;
      reached = record { items_are = stop.items_are; whole = (stop.steps, stop.are_timed) };
      holds = (some_before step e, (step, step_sound stop.item step e, refl));
    }
    by_step None e =
        no_step_stands at_moments stop.before stop.item stop.after (placed_leaf w ∷ items) (is_behind stop.steps) (record { items_are = stop.items_are; whole = (stop.steps, stop.are_timed) })
        (none_follows stop.item stop.after (sym e) stop.no_timed) (timed_none_before stop.steps stop.before stop.are_timed) (timed_some_before stop.steps stop.before stop.are_timed)

-- a fault that is answered stands in the items
pub fault_sound : (items : List Placed) (fault : ReadFault) → plan_at items ≡ Err fault → ItemsStand fault items
fault_sound [] fault e = absurd (cc (e))
fault_sound (placed_leaf w ∷ items) fault e = timed_stop_stands w items fault (subst (TimedRead [] (placed_leaf w ∷ items)) e (timed_read (placed_leaf w ∷ items) []))
fault_sound (placed_node span children ∷ items) fault e = plain_stop_stands span children items fault (subst (PlainRead [] (placed_node span children ∷ items)) e (plain_read (placed_node span children ∷ items) []))

-- ---- a fault that stands is answered

-- behind steps of a kind, where no step of it follows
behind_steps : (kind : StepKind) (before : List Placed) (item : Placed) (after items : List Placed) → IsReached kind before (item ∷ after) items → before ≢ []
    → None ≡ step_at item → None ≡ timed_at (item ∷ after) → plan_at items ≡ Err (no_step true item)
behind_steps alone before item after items reached some no_plain no_timed =
    let steps = reached.whole.0 in
    ap plan_at reached.items_are ∙ plain_at steps before (item ∷ after) reached.whole.1 some ∙ plain_none steps item after no_plain
    ∙ ap (λ o. Err (cond (is_some o) (faults.Mixed (timed_span (item ∷ after))) (no_step (is_behind steps) item))) (sym no_timed)
    ∙ ap (λ b. Err (no_step b item)) (plain_some_before steps before reached.whole.1 some)
behind_steps at_moments before item after items reached some no_plain no_timed =
    let steps = reached.whole.0 in
    ap plan_at reached.items_are ∙ timed_at_some steps before (item ∷ after) reached.whole.1 some ∙ timed_none steps (item ∷ after) (omega arith) no_timed
    ∙ ap (λ o. Err (cond (is_some o) (faults.Mixed (span_of item)) (no_step (is_behind steps) item))) (sym no_plain)
    ∙ ap (λ b. Err (no_step b item)) (timed_some_before steps before reached.whole.1 some)

pub mixed_complete : (span : Span) (items : List Placed) → IsMixed span items → plan_at items ≡ Err (faults.Mixed span)
mixed_complete span items mixed = by_kind mixed.kind mixed.before mixed.after mixed.reached mixed.holds.0 mixed.holds.1
  where
    by_kind : (kind : StepKind) (before after : List Placed) → IsReached kind before after items → before ≢ [] → Follows (other_kind kind) span after → plan_at items ≡ Err (faults.Mixed span)
    by_kind alone before (number ∷ colon ∷ item ∷ after) reached some (s, is, span_is) =
        let steps = reached.whole.0 in
        ap plan_at reached.items_are ∙ plain_at steps before (number ∷ colon ∷ item ∷ after) reached.whole.1 some ∙ plain_none steps number (colon ∷ item ∷ after) (moment_no_step number s.moment is.0)
        ∙ ap (λ o. Err (cond (is_some o) (faults.Mixed (timed_span (number ∷ colon ∷ item ∷ after))) (no_step (is_behind steps) number))) (timed_complete number colon item s is)
        ∙ ap (λ s. Err (faults.Mixed s)) (sym span_is)
    by_kind alone before [] reached some bad = absurd bad
    by_kind alone before (number ∷ []) reached some bad = absurd bad
    by_kind alone before (number ∷ colon ∷ []) reached some bad = absurd bad
    by_kind at_moments before (item ∷ after) reached some (step, is, span_is) =
        let steps = reached.whole.0 in
        ap plan_at reached.items_are ∙ timed_at_some steps before (item ∷ after) reached.whole.1 some ∙ timed_none steps (item ∷ after) (omega arith) (step_no_timed item after step is)
        ∙ ap (λ o. Err (cond (is_some o) (faults.Mixed (span_of item)) (no_step (is_behind steps) item))) (step_complete item step is)
        ∙ ap (λ s. Err (faults.Mixed s)) (sym span_is)
    by_kind at_moments before [] reached some bad = absurd bad

pub duration_complete : (span : Span) (items : List Placed) → IsDuration span items → plan_at items ≡ Err (faults.Duration span)
duration_complete span items duration = by_after duration.after duration.reached duration.holds.1 duration.holds.2
  where
    by_after : (after : List Placed) → IsReached duration.kind duration.before after items → NoneFollows after → IsNextBracket span after → plan_at items ≡ Err (faults.Duration span)
    by_after [] reached none bad = absurd bad
    by_after (item ∷ after) reached none bracket =
        let parts = bracket_complete item after span bracket in
        behind_steps duration.kind duration.before item after items reached duration.holds.0 (no_plain_first item after none) (no_timed_first (item ∷ after) none)
        ∙ ap (λ b. Err (cond b (faults.Duration (span_of item)) (faults.Step (span_of item) (span_of item).start))) parts.0 ∙ ap (λ s. Err (faults.Duration s)) (sym parts.1)

stops_at_first : (item : Placed) (items : List Placed) → None ≡ step_at item → None ≡ timed_at (item ∷ items) → plan_at (item ∷ items) ≡ Err (no_step false item)
stops_at_first (placed_leaf w) items no_plain no_timed = timed_none [] (placed_leaf w ∷ items) (omega arith) no_timed
stops_at_first (placed_node span children) items no_plain no_timed =
    plain_none [] (placed_node span children) items no_plain ∙ ap (λ o. Err (cond (is_some o) (faults.Mixed (timed_span (placed_node span children ∷ items))) (no_step false (placed_node span children)))) (sym no_timed)

bool_by : (b : Bool) (P : Type 0) → (b ≡ true → P) → (b ≡ false → P) → P
bool_by true P yes_case no_case = yes_case refl
bool_by false P yes_case no_case = no_case refl

pub no_step_complete : (span : Span) (items : List Placed) → IsNoStep span items → plan_at items ≡ Err (faults.Step span span.start)
no_step_complete span items fault = by_parts fault.before fault.after fault.reached fault.holds.0 fault.holds.1 fault.holds.2
  where
    by_parts : (before after : List Placed) → IsReached fault.kind before after items → NoneFollows after → (before ≢ [] → IsNextBracket span after → ⊥) → IsNext span after → plan_at items ≡ Err (faults.Step span span.start)
    by_parts before [] reached none no_duration bad = absurd bad
    by_parts [] (item ∷ after) reached none no_duration next =
        ap plan_at reached.items_are ∙ stops_at_first item after (no_plain_first item after none) (no_timed_first (item ∷ after) none) ∙ ap (λ (s : Span). Err (faults.Step s s.start)) (sym next)
    by_parts (first ∷ before) (item ∷ after) reached none no_duration next =
        let some : first ∷ before ≢ [] = λ e. absurd (cc (e)) in
        let no_bracket : is_bracket item ≡ false = bool_by (is_bracket item) (is_bracket item ≡ false)
        (λ is. absurd (no_duration some (subst (λ s. IsNextBracket s (item ∷ after)) (sym next) (bracket_sound item after is)))) (λ other. other) in
        behind_steps fault.kind (first ∷ before) item after items reached some (no_plain_first item after none) (no_timed_first (item ∷ after) none)
        ∙ ap (λ b. Err (cond b (faults.Duration (span_of item)) (faults.Step (span_of item) (span_of item).start))) no_bracket ∙ ap (λ (s : Span). Err (faults.Step s s.start)) (sym next)

-- ---- behind steps

no_items : (items : List Placed) → Each IsStep [] (map erased items) → items ≡ []
no_items [] are = refl
no_items (item ∷ items) bad = absurd bad

-- the plan of steps and of the items behind them
pub plan_through : (moments : List ℕ) (steps : List StepValue) (before after : List Placed)
    → ((moments ≡ []) × Each IsStep steps (map erased before)) ⊎ ((length moments ≡ length steps) × (0 < length steps) × AreTimed (with_moments moments steps) (map erased before))
    → plan_at (before ++ after) ≡ plan_behind moments steps after
plan_through [] [] before after (inl are) = ap (λ (t : List Placed). plan_at (t ++ after)) (no_items before are.1)
plan_through [] (step ∷ steps) before after (inl are) = plain_at (step ∷ steps) before after are.1 (plain_none_before (step ∷ steps) before are.1 refl)
plan_through (m ∷ moments) steps before after (inl are) = absurd (cc (are.0))
plan_through [] steps before after (inr are) = absurd (omega (arith, are.0, are.1))
plan_through (m ∷ moments) [] before after (inr are) = absurd (omega (arith, are.1))
plan_through (m ∷ moments) (step ∷ steps) before after (inr are) =
    timed_at_some (with_moments (m ∷ moments) (step ∷ steps)) before after are.2 (timed_none_before (with_moments (m ∷ moments) (step ∷ steps)) before are.2 refl)
