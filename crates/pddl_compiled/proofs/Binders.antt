-- The variables of a quantifier, one after another, and nodes around conditions.
use Rattle.std.proofs.Common.{◌≡◌, ℕ, ◌+◌, ◌<◌, Bool, true, false, List, [], ◌∷◌, ◌++◌, map, drop, length, get_or, reverse, refl, sym, ap, ◌∙◌, subst, arith, Vec}
use Rattle.std.specs.Prelude.{Result, Ok, Err, IfOk, IsOkAnd, OnOk, Option, Some, option_map, unwrap_or, slice_get}
use Rattle.std.specs.Result.{result_and}
use Rattle.std.proofs.lemmas.List.{drop_more, append-nil, append_assoc, map-append, reverse-append}
use Rattle.std.proofs.lemmas.Option.{slice_get-map, slice_get-get_or, slice_get_within, get_or_from_slice_get}
use Rattle.pddl_formula.specs.declared.type_names.Typed.{Typed}
use Rattle.pddl_formula.specs.TypedLists.{typed_view, TypedValue}
use Rattle.pddl_task.specs.Names.{Name}
use Rattle.pddl_compiled.specs.Binders.{only, IsRange, IsLast, unbound, IsBound}
use Rattle.pddl_compiled.specs.Compiler.{Slot, BinderValue, binding, binder_of, onto, wrapped, ScopeValue}
use Rattle.pddl_compiled.specs.Scopes.{range_items}

pub weaker : {X E : Type 0} (P Q : X → Type 0) → ((x : X) → P x → Q x) → (r : Result X E) → IfOk r P → IfOk r Q
weaker P Q f (Ok x) h = f x h
weaker P Q f (Err e) h = h

pub also : {X E : Type 0} (P Q : X → Type 0) → ((x : X) → P x → Q x) → (r : Result X E) → IsOkAnd r P → IsOkAnd r Q
also P Q f (Ok x) h = f x h
also P Q f (Err e) h = absurd h

pub ok_known : {X E : Type 0} (P : X → Type 0) (r : Result X E) (x : X) → r ≡ Ok x → IfOk r P → P x
ok_known P r x is h = subst (λ q. IfOk q P) is h

pub after : {U X E : Type 0} (made : Result U E) (x : X) (P : Type 0) (Q : X → Type 0) → OnOk made P → (P → Q x) → IfOk (result_and made (Ok x)) Q
after (Ok u) x P Q h f = f h
after (Err e) x P Q h f = h

-- what is known of a value, by what is known of the one that it is made of
pub made_known : {X Y E F : Type 0} (P : X → Type 0) (Q : X → Y → Type 0) (R : Y → Type 0) → ((x : X) (y : Y) → P x → Q x y → R y) → (from : Result X E) (r : Result Y F)
    → IfOk from P → IfOk r (λ y. IsOkAnd from (λ x. Q x y)) → IfOk r R
made_known P Q R f (Ok x) (Ok y) h k = f x y h k
made_known P Q R f (Err e) (Ok y) h k = absurd k
made_known P Q R f from (Err e) h k = k

-- ---- what is left of the variables

pub view_at : {A : Type 0} (xs ys : List (Typed A)) (i : ℕ) (d : Typed A) → ys ≡ xs → i < length xs → slice_get (map typed_view xs) i ≡ Some (typed_view (get_or ys i d))
view_at xs ys i d same h = slice_get-map typed_view xs i ∙ ap (option_map typed_view) (slice_get-get_or xs i d h ∙ ap (λ zs. Some (get_or zs i d)) (sym same))

rest_at : (range : List Name → List ℕ) (xs : List TypedValue) (i : ℕ) (y : TypedValue) → slice_get xs i ≡ Some y → binder_of range (drop i xs) ≡ binding y.item (range y.of) (binder_of range (drop (i + 1) xs))
rest_at range xs i y at =
    ap (binder_of range) (drop_more xs i y (slice_get_within xs i y at))
    ∙ ap (λ z. binding z.item (range z.of) (binder_of range (drop (i + 1) xs))) (get_or_from_slice_get xs i y y at)

-- ---- one variable, and those behind it

bound_last : (x : Name) (found : List ℕ) (rest : BinderValue) (slots new : List (Name × Slot)) (ranges more : List (List ℕ)) → IsBound slots new ranges more true (binding x found unbound)
    → IsBound slots new ranges more true (binding x found rest)
bound_last x [] rest slots new ranges more bound = bound
bound_last x (o ∷ []) rest slots new ranges more bound = absurd (cc (bound.closed_is))
bound_last x (o ∷ p ∷ os) rest slots new ranges more bound = absurd (cc (bound.closed_is))

bound_before : (x : Name) (found : List ℕ) (rest : BinderValue) (slots new : List (Name × Slot)) (ranges more : List (List ℕ)) → IsBound slots new ranges more false (binding x found unbound)
    → (new ++ rest.slots ≡ slots ++ (binding x found rest).slots) × (more ++ rest.ranges ≡ ranges ++ (binding x found rest).ranges) × (rest.closed ≡ (binding x found rest).closed)
bound_before x [] rest slots new ranges more bound = absurd (cc (bound.closed_is))
bound_before x (o ∷ []) rest slots new ranges more bound =
    (ap (λ l. l ++ rest.slots) bound.slots_are ∙ append_assoc slots _ rest.slots, ap (λ l. l ++ rest.ranges) bound.ranges_are ∙ append_assoc ranges [] rest.ranges, refl)
bound_before x (o ∷ p ∷ os) rest slots new ranges more bound =
    (ap (λ l. l ++ rest.slots) bound.slots_are ∙ append_assoc slots _ rest.slots, ap (λ l. l ++ rest.ranges) bound.ranges_are ∙ append_assoc ranges _ rest.ranges, refl)

-- a variable is bound, where those before it were
module _ (range : List Name → List ℕ) (xs : List TypedValue) (i : ℕ) (y : TypedValue) (at : slice_get xs i ≡ Some y) (x : Name) (named : x ≡ y.item) (found : List ℕ) (fits : IsRange range xs i found)
    (first slots new : List (Name × Slot)) (before ranges more : List (List ℕ)) (whole : BinderValue)
    (slots_left : slots ++ (binder_of range (drop i xs)).slots ≡ first ++ whole.slots) (ranges_left : ranges ++ (binder_of range (drop i xs)).ranges ≡ before ++ whole.ranges)
    (closed_left : (binder_of range (drop i xs)).closed ≡ whole.closed) where
  abbrev rest : BinderValue
  rest = binder_of range (drop (i + 1) xs)

  here : binder_of range (drop i xs) ≡ binding x found rest
  here = rest_at range xs i y at ∙ (ap (λ m. binding m (range y.of) rest) (sym named) ∙ ap (λ r. binding x r rest) (sym (fits y at)))

  pub bound_all : (closed : Bool) → closed ≡ true → IsBound slots new ranges more closed (binding x found unbound) → IsBound first new before more closed whole
  bound_all closed shut bound =
      let is = bound_last x found rest slots new ranges more (subst (λ b. IsBound slots new ranges more b (binding x found unbound)) shut bound) in
      record {
        slots_are = is.slots_are ∙ (ap (λ b. slots ++ b.slots) (sym here) ∙ slots_left);
        ranges_are = is.ranges_are ∙ (ap (λ b. ranges ++ b.ranges) (sym here) ∙ ranges_left);
        closed_is = shut ∙ (is.closed_is ∙ (ap (λ b. b.closed) (sym here) ∙ closed_left));
      }

  pub bound_on : (closed : Bool) → closed ≡ false → IsBound slots new ranges more closed (binding x found unbound) → (new ++ rest.slots ≡ first ++ whole.slots) × (more ++ rest.ranges ≡ before ++ whole.ranges) × (rest.closed ≡ whole.closed)
  bound_on closed on bound =
      let are = bound_before x found rest slots new ranges more (subst (λ b. IsBound slots new ranges more b (binding x found unbound)) on bound) in
      (are.0 ∙ (ap (λ b. slots ++ b.slots) (sym here) ∙ slots_left), are.1 ∙ (ap (λ b. ranges ++ b.ranges) (sym here) ∙ ranges_left), are.2 ∙ (ap (λ b. b.closed) (sym here) ∙ closed_left))

-- ---- the object that alone fits a variable

only_one : (found : List ℕ) (n : ℕ) → only found ≡ Some n → n ∷ [] ≡ found
only_one [] n is = absurd (cc (is))
only_one (o ∷ []) n is = ap (λ q. unwrap_or q n ∷ []) (sym is)
only_one (o ∷ p ∷ os) n is = absurd (cc (is))

pub next_last : (range : List Name → List ℕ) (xs : List TypedValue) (i : ℕ) (found : List ℕ) (last : Option ℕ) → IsRange range xs i found → last ≡ only found → IsLast range xs (i + 1) last
next_last range xs i found last fits is n some y at =
    only_one found n (sym is ∙ some) ∙ fits y (subst (λ k. slice_get xs k ≡ Some y) (omega arith) at)

-- ---- lists that grow

pub pushed : {X Y : Type 0} (f : X → Y) (old new : List X) (x : X) (ys zs whole : List Y) → new ≡ old ++ x ∷ [] → zs ≡ f x ∷ ys → map f old ++ zs ≡ whole → map f new ++ ys ≡ whole
pushed f old new x ys zs whole grown more before =
    ap (λ l. map f l ++ ys) grown ∙ (ap (λ l. l ++ ys) (map-append f old (x ∷ [])) ∙ (append_assoc (map f old) (f x ∷ []) ys ∙ (ap (λ l. map f old ++ l) (sym more) ∙ before)))

pub finished : {X Y : Type 0} (f : X → Y) (old : List X) (zs whole : List Y) → zs ≡ [] → map f old ++ zs ≡ whole → map f old ≡ whole
finished f old zs whole none before = sym (append-nil (map f old)) ∙ (ap (λ l. map f old ++ l) (sym none) ∙ before)

map-reverse : {X Y : Type 0} (f : X → Y) (xs : List X) → map f (reverse xs) ≡ reverse (map f xs)
map-reverse f [] = refl
map-reverse f (x ∷ xs) =
    ap (map f) (reverse-append (x ∷ []) xs) ∙ (map-append f (reverse xs) (x ∷ []) ∙ (ap (λ l. l ++ f x ∷ []) (map-reverse f xs) ∙ sym (reverse-append (f x ∷ []) (map f xs))))

pub turned_round : {X Y : Type 0} (f : X → Y) (old xs : List X) (whole : List Y) → xs ≡ reverse old → map f old ≡ whole → map f xs ≡ reverse whole
turned_round f old xs whole is before = ap (map f) is ∙ (map-reverse f old ∙ ap reverse before)

-- ---- scopes

pub onto_reversed : (ss : List (Name × Slot)) (scope : ScopeValue) → reverse ss ++ scope ≡ onto ss scope
onto_reversed [] scope = refl
onto_reversed (s ∷ ss) scope = ap (λ l. l ++ scope) (reverse-append (s ∷ []) ss) ∙ (append_assoc (reverse ss) (s ∷ []) scope ∙ onto_reversed ss (s ∷ scope))

-- ---- nodes

wrapped-push : {K : Type 0} (node : List ℕ → K → K) (rs : List (List ℕ)) (r : List ℕ) (c : K) → wrapped node (rs ++ r ∷ []) c ≡ wrapped node rs (node r c)
wrapped-push node [] r c = refl
wrapped-push node (q ∷ rs) r c = ap (node q) (wrapped-push node rs r c)

pub popped : {K : Type 0} {B : _} (node : List ℕ → K → K) (left all : List (Vec ℕ B)) (r : Vec ℕ B) (c : K) → all ≡ left ++ r ∷ [] → wrapped node (map range_items left) (node r.items c) ≡ wrapped node (map range_items all) c
popped node left all r c is =
    sym (wrapped-push node (map range_items left) r.items c) ∙ (ap (λ rs. wrapped node rs c) (sym (map-append range_items left (r ∷ []))) ∙ ap (λ rs. wrapped node (map range_items rs) c) (sym is))

-- where one more node is put around what was made
pub node_inside : {K C E B : Type 0} (view : C → K) (node : List ℕ → K → K) (left ranges all : List (Vec ℕ B)) (range : Vec ℕ B) → ranges ≡ left ++ range ∷ [] → (inner old new : Result C E)
    → IfOk old (λ c. IsOkAnd inner (λ i. wrapped node (map range_items ranges) (view c) ≡ wrapped node (map range_items all) (view i))) → IfOk new (λ c. IsOkAnd old (λ o. view c ≡ node range.items (view o)))
    → IfOk new (λ c. IsOkAnd inner (λ i. wrapped node (map range_items left) (view c) ≡ wrapped node (map range_items all) (view i)))
node_inside view node left ranges all range last inner old new so_far made =
    made_known _ _ _ (λ o c h is. also _ _ (λ i k. ap (wrapped node (map range_items left)) is ∙ (popped node left ranges range (view o) last ∙ k)) inner h) old new so_far made
