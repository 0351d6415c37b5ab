-- Variables in scope and their depths by name.
use Rattle.std.proofs.Common.{◌≡◌, ℕ, ◌+◌, ◌<◌, ◌≤◌, not, ◌==◌, cond, List, [], ◌∷◌, ◌++◌, map, length, drop, Some, None, Result, Ok, refl, ap, sym, ◌∙◌, subst, bytes_eq, get_or, drop-cons, add-one, arith, find, option_map, unwrap_or, nat_le, Bor}
use Rattle.std.specs.Map.{lookup}
use Rattle.std.proofs.lemmas.Bool.Decides.{nat_tests}
use Rattle.std.proofs.lemmas.List.{length-map, length-drop, map-append}
use Rattle.pddl_formula.specs.TypedLists.{TypedValue, typed_view}
use Rattle.pddl_formula.specs.declared.type_names.Typed.{Typed}
use Rattle.pddl_task.specs.Names.{Name, is_in, is_named, item_of, repeated, word_if}
use Rattle.pddl_task.specs.Places.{binding}
use Rattle.pddl_task.proofs.Lists.{bytes_same, same_bytes}
use Rattle.pddl_names.specs.Scopes.{entry_of, bound_in, innermost_of, depth_of, IsScope, entered}
use Rattle.pddl_names.specs.declared.scope.Bound.{Bound}
use Rattle.indexmap.specs.IndexMap.{insert_entry}
use Rattle.pddl_faults.specs.declared.fault.LinkFault.{LinkFault}
use Rattle.pddl_faults.specs.Passes.{Passes}
use Rattle.pddl_faults.specs.Found.{IsFound, numbered}
use Rattle.pddl_faults.proofs.FoundFaults.{IsFoundUpTo, up_to_none, up_to_more, passed_as}
use Rattle.pddl_faults.proofs.ListTurns.{rest_is}
use Rattle.pddl_faults.proofs.PutValues.{lookup_put}
use Rattle.pddl_faults.proofs.SeenItems.{any_more}

-- ---- depths

-- the innermost of a name is the first that is found
pub innermost_found : (n : Name) (es : List (TypedValue × ℕ))
    → option_map (λ (e : TypedValue × ℕ). e.1) (find (λ (e : TypedValue × ℕ). is_named n e.0) es) ≡ cond (depth_of n es == 0) None (Some (innermost_of n es).0)
innermost_found n [] = refl
innermost_found n (e ∷ es) = grind (arith, innermost_found n es)

-- what a table has of a name where a depth is put into it
innermost_put : (table : List (Bor Name × (ℕ × ℕ))) (k : Bor Name) (d : ℕ × ℕ) (n : Name)
    → unwrap_or (lookup (λ j. bytes_eq n j.now) (insert_entry (λ a c. bytes_eq a.now c.now) table k d)) (0, 0) ≡ cond (bytes_eq n k.now) d (unwrap_or (lookup (λ j. bytes_eq n j.now) table) (0, 0))
innermost_put table k d n = rw (lookup_put table k d n) (grind arith)

-- no depth is above all that is in scope
pub depth_low : (n : Name) (es : List (TypedValue × ℕ)) → depth_of n es ≤ length es
depth_low n [] = omega arith
depth_low n (e ∷ es) = grind (arith, depth_low n es)

module _ {A : Type 0} where
  abbrev pub entries : List (Bound A) → List (TypedValue × ℕ)
  entries bs = map entry_of bs

  -- one more, at this depth
  pub scope_more : (bs : List (Bound A)) (table : List (Bor Name × (ℕ × ℕ))) (b : Bound A) (k : Bor Name) (depth : ℕ) → k.now ≡ b.variable.now.name
      → b.hidden ≡ innermost_of k.now (entries bs) → depth ≡ length bs + 1 → IsScope bs table → IsScope (b ∷ bs) (insert_entry (λ a c. bytes_eq a.now c.now) table k (b.number, depth))
  scope_more bs table b k depth named hides deep is = record {
    hidden = (subst (λ n. b.hidden ≡ innermost_of n (entries bs)) named hides, is.hidden);
    innermost = λ n. rw (innermost_put table k (b.number, depth) n, is.innermost n, named) (ap (λ d. cond (bytes_eq n b.variable.now.name) (b.number, d) (innermost_of n (entries bs))) (omega (arith, deep, length-map bs entry_of)));
  }

  -- the innermost is gone, and what it hid is seen
  pub scope_less : (bs : List (Bound A)) (table : List (Bor Name × (ℕ × ℕ))) (b : Bound A) (k : Bor Name) → k.now ≡ b.variable.now.name → IsScope (b ∷ bs) table
      → IsScope bs (insert_entry (λ a c. bytes_eq a.now c.now) table k b.hidden)
  scope_less bs table b k named is = record {
    hidden = is.hidden.1;
    innermost = λ n. rw (innermost_put table k b.hidden n, is.innermost n, named) (grind (arith, bytes_same n b.variable.now.name, is.hidden.0));
  }

  -- its name has an innermost
  pub scope_there : (bs : List (Bound A)) (table : List (Bor Name × (ℕ × ℕ))) (b : Bound A) (n : Name) → n ≡ b.variable.now.name → IsScope (b ∷ bs) table → lookup (λ j. bytes_eq n j.now) table ≡ None → ⊥
  scope_there bs table b n named is none = grind (arith, is.innermost n, same_bytes n b.variable.now.name named, none)

-- ---- what a list binds

-- it is bound where all its variables are entered
pub entered_bound : (xs : List TypedValue) (numbers : List ℕ) (es : List (TypedValue × ℕ)) → length numbers ≡ length xs → bound_in (entered xs numbers es) ≡ binding xs (bound_in es)
entered_bound [] numbers es same = refl
entered_bound (x ∷ xs) [] es same = absurd (omega (arith, same))
entered_bound (x ∷ xs) (n ∷ numbers) es same = entered_bound xs numbers ((x, n) ∷ es) (omega (arith, same))

-- ---- the variables of a list one after another

-- what was entered of a list: the rest is entered behind it, the names that were seen are those whose innermost variable lies above what was in scope, and
-- of the variables that stand twice those of the rest are still to be found
pub record IsEnteredUpTo {A : Type 0} (items : List (Typed A)) (numbers : List ℕ) (old now : List (TypedValue × ℕ)) (i : ℕ) (found : Result (Unit {0}) LinkFault) : Type 0 where
  pub left : entered (map typed_view (drop i items)) (drop i numbers) now ≡ entered (map typed_view items) numbers old
  pub behind : drop i now ≡ old
  pub seen : List Name
  pub above : (n : Name) → is_in seen n ≡ not (nat_le (depth_of n now) (length old))
  pub so_far : IsFoundUpTo (numbered 24 (repeated seen (map item_of (map typed_view (drop i items))))) (numbered 24 (repeated [] (map item_of (map typed_view items)))) found

module _ {A : Type 0} {items : List (Typed A)} {numbers : List ℕ} {old : List (TypedValue × ℕ)} where
  pub none_entered : IsEnteredUpTo items numbers old old 0 (Ok tt)
  none_entered = record { left = refl; behind = refl; seen = []; above = λ n. let low = depth_low n old in grind (arith, nat_tests); so_far = up_to_none }

  module _ {now : List (TypedValue × ℕ)} {i : ℕ} {found : Result (Unit {0}) LinkFault} (so : IsEnteredUpTo items numbers old now i found) where
    -- one more variable, which is new in the list where what it hides does not lie above what was in scope
    pub entered_more : {both : Result (Unit {0}) LinkFault} (x : Typed A) (hidden : ℕ) (own : Result (Unit {0}) LinkFault) → length numbers ≡ length items → i < length items → x ≡ get_or items i x
        → hidden ≡ depth_of x.name now → Passes 24 (word_if (not (nat_le hidden (length old))) x.name) own
        → ((xs ys : List (ℕ × Name)) → IsFound xs found → IsFound ys own → IsFound (xs ++ ys) both) → IsEnteredUpTo items numbers old ((typed_view x, get_or numbers i 0) ∷ now) (i + 1) both
    entered_more x hidden own many low is hides once lower = record {
      left = rw (← so.left, rest, number) refl;
      behind = rw add-one so.behind;
      seen = so.seen ++ x.name ∷ [];
      above = λ m. rw (any_more (bytes_eq m) so.seen x.name, so.above m) (grind (arith, nat_tests, deep));
      so_far =
          up_to_more (numbered 24 (word_if (is_in so.seen x.name) x.name)) own
          (rw rest (map-append (λ (w : Name). (24, w)) (word_if (is_in so.seen x.name) x.name) (repeated (so.seen ++ x.name ∷ []) (map item_of (map typed_view (drop (i + 1) items))))))
          lower (passed_as 24 own (ap (λ b. word_if b x.name) (ap (λ d. not (nat_le d (length old))) hides ∙ sym (so.above x.name))) once) so.so_far;
    }
      where
        rest : drop i items ≡ x ∷ drop (i + 1) items
        rest = rest_is items i x low is

        number : drop i numbers ≡ get_or numbers i 0 ∷ drop (i + 1) numbers
        number = let inside : i < length numbers = omega arith in rw (add-one, drop-cons numbers i 0) refl

        deep : length old ≤ length now
        deep = omega (arith, length-drop i now, ap length so.behind)
