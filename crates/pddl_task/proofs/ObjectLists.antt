-- Objects that are listed again in linked files: each listing says what the first says.
use Rattle.std.proofs.Common.{◌≡◌, Bool, true, false, not, ◌&&◌, List, [], ◌∷◌, ◌++◌, map, refl, sym, ap, ap₂, ◌∙◌, arith, bytes_eq, subst, inl, inr}
use Rattle.std.specs.Prelude.{Contains}
use Rattle.std.specs.List.{list_any}
use Rattle.std.proofs.lemmas.List.Elements.{Contains-append_left, Contains-push}
use Rattle.pddl_formula.specs.TypedLists.{TypedValue}
use Rattle.pddl_domain.specs.Domains.{DomainValue}
use Rattle.pddl_problem.specs.Problems.{ProblemValue}
use Rattle.pddl_task.specs.Names.{Name, same_names, word_if, repeated, is_named, firsts}
use Rattle.pddl_task.specs.Settings.{symbol_of, function_signatures, objects_of}
use Rattle.pddl_task.specs.Faults.{retyped, repeated_in_actions, domain_repeats, problem_repeats}
use Rattle.pddl_task.specs.Linked.{IsLinked}
use Rattle.pddl_task.proofs.Lists.{any_none, both_nil, append-one, append-none, and_left, and_right, nil_parts, has_cases, has_none, has_later, is_kept, bytes_same, same_bytes}
use Rattle.pddl_task.proofs.DistinctNames.{word_none}

-- ---- listings of one name

same_is : (ns ms : List Name) → same_names ns ms ≡ true → ns ≡ ms
same_is [] [] h = refl
same_is [] (m ∷ ms) h = cc
same_is (n ∷ ns) [] h = cc
same_is (n ∷ ns) (m ∷ ms) h =
    ap₂ (λ k ks. k ∷ ks) (bytes_same n m (and_left (bytes_eq n m) (same_names ns ms) h)) (same_is ns ms (and_right (bytes_eq n m) (same_names ns ms) h))

-- the second is listed with another type
abbrev pub Differs : TypedValue → TypedValue → Bool
Differs y x = is_named y.item x && not (same_names y.of x.of)

second_holds : (a b : Bool) → a ≡ true → (a && not b) ≡ false → b ≡ true
second_holds a b h k = grind arith

agree : (y x : TypedValue) → y.item ≡ x.item → Differs y x ≡ false → y.of ≡ x.of
agree y x named h = same_is y.of x.of (second_holds (bytes_eq y.item x.item) (same_names y.of x.of) (same_bytes y.item x.item named) h)

earlier_agrees : (seen xs : List TypedValue) → retyped seen xs ≡ [] → (y x : TypedValue) → Contains seen y → Contains xs x → Differs y x ≡ false
earlier_agrees seen [] h y x before has = absurd (has_none x has)
earlier_agrees seen (z ∷ xs) h y x before has =
    let parts = nil_parts (word_if (list_any (λ w. Differs w z) seen) z.item) (retyped (seen ++ z ∷ []) xs) h in
    elim (has_cases z xs x has) as (λ _. Differs y x ≡ false) [
      | inl same ↦ ap (Differs y) (sym same) ∙ any_none (λ w. Differs w z) seen y (word_none (list_any (λ w. Differs w z) seen) z.item parts.0) before
      | inr later ↦ earlier_agrees (seen ++ z ∷ []) xs parts.1 y x (Contains-append_left seen (z ∷ []) y before) later
    ]

listings_agree : (seen xs : List TypedValue) → retyped seen xs ≡ [] → (y x : TypedValue) → Contains xs y → Contains xs x → y.item ≡ x.item → y.of ≡ x.of
listings_agree seen [] h y x first second named = absurd (has_none y first)
listings_agree seen (z ∷ xs) h y x first second named =
    let rest = (nil_parts (word_if (list_any (λ w. Differs w z) seen) z.item) (retyped (seen ++ z ∷ []) xs) h).1 in
    elim (has_cases z xs y first) as (λ _. y.of ≡ x.of) [
      | inl here ↦ elim (has_cases z xs x second) as (λ _. y.of ≡ x.of) [
        | inl there ↦ ap (λ w. w.of) (sym here ∙ there)
        | inr later ↦ agree y x named (ap (λ w. Differs w x) (sym here) ∙ earlier_agrees (seen ++ z ∷ []) xs rest z x (Contains-push seen z) later)
      ]
      | inr after ↦ elim (has_cases z xs x second) as (λ _. y.of ≡ x.of) [
        | inl there ↦ sym (agree x y (sym named) (ap (λ w. Differs w y) (sym there) ∙ earlier_agrees (seen ++ z ∷ []) xs rest z y (Contains-push seen z) after))
        | inr later ↦ listings_agree (seen ++ z ∷ []) xs rest y x after later named
      ]
    ]

retyped-append : (seen xs ys : List TypedValue) → retyped seen xs ≡ [] → retyped (seen ++ xs) ys ≡ [] → retyped seen (xs ++ ys) ≡ []
retyped-append seen [] ys h k = subst (λ zs. retyped zs ys ≡ []) (append-none seen) k
retyped-append seen (x ∷ xs) ys h k =
    let parts = nil_parts (word_if (list_any (λ w. Differs w x) seen) x.item) (retyped (seen ++ x ∷ []) xs) h in
    both_nil (word_if (list_any (λ w. Differs w x) seen) x.item) (retyped (seen ++ x ∷ []) (xs ++ ys)) parts.0
    (retyped-append (seen ++ x ∷ []) xs ys parts.1 (subst (λ zs. retyped zs ys ≡ []) (sym (append-one seen x xs)) k))

-- ---- each listing is an object

in_firsts : (xs : List TypedValue) → ((y x : TypedValue) → Contains xs y → Contains xs x → y.item ≡ x.item → y.of ≡ x.of) → (x : TypedValue) → Contains xs x → Contains (firsts xs) x
in_firsts [] same x has = has
in_firsts (y ∷ xs) same x has =
    elim (has_cases y xs x has) as (λ _. Contains (firsts (y ∷ xs)) x) [
      | inl here ↦ (0, omega arith, here)
      | inr later ↦
          let inner = in_firsts xs (λ u v c e. same u v (has_later y xs u c) (has_later y xs v e)) x later in
          elim (bytes_eq y.item x.item) as (λ b. bytes_eq y.item x.item ≡ b → Contains (firsts (y ∷ xs)) x) [
            | true ↦ λ named.
                let item = bytes_same y.item x.item named in
                let is : y ≡ x = ap₂ (λ n t. record { item = n; of = t }) item (same y x (0, omega arith, refl) has item) in
                (0, omega arith, is)
            | false ↦ λ apart. has_later y _ x (is_kept (λ z. not (is_named y.item z)) (firsts xs) x inner (ap not apart))
          ] refl
    ]

pub listings_are_objects : (d : DomainValue) (p : ProblemValue) → IsLinked d p → (x : TypedValue) → Contains (d.constants ++ p.objects) x → Contains (objects_of d p) x
listings_are_objects d p linked x has =
    let parts = nil_parts (domain_repeats d) (problem_repeats d p) linked.1.1.1.1.0 in
    let predicates = repeated [] (map symbol_of d.predicates) in
    let functions = repeated [] (map symbol_of (function_signatures d)) in
    let constants = (nil_parts (retyped [] d.constants) predicates (nil_parts (retyped [] d.constants ++ predicates) functions (nil_parts (retyped [] d.constants ++ predicates ++ functions) (repeated_in_actions [] d.actions) parts.0).0).0).0 in
    let objects = (nil_parts (retyped d.constants p.objects) _ parts.1).0 in
    in_firsts (d.constants ++ p.objects) (listings_agree [] (d.constants ++ p.objects) (retyped-append [] d.constants p.objects constants objects)) x has
