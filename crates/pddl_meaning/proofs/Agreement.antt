-- Tests and numbers that agree at each element of a list.
use Rattle.std.proofs.Common.{◌≡◌, ℕ, ◌+◌, Bool, true, List, [], ◌∷◌, refl, sym, ap, ◌∙◌}
use Rattle.std.specs.Prelude.{Contains, sum_by, bytes_eq}
use Rattle.std.specs.List.{list_any, list_all}
use Rattle.std.proofs.lemmas.List.Sums.{sum_by-cons}
use Rattle.std.proofs.lemmas.Cmp.{lists_equiv, nat_list_eq_equiv}
use Rattle.pddl_problem.specs.Inits.{GroundValue}
use Rattle.pddl_task.specs.Faults.{same_ground}
use Rattle.pddl_task.specs.Names.{Name, same_names}
use Rattle.pddl_task.proofs.Lists.{has_first, has_later, and_left, and_right, bytes_same}
use Rattle.std.proofs.lemmas.Bool.{true≢false}

pub any_agree : {X : Type 0} (q r : X → Bool) (xs : List X) → ((h : X) → Contains xs h → q h ≡ r h) → list_any q xs ≡ list_any r xs
any_agree q r [] same = refl
any_agree q r (x ∷ xs) same =
    let head : q x ≡ r x = same x (has_first x xs) in
    let tail : list_any q xs ≡ list_any r xs = any_agree q r xs (λ h c. same h (has_later x xs h c)) in
    cc

pub all_agree : {X : Type 0} (q r : X → Bool) (xs : List X) → ((h : X) → Contains xs h → q h ≡ r h) → list_all q xs ≡ list_all r xs
all_agree q r [] same = refl
all_agree q r (x ∷ xs) same =
    let head : q x ≡ r x = same x (has_first x xs) in
    let tail : list_all q xs ≡ list_all r xs = all_agree q r xs (λ h c. same h (has_later x xs h c)) in
    cc

pub sum_agree : {X : Type 0} (f g : X → ℕ) (xs : List X) → ((h : X) → Contains xs h → f h ≡ g h) → sum_by f xs ≡ sum_by g xs
sum_agree f g [] same = refl
sum_agree f g (x ∷ xs) same =
    let head : f x ≡ g x = same x (has_first x xs) in
    let tail : sum_by f xs ≡ sum_by g xs = sum_agree f g xs (λ h c. same h (has_later x xs h c)) in
    sum_by-cons f x xs ∙ (ap (λ n. n + sum_by f xs) head ∙ ap (λ n. g x + n) tail) ∙ sym (sum_by-cons g x xs)

pub same_itself : (g : GroundValue) → same_ground g g ≡ true
same_itself g =
    let p : bytes_eq g.name g.name ≡ true = nat_list_eq_equiv.refl g.name in
    let q : same_names g.objects g.objects ≡ true = (lists_equiv nat_list_eq_equiv).refl g.objects in
    cc

names_are : (ms ns : List Name) → same_names ms ns ≡ true → ms ≡ ns
names_are [] [] same = refl
names_are [] (n ∷ ns) same = absurd (true≢false (sym same))
names_are (m ∷ ms) [] same = absurd (true≢false (sym same))
names_are (m ∷ ms) (n ∷ ns) same =
    ap (λ x. x ∷ ms) (bytes_same m n (and_left (bytes_eq m n) (same_names ms ns) same)) ∙ ap (λ xs. n ∷ xs) (names_are ms ns (and_right (bytes_eq m n) (same_names ms ns) same))

-- the same names are one atom
pub one_ground : (g h : GroundValue) → same_ground g h ≡ true → g ≡ h
one_ground g h same =
    let name : g.name ≡ h.name = bytes_same g.name h.name (and_left (bytes_eq g.name h.name) (same_names g.objects h.objects) same) in
    let objects : g.objects ≡ h.objects = names_are g.objects h.objects (and_right (bytes_eq g.name h.name) (same_names g.objects h.objects) same) in
    λ i. record { name = name i; objects = objects i }
