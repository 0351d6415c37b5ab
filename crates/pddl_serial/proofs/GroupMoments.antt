-- The moments of groups, one further.
use Rattle.std.proofs.Common.{◌≡◌, ℕ, suc, ◌+◌, ◌≤◌, ◌<◌, List, [], ◌∷◌, ◌++◌, map, sym, ap, ◌∙◌, length, get_or, drop, drop-cons, add-one, append_assoc, length-append, arith}
use Rattle.std.specs.Prelude.{All}
use Rattle.std.specs.List.{AllByRecursion, concat}
use Rattle.std.proofs.lemmas.List.{nil_from_length}
use Rattle.std.proofs.lemmas.List.Elements.{All-from_recursion}
use Rattle.std.proofs.lemmas.List.Sorted.{length_permutation}
use Rattle.pddl_happenings.proofs.ListedOnce.{as_many}
use Rattle.pddl_happenings.specs.Happenings.{HaveEachOnce}
use Rattle.pddl_happenings.specs.Splits.{IsSplitOf, split_moments}
use Rattle.pddl_serial.proofs.CutLists.{all_joined}

pub moments_more : {X : Type 0} (items : X → List ℕ) (groups : List X) (i : ℕ) (d : X) (old new lent whole : List ℕ) → d ≡ get_or groups i d → i < length groups → lent ≡ items d → new ≡ old ++ map (λ k. i + 1) lent →
    old ++ split_moments (i + 1) (map items (drop i groups)) ≡ whole → new ++ split_moments ((i + 1) + 1) (map items (drop (i + 1) groups)) ≡ whole
moments_more items groups i d old new lent whole at lt same is so_far =
    let next : drop i groups ≡ d ∷ drop (i + 1) groups = drop-cons groups i d lt ∙ (ap (λ x. x ∷ drop (suc i) groups) (sym at) ∙ ap (λ j. d ∷ drop j groups) (sym (add-one i))) in
    let rest : List ℕ = split_moments ((i + 1) + 1) (map items (drop (i + 1) groups)) in
    ap (λ l. l ++ rest) (is ∙ ap (λ l. old ++ map (λ k. i + 1) l) same) ∙ (append_assoc old (map (λ k. i + 1) (items d)) rest ∙ (ap (λ l. old ++ split_moments (i + 1) (map items l)) (sym next) ∙ so_far))

pub moment_more : (m : ℕ) (group : List ℕ) (i : ℕ) (old new whole : List ℕ) → i < length group → new ≡ old ++ m ∷ [] → old ++ map (λ k. m) (drop i group) ≡ whole → new ++ map (λ k. m) (drop (i + 1) group) ≡ whole
moment_more m group i old new whole lt is so_far =
    let next : drop i group ≡ get_or group i 0 ∷ drop (i + 1) group = drop-cons group i 0 lt ∙ ap (λ j. get_or group i 0 ∷ drop j group) (sym (add-one i)) in
    let rest : List ℕ = map (λ k. m) (drop (i + 1) group) in
    ap (λ l. l ++ rest) is ∙ (append_assoc old (m ∷ []) rest ∙ (ap (λ l. old ++ map (λ k. m) l) (sym next) ∙ so_far))

-- ---- from 1 to the count of the steps
each_same : (P : ℕ → Type 0) (i : ℕ) → P i → (g : List ℕ) → AllByRecursion P (map (λ k. i) g)
each_same P i is [] = tt
each_same P i is (k ∷ g) = (is, each_same P i is g)

within_from : (i n : ℕ) (gs : List (List ℕ)) → 1 ≤ i → AllByRecursion (λ g. g ≡ [] → ⊥) gs → i + length (concat gs) ≤ n + 1 → AllByRecursion (λ m. (1 ≤ m) × (m ≤ n)) (split_moments i gs)
within_from i n [] low some room = tt
within_from i n (g ∷ gs) low some room =
    let sum : length (g ++ concat gs) ≡ length g + length (concat gs) = length-append g (concat gs) in
    let one : length g ≡ 0 → ⊥ = λ none. some.0 (nil_from_length g none) in
    all_joined (λ m. (1 ≤ m) × (m ≤ n)) (map (λ k. i) g) (split_moments (i + 1) gs)
    (each_same (λ m. (1 ≤ m) × (m ≤ n)) i (low, omega (arith, sum, one, room)) g)
    (within_from (i + 1) n gs (omega (arith, low)) some.1 (omega (arith, sum, one, room)))

pub moments_within : (n : ℕ) (hs gs : List (List ℕ)) → HaveEachOnce n hs → IsSplitOf hs gs → All (λ m. (1 ≤ m) × (m ≤ n)) (split_moments 1 gs)
moments_within n hs gs each split =
    let many : length (concat hs) ≡ n = as_many n hs each in
    All-from_recursion (λ m. (1 ≤ m) × (m ≤ n)) (split_moments 1 gs)
    (within_from 1 n gs (omega arith) split.none_empty (omega (arith, many, length_permutation (concat hs) (concat gs) split.in_turn.each_once)))
