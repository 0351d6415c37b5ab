-- Sections in their canonical order: what they add, that none repeats another, and the file that they stand in.
use Rattle.std.proofs.Common.{◌≡◌, ℕ, ◌+◌, ◌≤◌, ◌<◌, List, [], ◌∷◌, ◌++◌, map, refl, sym, ap, ◌∙◌, subst, arith, inl, inr, codes}
use Rattle.std.specs.Prelude.{◌⊎◌, Some}
use Rattle.std.specs.List.{flat_map}
use Rattle.pddl_token.specs.declared.token.Span.{Span}
use Rattle.pddl_token.specs.Trees.{Tree, Placed, placed_leaf, placed_node, placed_of, erased, all_erased}
use Rattle.pddl_token.specs.TreeWords.{list, Each, IsWord}
use Rattle.pddl_items.specs.Inner.TreeReading.{placed_items}
use Rattle.pddl_items.proofs.TreeLists.{all_erased_list}
use Rattle.pddl_sections.specs.Sections.{AnyOf, AllOf}
use Rattle.pddl_sections.specs.Files.{IsTitle, IsOpened}
use Rattle.pddl_sections.proofs.FileLaws.{placed_of_items}
use Rattle.pddl_file.specs.declared.keyword.SectionKeyword.{SectionKeyword}
use Rattle.pddl_file.specs.Keywords.{IsHeaded, IsSingle}
use Rattle.pddl_file.proofs.KeywordLaws.{list_inj, key_reads}
use Rattle.pddl_file_layout.specs.FormulaTrees.{name_tree}
use Rattle.pddl_file_layout.specs.Inner.PartLists.{part_list}

-- ---- lists

pub each_append : {A : Type 0} (Spells : A → Tree → Type 0) (xs ys : List A) (ts us : List Tree) → Each Spells xs ts → Each Spells ys us → Each Spells (xs ++ ys) (ts ++ us)
each_append Spells [] ys [] us first second = second
each_append Spells [] ys (t ∷ ts) us first second = absurd first
each_append Spells (x ∷ xs) ys [] us first second = absurd first
each_append Spells (x ∷ xs) ys (t ∷ ts) us (here, rest) second = (here, each_append Spells xs ys ts us rest second)

-- ---- what sections add

module _ {P X Y : Type 0} (add : P → List X) (make : List Y → P) where
  pub adds_nothing : ((ys : List Y) → add (make ys) ≡ []) → (ys : List Y) (rest : List P) → flat_map add (part_list make ys ++ rest) ≡ flat_map add rest
  adds_nothing none [] rest = refl
  adds_nothing none (y ∷ ys) rest = ap (λ (xs : List X). xs ++ flat_map add rest) (none (y ∷ ys))

pub adds_its_own : {P X : Type 0} (add : P → List X) (make : List X → P) → ((xs : List X) → add (make xs) ≡ xs) → (xs : List X) (rest : List P) → flat_map add (part_list make xs ++ rest) ≡ xs ++ flat_map add rest
adds_its_own add make own [] rest = refl
adds_its_own {X = X} add make own (x ∷ xs) rest = ap (λ (ys : List X). ys ++ flat_map add rest) (own (x ∷ xs))

pub none_add : {P X Y : Type 0} (add : P → List X) (make : Y → P) → ((y : Y) → add (make y) ≡ []) → (ys : List Y) → flat_map add (map make ys) ≡ []
none_add add make none [] = refl
none_add {X = X} add make none (y ∷ ys) = ap (λ (xs : List X). xs ++ flat_map add (map make ys)) (none y) ∙ none_add add make none ys

pub each_adds : {P X : Type 0} (add : P → List X) (make : X → P) → ((x : X) → add (make x) ≡ x ∷ []) → (xs : List X) → flat_map add (map make xs) ≡ xs
each_adds add make one [] = refl
each_adds {X = X} add make one (x ∷ xs) = ap (λ (ys : List X). ys ++ flat_map add (map make xs)) (one x) ∙ ap (λ (ys : List X). x ∷ ys) (each_adds add make one xs)

-- ---- no section repeats another

one_key : (t : Tree) (k l : SectionKeyword) → IsHeaded k t → IsHeaded l t → k ≡ l
one_key t k l first second = let same : Some k ≡ Some l = sym (key_reads.complete t k first) ∙ key_reads.complete t l second in cc

-- the keyword of a section among others
key_among : (ks : List SectionKeyword) (ts before after : List Tree) (t : Tree) (k : SectionKeyword) → Each IsHeaded ks ts → ts ≡ before ++ t ∷ after → IsHeaded k t → AnyOf (λ l. l ≡ k) ks
key_among [] [] [] after t k each e has = absurd (cc (e))
key_among [] [] (b ∷ before) after t k each e has = absurd (cc (e))
key_among [] (u ∷ ts) before after t k each e has = absurd each
key_among (l ∷ ks) [] before after t k each e has = absurd each
key_among (l ∷ ks) (u ∷ ts) [] after t k (here, rest) e has =
    let same : u ≡ t = cc (e) in inl (one_key t l k (subst (IsHeaded l) same here) has)
key_among (l ∷ ks) (u ∷ ts) (b ∷ before) after t k (here, rest) e has =
    let others : ts ≡ before ++ t ∷ after = cc (e) in inr (key_among ks ts before after t k rest others has)

module _ (rank : SectionKeyword → ℕ) where
  -- keywords in their order, those that stand once only once
  abbrev pub Rising : ℕ → List SectionKeyword → Type 0
  Rising n [] = Unit {0}
  Rising n (k ∷ ks) = (n ≤ rank k) × ((IsSingle k × Rising (rank k + 1) ks) ⊎ ((IsSingle k → ⊥) × Rising (rank k) ks))

  pub rising_from : (n m : ℕ) (ks : List SectionKeyword) → n ≤ m → Rising m ks → Rising n ks
  rising_from n m [] le rising = tt
  rising_from n m (k ∷ ks) le (here, rest) = (omega (arith, le, here), rest)

  above : (n : ℕ) (ks : List SectionKeyword) → Rising n ks → AllOf (λ l. n ≤ rank l) ks
  above n [] rising = tt
  above n (k ∷ ks) (here, inl (single, rest)) = (here, above n ks (rising_from n (rank k + 1) ks (omega (arith, here)) rest))
  above n (k ∷ ks) (here, inr (many, rest)) = (here, above n ks (rising_from n (rank k) ks here rest))

  not_among : (n : ℕ) (k : SectionKeyword) (ks : List SectionKeyword) → rank k < n → AllOf (λ l. n ≤ rank l) ks → AnyOf (λ l. l ≡ k) ks → ⊥
  not_among n k [] lt all any = any
  not_among n k (l ∷ ks) lt (here, rest) (inl is) = let low : n ≤ rank k = subst (λ j. n ≤ rank j) is here in absurd (omega (arith, lt, low))
  not_among n k (l ∷ ks) lt (here, rest) (inr any) = not_among n k ks lt rest any

  pub never_repeats : (n : ℕ) (ks : List SectionKeyword) (ts : List Tree) → Each IsHeaded ks ts → Rising n ks → (before : List Tree) (t : Tree) (after : List Tree) → ts ≡ before ++ t ∷ after
      → (k : SectionKeyword) → IsSingle k → IsHeaded k t → AnyOf (IsHeaded k) before → ⊥
  never_repeats n [] [] each rising [] t after e k single has any = any
  never_repeats n [] [] each rising (b ∷ before) t after e k single has any = absurd (cc (e))
  never_repeats n [] (u ∷ ts) each rising before t after e k single has any = absurd each
  never_repeats n (l ∷ ks) [] each rising before t after e k single has any = absurd each
  never_repeats n (l ∷ ks) (u ∷ ts) (here, rest) (low, inl more) [] t after e k single has any = any
  never_repeats n (l ∷ ks) (u ∷ ts) (here, rest) (low, inr more) [] t after e k single has any = any
  never_repeats n (l ∷ ks) (u ∷ ts) (here, rest) (low, inl (once, more)) (b ∷ before) t after e k single has (inl stood) =
      let same : u ≡ b = cc (e) in
      let others : ts ≡ before ++ t ∷ after = cc (e) in
      let is : l ≡ k = one_key b l k (subst (IsHeaded l) same here) stood in
      not_among (rank l + 1) k ks (subst (λ j. rank j < rank l + 1) is (omega arith)) (above (rank l + 1) ks more) (key_among ks ts before after t k rest others has)
  never_repeats n (l ∷ ks) (u ∷ ts) (here, rest) (low, inr (many, more)) (b ∷ before) t after e k single has (inl stood) =
      let same : u ≡ b = cc (e) in
      let is : l ≡ k = one_key b l k (subst (IsHeaded l) same here) stood in
      many (subst IsSingle (sym is) single)
  never_repeats n (l ∷ ks) (u ∷ ts) (here, rest) (low, inl (once, more)) (b ∷ before) t after e k single has (inr any) =
      let others : ts ≡ before ++ t ∷ after = cc (e) in never_repeats (rank l + 1) ks ts rest more before t after others k single has any
  never_repeats n (l ∷ ks) (u ∷ ts) (here, rest) (low, inr (many, more)) (b ∷ before) t after e k single has (inr any) =
      let others : ts ≡ before ++ t ∷ after = cc (e) in never_repeats (rank l) ks ts rest more before t after others k single has any

  -- a section that may be absent
  pub rising_part : {P X : Type 0} (key : P → SectionKeyword) (make : List X → P) (k : SectionKeyword) → ((xs : List X) → key (make xs) ≡ k) → IsSingle k → (n : ℕ) (xs : List X) (rest : List P) → n ≤ rank k
      → Rising (rank k + 1) (map key rest) → Rising n (map key (part_list make xs ++ rest))
  rising_part key make k is single n [] rest le rising = rising_from n (rank k + 1) (map key rest) (omega (arith, le)) rising
  rising_part key make k is single n (x ∷ xs) rest le rising =
      subst (λ j. Rising n (j ∷ map key rest)) (sym (is (x ∷ xs))) (le, inl (single, rising))

  -- sections that may stand again
  pub rising_many : {P X : Type 0} (key : P → SectionKeyword) (make : X → P) (k : SectionKeyword) → ((x : X) → key (make x) ≡ k) → (IsSingle k → ⊥) → (n : ℕ) (xs : List X) → n ≤ rank k → Rising n (map key (map make xs))
  rising_many key make k is many n [] le = tt
  rising_many key make k is many n (x ∷ xs) le =
      subst (λ j. Rising n (j ∷ map key (map make xs))) (sym (is x)) (le, inr (many, rising_many key make k is many (rank k) xs (omega arith)))

-- ---- the file

-- an item that is a list
pub placed_list : (p : Placed) (ts : List Tree) → erased p ≡ list ts → (span : Span) × (items : List Placed) × (p ≡ placed_node span (placed_of items)) × (map erased items ≡ ts)
placed_list (placed_leaf w) ts e = absurd (cc (e))
placed_list (placed_node span ps) ts e = (
  span,
  placed_items ps,
  ap (placed_node span) (sym (placed_of_items ps)),
  list_inj (map erased (placed_items ps)) ts
      (ap (λ us. Tree.node us) (sym (all_erased_list (placed_items ps))) ∙ (ap (λ qs. Tree.node (all_erased qs)) (placed_of_items ps) ∙ e)),
)

-- items that are one list of a definition, a title and these sections
pub opened_as : (word name : List ℕ) (rest : List Tree) (title : Tree) (items : List Placed) → map erased items ≡ list (name_tree (codes "define") ∷ title ∷ rest) ∷ []
    → ((t : Tree) → t ≡ title → IsTitle word name t) → (sections : List Placed) × IsOpened word name sections items × (map erased sections ≡ rest)
opened_as word name rest title [] e titled = absurd (cc (e))
opened_as word name rest title (p ∷ q ∷ items) e titled = absurd (cc (e))
opened_as word name rest title (p ∷ []) e titled =
    let is : erased p ≡ list (name_tree (codes "define") ∷ title ∷ rest) = cc (e) in
    let (span, inner, shape, trees) = placed_list p (name_tree (codes "define") ∷ title ∷ rest) is in
    by_inner inner span shape trees
  where
    by_inner : (inner : List Placed) (span : Span) → p ≡ placed_node span (placed_of inner) → map erased inner ≡ name_tree (codes "define") ∷ title ∷ rest
        → (sections : List Placed) × IsOpened word name sections (p ∷ []) × (map erased sections ≡ rest)
    by_inner [] span shape trees = absurd (cc (trees))
    by_inner (a ∷ []) span shape trees = absurd (cc (trees))
    by_inner (a ∷ b ∷ sections) span shape trees =
        let define : erased a ≡ name_tree (codes "define") = cc (trees) in
        let second : erased b ≡ title = cc (trees) in
        let others : map erased sections ≡ rest = cc (trees) in
        (sections, record { file = p; only = refl; opens = record { first = a; title = b; span = span; is_list = shape; is_define = subst (IsWord (codes "define")) (sym define) (refl, refl); is_title = titled (erased b) second } }, others)
