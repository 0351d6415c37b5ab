-- Sections that have content, and what is said of a whole domain or problem.
use Rattle.std.proofs.Common.{◌≡◌, ℕ, ◌<◌, List, [], ◌∷◌, ◌++◌, map, length, suc, refl, sym, ap, ◌∙◌, codes, append_assoc, arith}
use Rattle.std.specs.Prelude.{Bool, true, ◌&&◌}
use Rattle.std.specs.List.{list_all}
use Rattle.pddl_file_layout.specs.Inner.Texts.{spaced_by, section_text}

-- a section with content
filled : {V : Type 0} (opening : List ℕ) (text : V → List ℕ) (vs : List V) → 0 < length vs → opening ++ (spaced_by text vs ++ codes ")\n") ≡ section_text opening text vs
filled opening text [] some = absurd (omega (arith, some))
filled opening text (v ∷ vs) some = refl

pub words_filled : (opening : List ℕ) (text : List ℕ → List ℕ) (xs : List (List ℕ)) → 0 < length xs → opening ++ (spaced_by text xs ++ codes ")\n") ≡ section_text opening text xs
words_filled opening text xs some = filled opening text xs some

length_map : {X V : Type 0} (view : X → V) (xs : List X) → length (map view xs) ≡ length xs
length_map view [] = refl
length_map view (x ∷ xs) = ap (λ n. suc n) (length_map view xs)

pub section_filled : {X V : Type 0} (view : X → V) (opening : List ℕ) (text : V → List ℕ) (xs : List X) → 0 < length xs → opening ++ (spaced_by text (map view xs) ++ codes ")\n") ≡ section_text opening text (map view xs)
section_filled view opening text xs some = filled opening text (map view xs) (omega (arith, some, length_map view xs))

-- a section without content, which passes all tests
pub section_empty : {X V : Type 0} (view : X → V) (opening : List ℕ) (text : V → List ℕ) (xs : List X) → length xs ≡ 0 → [] ≡ section_text opening text (map view xs)
section_empty view opening text [] none = refl
section_empty view opening text (x ∷ xs) none = absurd (omega (arith, none))

pub empty_passes : {X V : Type 0} (view : X → V) (test : V → Bool) (xs : List X) → length xs ≡ 0 → list_all test (map view xs) ≡ true
empty_passes view test [] none = refl
empty_passes view test (x ∷ xs) none = absurd (omega (arith, none))

pub words_empty : (opening : List ℕ) (text : List ℕ → List ℕ) (xs : List (List ℕ)) → length xs ≡ 0 → [] ≡ section_text opening text xs
words_empty opening text [] none = refl
words_empty opening text (x ∷ xs) none = absurd (omega (arith, none))

pub no_words_pass : (test : List ℕ → Bool) (xs : List (List ℕ)) → length xs ≡ 0 → list_all test xs ≡ true
no_words_pass test [] none = refl
no_words_pass test (x ∷ xs) none = absurd (omega (arith, none))

-- a function's text, its signature apart
pub signature_apart : (name parameters type : List ℕ) → codes "(" ++ (name ++ (parameters ++ (codes ") - " ++ type))) ≡ (codes "(" ++ (name ++ (parameters ++ codes ")"))) ++ (codes " - " ++ type)
signature_apart name parameters type =
    sym (ap (λ (x : List ℕ). codes "(" ++ x) (append_assoc name (parameters ++ codes ")") (codes " - " ++ type) ∙ ap (λ (x : List ℕ). name ++ x) (append_assoc parameters (codes ")") (codes " - " ++ type))))

-- ---- all of several tests

pub both : (a b : Bool) → a ≡ true → b ≡ true → (a && b) ≡ true
both a b p q = ap (λ t. t && b) p ∙ q

pub all_seven : (a b c d e f g : Bool) → a ≡ true → b ≡ true → c ≡ true → d ≡ true → e ≡ true → f ≡ true → g ≡ true → (((a && b) && (c && d)) && ((e && f) && g)) ≡ true
all_seven a b c d e f g p q r s t u v =
    both ((a && b) && (c && d)) ((e && f) && g) (both (a && b) (c && d) (both a b p q) (both c d r s)) (both (e && f) g (both e f t u) v)
