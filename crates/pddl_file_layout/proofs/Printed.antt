-- Texts printed piece by piece, where a write that failed is remembered.
use Rattle.std.proofs.Common.{◌≡◌, ℕ, ◌+◌, ◌≤◌, ◌<◌, List, [], ◌∷◌, ◌++◌, map, length, get_or, take, refl, sym, ap, subst, ◌∙◌, codes, append-nil}
use Rattle.std.specs.Prelude.{Bool, true, false, ◌&&◌, Option, Some, None}
use Rattle.std.specs.List.{flat_map, list_all}
use Rattle.std.specs.Io.KnownBytes.{Appends}
use Rattle.std.proofs.lemmas.List.{take_more, take_all}
use Rattle.std.proofs.lemmas.Grind.{flat_map-append}
use Rattle.pddl_device.specs.Device.{AppendsBeginning, HasFailed}
use Rattle.pddl_device.proofs.Known.{appends_more, beginning_of_more, beginning_after}
use Rattle.pddl_file_layout.specs.Inner.Printing.{PutsBy, Puts}
use Rattle.pddl_file_layout.specs.Inner.Texts.{spaced_by}

-- nothing written is the empty text
appends_nothing : (a : Option (List ℕ)) → Appends a a []
appends_nothing None = tt
appends_nothing (Some xs) = sym (append-nil xs)

puts_by_nothing : (a : Option (List ℕ)) (n : ℕ) (f : Bool) → PutsBy a a n n f f []
puts_by_nothing a n false = (appends_nothing a, refl)
puts_by_nothing a n true = (refl, refl, refl)

pub puts_nothing : (a : Option (List ℕ)) (n : ℕ) (f : Bool) → Puts a a n n f f []
puts_nothing a n f = record { puts = puts_by_nothing a n f }

-- one text behind another
on : (a b c : Option (List ℕ)) (n m k : ℕ) (f g h : Bool) (xs ys : List ℕ) → PutsBy a b n m f g xs → PutsBy b c m k g h ys → PutsBy a c n k f h (xs ++ ys)
on a b c n m k false false false xs ys first second = (appends_more a b c xs ys first.0 second.0, second.1 ∙ first.1)
on a b c n m k false false true xs ys first second = (beginning_after a b c xs ys first.0 second.0, subst (λ i. HasFailed i k) first.1 second.1)
on a b c n m k false true false xs ys first second = absurd (cc (second.0))
on a b c n m k false true true xs ys first second =
    (subst (λ (x : Option (List ℕ)). AppendsBeginning a x (xs ++ ys)) (sym second.1) (beginning_of_more a b xs ys first.0), subst (λ i. HasFailed n i) (sym second.2) first.1)
on a b c n m k true false h xs ys first second = absurd (cc (first.0))
on a b c n m k true true h xs ys first second = (second.0, second.1 ∙ first.1, second.2 ∙ first.2)

pub puts_on : {a b c : Option (List ℕ)} {n m k : ℕ} {f g h : Bool} {xs ys : List ℕ} → Puts a b n m f g xs → Puts b c m k g h ys → Puts a c n k f h (xs ++ ys)
puts_on {a} {b} {c} {n} {m} {k} {f} {g} {h} {xs} {ys} first second = record { puts = on a b c n m k f g h xs ys first.puts second.puts }

-- one text under two names
pub puts_as : {a b : Option (List ℕ)} {n m : ℕ} {f g : Bool} {xs ys : List ℕ} → xs ≡ ys → Puts a b n m f g xs → Puts a b n m f g ys
puts_as {a} {b} {n} {m} {f} {g} e first = subst (Puts a b n m f g) e first

-- ---- one text for each element of a list

passes_push : {V : Type 0} (test : V → Bool) (xs : List V) (x : V) → list_all test xs ≡ true → test x ≡ true → list_all test (xs ++ x ∷ []) ≡ true
passes_push test [] x so_far here = ap (λ b. b && true) here
passes_push test (y ∷ ys) x so_far here = both (test y) (list_all test ys) (list_all test (ys ++ x ∷ [])) so_far (λ rest. passes_push test ys x rest here)
  where
    both : (b c d : Bool) → (b && c) ≡ true → (c ≡ true → d ≡ true) → (b && d) ≡ true
    both false c d e then = absurd (cc (e))
    both true c d e then = then e

module _ {X V : Type 0} (view : X → V) where
  views_more : (xs : List X) (i : ℕ) (d : X) → i < length xs → map view (take (i + 1) xs) ≡ map view (take i xs) ++ view (get_or xs i d) ∷ []
  views_more xs i d lt = ap (map view) (take_more xs i d lt) ∙ map_push (take i xs) (get_or xs i d)
    where
      map_push : (ys : List X) (y : X) → map view (ys ++ y ∷ []) ≡ map view ys ++ view y ∷ []
      map_push [] y = refl
      map_push (z ∷ ys) y = ap (λ (t : List V). view z ∷ t) (map_push ys y)

  -- the text of the next element behind those before it
  pub element_on : (text : V → List ℕ) {a b c : Option (List ℕ)} {n m k : ℕ} {f g h : Bool} (xs : List X) (i : ℕ) (x : X) → i < length xs → x ≡ get_or xs i x
      → Puts a b n m f g (flat_map text (map view (take i xs))) → Puts b c m k g h (text (view x)) → Puts a c n k f h (flat_map text (map view (take (i + 1) xs)))
  element_on text xs i x lt is before here =
      let next = text (view (get_or xs i x)) in
      puts_as (sym (ap (flat_map text) (views_more xs i x lt) ∙ (flat_map-append text (map view (take i xs)) (view (get_or xs i x) ∷ []) ∙ ap (λ (t : List ℕ). flat_map text (map view (take i xs)) ++ t) (append-nil next))))
      (puts_on before (puts_as (ap (λ (y : X). text (view y)) is) here))

  -- the next element behind those before it, all of them behind a space
  pub spaced_on : (text : V → List ℕ) {a b c d : Option (List ℕ)} {n m k l : ℕ} {f g h j : Bool} (xs : List X) (i : ℕ) (x : X) → i < length xs → x ≡ get_or xs i x
      → Puts a b n m f g (spaced_by text (map view (take i xs))) → Puts b c m k g h (codes " ") → Puts c d k l h j (text (view x)) → Puts a d n l f j (spaced_by text (map view (take (i + 1) xs)))
  spaced_on text xs i x lt is before space here = element_on (λ v. codes " " ++ text v) xs i x lt is before (puts_on space here)

  -- the next element passes too
  pub passes_on : (test : V → Bool) (xs : List X) (i : ℕ) (x : X) → i < length xs → x ≡ get_or xs i x → list_all test (map view (take i xs)) ≡ true → test (view x) ≡ true
      → list_all test (map view (take (i + 1) xs)) ≡ true
  passes_on test xs i x lt is so_far here =
      ap (list_all test) (views_more xs i x lt) ∙ passes_push test (map view (take i xs)) (view (get_or xs i x)) so_far (subst (λ (y : X). test (view y) ≡ true) is here)

  -- behind the last element all is written
  pub whole_on : (text : V → List ℕ) {a b : Option (List ℕ)} {n m : ℕ} {f g : Bool} (xs : List X) (i : ℕ) → length xs ≤ i → Puts a b n m f g (flat_map text (map view (take i xs)))
      → Puts a b n m f g (flat_map text (map view xs))
  whole_on text xs i end = puts_as (ap (λ (ys : List X). flat_map text (map view ys)) (take_all i xs end))

  pub spaced_whole : (text : V → List ℕ) {a b : Option (List ℕ)} {n m : ℕ} {f g : Bool} (xs : List X) (i : ℕ) → length xs ≤ i → Puts a b n m f g (spaced_by text (map view (take i xs)))
      → Puts a b n m f g (spaced_by text (map view xs))
  spaced_whole text xs i end = whole_on (λ v. codes " " ++ text v) xs i end

  -- and all passes
  pub whole_passes : (test : V → Bool) (xs : List X) (i : ℕ) → length xs ≤ i → list_all test (map view (take i xs)) ≡ true → list_all test (map view xs) ≡ true
  whole_passes test xs i end so_far = sym (ap (λ (ys : List X). list_all test (map view ys)) (take_all i xs end)) ∙ so_far

map_same : {X : Type 0} (xs : List X) → map (λ (x : X). x) xs ≡ xs
map_same [] = refl
map_same {X} (x ∷ xs) = ap (λ (t : List X). x ∷ t) (map_same xs)

-- the same for words, which are as they are
pub words_on : (text : List ℕ → List ℕ) {a b c : Option (List ℕ)} {n m k : ℕ} {f g h : Bool} (xs : List (List ℕ)) (i : ℕ) (x : List ℕ) → i < length xs → x ≡ get_or xs i x
    → Puts a b n m f g (flat_map text (take i xs)) → Puts b c m k g h (text x) → Puts a c n k f h (flat_map text (take (i + 1) xs))
words_on text xs i x lt is before here =
    puts_as (ap (flat_map text) (map_same (take (i + 1) xs)))
    (element_on (λ (y : List ℕ). y) text xs i x lt is (puts_as (sym (ap (flat_map text) (map_same (take i xs)))) before) here)

pub words_pass : (test : List ℕ → Bool) (xs : List (List ℕ)) (i : ℕ) (x : List ℕ) → i < length xs → x ≡ get_or xs i x → list_all test (take i xs) ≡ true → test x ≡ true → list_all test (take (i + 1) xs) ≡ true
words_pass test xs i x lt is so_far here =
    ap (list_all test) (sym (map_same (take (i + 1) xs))) ∙ passes_on (λ (y : List ℕ). y) test xs i x lt is (ap (list_all test) (map_same (take i xs)) ∙ so_far) here

pub words_whole : (text : List ℕ → List ℕ) {a b : Option (List ℕ)} {n m : ℕ} {f g : Bool} (xs : List (List ℕ)) (i : ℕ) → length xs ≤ i → Puts a b n m f g (flat_map text (take i xs)) → Puts a b n m f g (flat_map text xs)
words_whole text xs i end = puts_as (ap (flat_map text) (take_all i xs end))

pub words_all_pass : (test : List ℕ → Bool) (xs : List (List ℕ)) (i : ℕ) → length xs ≤ i → list_all test (take i xs) ≡ true → list_all test xs ≡ true
words_all_pass test xs i end so_far = sym (ap (list_all test) (take_all i xs end)) ∙ so_far

-- where no write failed, the text was written
pub wrote : {a b : Option (List ℕ)} {n m : ℕ} {g : Bool} {xs : List ℕ} → Puts a b n m false g xs → g ≡ false → Appends a b xs
wrote {g = false} first e = first.puts.0
wrote {g = true} first e = absurd (cc (e))

pub none_failed : {a b : Option (List ℕ)} {n m : ℕ} {g : Bool} {xs : List ℕ} → Puts a b n m false g xs → g ≡ false → m ≡ n
none_failed {g = false} first e = first.puts.1
none_failed {g = true} first e = absurd (cc (e))

-- where one failed, a beginning of the text was written
pub began : {a b : Option (List ℕ)} {n m : ℕ} {g : Bool} {xs : List ℕ} → Puts a b n m false g xs → g ≡ true → AppendsBeginning a b xs
began {g = false} first e = absurd (cc (e))
began {g = true} first e = first.puts.0

pub one_failed : {a b : Option (List ℕ)} {n m : ℕ} {g : Bool} {xs : List ℕ} → Puts a b n m false g xs → g ≡ true → HasFailed n m
one_failed {g = false} first e = absurd (cc (e))
one_failed {g = true} first e = first.puts.1

-- a text that is printed into an empty vector is what that then has
pub all_printed : {n m : ℕ} {g : Bool} {text : List ℕ} (empty first last whole : List ℕ) → empty ≡ [] → Some first ≡ Some empty → Puts (Some first) (Some last) n m false g text → g ≡ false
    → Some whole ≡ Some last → whole ≡ text
all_printed {text = text} empty first last whole none begins printed good ends =
    same whole last ends ∙ wrote printed good ∙ ap (λ (t : List ℕ). t ++ text) (same first empty begins ∙ none)
  where
    same : (xs ys : List ℕ) → Some xs ≡ Some ys → xs ≡ ys
    same xs ys e = cc (e)
