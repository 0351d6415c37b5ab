-- Tables of what has a name, as it is put into them one after another, each name once.
use Rattle.std.proofs.Common.{◌≡◌, ℕ, Bool, true, false, List, [], ◌∷◌, ◌++◌, map, refl, ap, sym, ◌∙◌, bytes_eq, append-nil, append_assoc}
use Rattle.std.specs.Prelude.{is_some}
use Rattle.std.specs.Borrow.{Bor}
use Rattle.std.specs.Map.{lookup}
use Rattle.std.proofs.lemmas.List.{map-append}
use Rattle.indexmap.specs.IndexMap.{IndexMap, insert_entry}
use Rattle.indexmap.proofs.CallerLemmas.{insert_entry-new}
use Rattle.pddl_task.specs.Names.{Name, is_in, word_if, repeated}
use Rattle.pddl_types.proofs.SignatureTables.{none_found}

by_first : (b : Bool) (n : Name) (rest : List Name) → word_if b n ++ rest ≡ [] → (b ≡ false) × (rest ≡ [])
by_first true n rest h = cc
by_first false n rest h = (refl, h)

-- a table's entries are seen as ys, each with its name
module _ {E Y : Type 0} (seen : E → Y) (symbol : Y → Name) (all : List Y) where
  -- what is held and what is left are all, and no name stands twice
  pub record AreHeld (es : List E) (rest : List Y) : Type 0 where
    pub all_are : map seen es ++ rest ≡ all
    pub once : repeated (map symbol (map seen es)) (map symbol rest) ≡ []

  -- nothing is held
  pub held_none : (es : List E) → es ≡ [] → repeated [] (map symbol all) ≡ [] → AreHeld es all
  held_none es none once = rw none (record { all_are = refl; once = once })

  -- all is
  pub held_all : (es : List E) (rest : List Y) → rest ≡ [] → AreHeld es rest → map seen es ≡ all
  held_all es rest none held = sym (append-nil (map seen es)) ∙ ap (λ ys. map seen es ++ ys) (sym none) ∙ held.all_are

-- the next one is inserted
module _ {V S Y : Type 0} (seen : Bor (List ℕ) × V → Y) (symbol : Y → Name)
    (known : (es : List (Bor (List ℕ) × V)) (n : Name) → is_some (lookup (λ k. bytes_eq n k.now) es) ≡ is_in (map symbol (map seen es)) n) (all : List Y)
    (m next : IndexMap (Bor (List ℕ)) V S) (left rest : List Y) (y : Y) (k : Bor (List ℕ)) (v : V) (front : left ≡ y ∷ rest) (same : seen (k, v) ≡ y) (key : symbol (seen (k, v)) ≡ k.now)
    (held : AreHeld seen symbol all m.entries left) (put : next.entries ≡ insert_entry (λ a b. bytes_eq a.now b.now) m.entries k v) where
  abbrev before : List Name
  before = map symbol (map seen m.entries)

  parts : (is_in before k.now ≡ false) × (repeated (before ++ k.now ∷ []) (map symbol rest) ≡ [])
  parts =
      by_first (is_in before k.now) k.now (repeated (before ++ k.now ∷ []) (map symbol rest))
      (ap (λ n. word_if (is_in before n) n ++ repeated (before ++ n ∷ []) (map symbol rest)) (sym key ∙ ap symbol same) ∙ ap (λ ys. repeated before (map symbol ys)) (sym front) ∙ held.once)

  -- it comes last
  pub last_put : next.entries ≡ m.entries ++ (k, v) ∷ []
  last_put = put ∙ insert_entry-new (λ a b. bytes_eq a.now b.now) m k v (none_found (lookup (λ j. bytes_eq k.now j.now) m.entries) (known m.entries k.now ∙ parts.0))

  pub held_more : AreHeld seen symbol all next.entries rest
  held_more =
      let views : map seen next.entries ≡ map seen m.entries ++ seen (k, v) ∷ [] = ap (map seen) last_put ∙ map-append seen m.entries ((k, v) ∷ []) in
      record {
        all_are = ap (λ ys. ys ++ rest) views ∙ append_assoc (map seen m.entries) (seen (k, v) ∷ []) rest ∙ ap (λ z. map seen m.entries ++ z ∷ rest) same ∙ ap (λ ys. map seen m.entries ++ ys) (sym front) ∙ held.all_are;
        once = ap (λ ys. repeated (map symbol ys) (map symbol rest)) views ∙ ap (λ ns. repeated ns (map symbol rest)) (map-append symbol (map seen m.entries) (seen (k, v) ∷ []) ∙ ap (λ n. before ++ n ∷ []) key) ∙ parts.1;
      }
