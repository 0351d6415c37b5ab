-- What is found where a value was put at a name.
use Rattle.std.proofs.Common.{◌≡◌, ℕ, Bool, ◌||◌, cond, List, [], ◌∷◌, map, Option, Some, refl, bytes_eq, arith, is_some, find, Bor}
use Rattle.std.specs.Map.{lookup}
use Rattle.std.specs.Cmp.Lexicographic.{nat_list_eq_equiv}
use Rattle.std.proofs.lemmas.Grind.{common_steps}
use Rattle.pddl_formula.specs.TypedLists.{TypedValue}
use Rattle.pddl_task.specs.Names.{Name, is_in, is_named, item_of}
use Rattle.indexmap.specs.IndexMap.{insert_entry}

pub found_or : {X : Type 0} (b : Bool) (x : X) (o : Option X) → is_some (cond b (Some x) o) ≡ b || is_some o
found_or b x o = grind arith

-- whether something of a name is there
pub is_there : (xs : List TypedValue) (n : Name) → is_some (find (is_named n) xs) ≡ is_in (map item_of xs) n
is_there [] n = refl
is_there (x ∷ xs) n = grind (arith, is_there xs n)

pub lookup_put : {V : Type 0} (es : List (Bor (List ℕ) × V)) (k : Bor (List ℕ)) (v : V) (n : Name)
    → lookup (λ j. bytes_eq n j.now) (insert_entry (λ a b. bytes_eq a.now b.now) es k v) ≡ cond (bytes_eq n k.now) (Some v) (lookup (λ j. bytes_eq n j.now) es)
lookup_put [] k v n = refl
lookup_put (e ∷ es) k v n = grind (arith, common_steps, lookup_put es k v n, nat_list_eq_equiv.symm, nat_list_eq_equiv.congr)
