-- What stands in lines: names of numbers, and what is added piece by piece.
use Rattle.std.proofs.Common.{◌≡◌, ℕ, ◌+◌, ◌<◌, List, [], ◌++◌, length, get_or, map, take, refl, ap, ap₂, sym, subst, ◌∙◌, append_assoc}
use Rattle.std.specs.Prelude.{Option, Some, None, option_map, slice_get}
use Rattle.std.specs.Option.{IsSome}
use Rattle.std.proofs.lemmas.List.{flat_map_more, length-map, map_more}
use Rattle.std.proofs.lemmas.Option.{get_or_from_slice_get, slice_get-get_or}
use Rattle.pddl_layout.specs.PlanLayout.{spaced, spaced_name}
use Rattle.pddl_linked_plan.specs.LinkedLaws.{name_at}
use Rattle.pddl_task.specs.Names.{Name}

-- a number below how many there are has a name
pub named : {T X : Type 0} (name_of : T → Name) (shown : X → Name) (found : Option X) (ts : List T) (n : ℕ) → option_map shown found ≡ slice_get (map name_of ts) n → n < length ts → IsSome found
named name_of shown None ts n is within = absurd (cc (is, slice_get-get_or (map name_of ts) n [] (subst (λ m. n < m) (sym (length-map ts name_of)) within)))
named name_of shown (Some x) ts n is within = refl

-- the name that is found is that of the number
pub name_found : {X : Type 0} (shown : X → Name) (found : Option X) (x : X) (names : List Name) (n : ℕ) → found ≡ Some x → option_map shown found ≡ slice_get names n → shown x ≡ name_at names n
name_found shown found x names n found_is is = sym (get_or_from_slice_get names n (shown x) [] (sym is ∙ ap (option_map shown) found_is))

-- one more name stands behind those so far, and behind a space
pub spaced_more : (name_of : ℕ → Name) (line old new : List ℕ) (name : Name) (ns : List ℕ) (i : ℕ) → i < length ns → old ≡ line ++ spaced (map name_of (take i ns)) → new ≡ old ++ spaced_name name
    → name ≡ name_of (get_or ns i 0) → new ≡ line ++ spaced (map name_of (take (i + 1) ns))
spaced_more name_of line old new name ns i within old_is new_is name_is =
    new_is
    ∙ ap₂ (λ (t : List ℕ) (n : Name). t ++ spaced_name n) old_is name_is
    ∙ flat_map_more spaced_name line (map name_of (take i ns)) (name_of (get_or ns i 0))
    ∙ ap (λ names. line ++ spaced names) (sym (map_more name_of ns i 0 within))

-- three pieces are added to nothing
pub three_pieces : (empty one two whole a b end : List ℕ) → empty ≡ [] → one ≡ empty ++ a → two ≡ one ++ b → whole ≡ two ++ end → whole ≡ a ++ (b ++ end)
three_pieces empty one two whole a b end none one_is two_is whole_is =
    whole_is ∙ ap (λ (t : List ℕ). t ++ end) (two_is ∙ ap (λ (t : List ℕ). t ++ b) (one_is ∙ ap (λ (t : List ℕ). t ++ a) none)) ∙ append_assoc a b end
