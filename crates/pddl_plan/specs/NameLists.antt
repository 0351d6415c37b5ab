-- Names side by side in one text.
use Rattle.std.specs.Prelude.{◌≡◌, ◌≤◌, ℕ, List, [], ◌∷◌, ◌++◌, Bool, true, false, Option, Some, None, length, IsTrue}
use Rattle.std.specs.List.{list_all}
use Rattle.pddl_token.specs.Names.{is_name}
use Rattle.pddl_plan.specs.Cuts.{cut, last_end, Rises}

-- the parts of a text that end at these places are names; what stands behind the last is none yet
pub record AreNamesIn (text ends : List ℕ) : Type 0 where
  pub rises : Rises 0 ends
  pub within : last_end 0 ends ≤ length text
  pub short : last_end 0 ends ≤ 4294967295
  pub named : IsTrue (list_all is_name (cut text 0 ends))

-- a name was added where there is one, which is answered
abbrev pub AddsName : Bool → Option (List ℕ) → List (List ℕ) → List (List ℕ) → Type 0
AddsName true (Some name) old new = new ≡ old ++ name ∷ []
AddsName false None old new = new ≡ old
AddsName _ _ old new = ⊥
