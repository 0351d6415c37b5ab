-- Names that a plan in making got.
use Rattle.std.proofs.Common.{◌≡◌, ℕ, Bool, true, false, List, [], ◌∷◌, ◌++◌, refl, ap, subst, ◌∙◌}
use Rattle.std.specs.Prelude.{Option, Some, None}
use Rattle.pddl_plan.specs.Building.{Building, AddsWord, with_names}
use Rattle.pddl_token.specs.Names.{is_name, name_of}
use Rattle.pddl_token.proofs.FoldedNames.{name_of_name}

-- a name that was added
pub record GotName (o : Option (List ℕ)) (old new : Building) : Type 0 where
  pub name : List ℕ
  pub some : o ≡ Some name
  pub names : new.names ≡ old.names ++ name ∷ []
  pub moments : new.moments ≡ old.moments
  pub steps : new.steps ≡ old.steps

pub got_name : (is : Bool) (o : Option (List ℕ)) (old new : Building) → is ≡ true → AddsWord is o old new → GotName o old new
got_name true (Some name) old new e adds = record { name = name; some = refl; names = adds.names; moments = adds.moments; steps = adds.steps }
got_name true None old new e adds = absurd adds.names
got_name false o old new e adds = absurd (cc (e))

-- a name that is one
pub name_got : (is : Bool) (name bytes : List ℕ) (old new : Building) → bytes ≡ name → is_name name ≡ true → AddsWord is (name_of bytes) old new → new ≡ with_names old (name ∷ [])
name_got is name bytes old new same named adds =
    let some : name_of bytes ≡ Some name = ap name_of same ∙ name_of_name name named in
    of_some is (subst (λ o. AddsWord is o old new) some adds)
  where
    of_some : (is : Bool) → AddsWord is (Some name) old new → new ≡ with_names old (name ∷ [])
    of_some true adds = λ i. record { moments = adds.moments i; steps = adds.steps i; names = adds.names i }
    of_some false adds = absurd adds.names
