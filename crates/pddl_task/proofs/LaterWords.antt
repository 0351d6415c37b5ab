-- The words of items that are wrong behind those before them.
use Rattle.std.proofs.Common.{◌≡◌, ◌⊎◌, inl, inr, zero, suc, Bool, true, false, List, [], ◌∷◌, ◌++◌, map, refl, sym, ap, ◌∙◌, subst, arith}
use Rattle.std.specs.Prelude.{Contains}
use Rattle.std.specs.List.{flat_map}
use Rattle.std.proofs.lemmas.List.{append_assoc, append-nil}
use Rattle.std.proofs.lemmas.List.Elements.{Contains-append_left, Contains-append_right, Contains-append_cases}
use Rattle.pddl_domain.specs.Actions.{ActionValue}
use Rattle.pddl_task.specs.Names.{Name, is_in, word_if, wrong_words, repeated, IsWrongBehind}
use Rattle.pddl_task.specs.Places.{action_places}
use Rattle.pddl_task.specs.Faults.{repeated_at, repeated_in_actions}
use Rattle.pddl_task.proofs.Lists.{has_first, has_none}

-- the word where the test holds, and no other
word_told : (b : Bool) (v w : Name) → Contains (word_if b v) w → (b ≡ true) × (v ≡ w)
word_told true v w (zero, low, is) = (refl, is)
word_told true v w (suc i, low, is) = absurd (omega (arith, low))
word_told false v w c = absurd (has_none w c)

told_word : (b : Bool) (v w : Name) → b ≡ true → v ≡ w → Contains (word_if b v) w
told_word true v w h is = subst (λ u. Contains (v ∷ []) u) is (has_first v [])
told_word false v w h is = cc

module _ {X : Type 0} (wrong : List X → X → Bool) (word : X → Name) where
  -- an item of the second list that is wrong behind the first list and those before it
  record IsLater (seen xs : List X) (w : Name) : Type 0 where
    before : List X
    here : X
    after : List X
    xs_are : xs ≡ before ++ here ∷ after
    is_wrong : wrong (seen ++ before) here ≡ true
    word_is : word here ≡ w

  is_later : (seen xs : List X) (w : Name) → Contains (wrong_words wrong word seen xs) w → IsLater seen xs w
  is_later seen [] w c = absurd (has_none w c)
  is_later seen (x ∷ xs) w c =
      elim (Contains-append_cases (word_if (wrong seen x) (word x)) (wrong_words wrong word (seen ++ x ∷ []) xs) w c) as (λ _. IsLater seen (x ∷ xs) w) [
        | inl told ↦
            let t = word_told (wrong seen x) (word x) w told in
            record { before = []; here = x; after = xs; xs_are = refl; is_wrong = ap (λ s. wrong s x) (append-nil seen) ∙ t.0; word_is = t.1 }
        | inr later ↦
            let l = is_later (seen ++ x ∷ []) xs w later in
            record {
              before = x ∷ l.before;
              here = l.here;
              after = l.after;
              xs_are = ap (λ ys. x ∷ ys) l.xs_are;
              is_wrong = ap (λ s. wrong s l.here) (sym (append_assoc seen (x ∷ []) l.before)) ∙ l.is_wrong;
              word_is = l.word_is;
            }
      ]

  later_is : (before seen : List X) (here : X) (after : List X) (w : Name) → wrong (seen ++ before) here ≡ true → word here ≡ w
      → Contains (wrong_words wrong word seen (before ++ here ∷ after)) w
  later_is [] seen here after w h is =
      Contains-append_left (word_if (wrong seen here) (word here)) (wrong_words wrong word (seen ++ here ∷ []) after) w
      (told_word (wrong seen here) (word here) w (ap (λ s. wrong s here) (sym (append-nil seen)) ∙ h) is)
  later_is (x ∷ before) seen here after w h is =
      Contains-append_right (word_if (wrong seen x) (word x)) (wrong_words wrong word (seen ++ x ∷ []) (before ++ here ∷ after)) w
      (later_is before (seen ++ x ∷ []) here after w (ap (λ s. wrong s here) (append_assoc seen (x ∷ []) before) ∙ h) is)

  pub behind : (xs : List X) (w : Name) → Contains (wrong_words wrong word [] xs) w → IsWrongBehind wrong word xs w
  behind xs w c =
      let l = is_later [] xs w c in
      record { before = l.before; here = l.here; after = l.after; xs_are = l.xs_are; is_wrong = l.is_wrong; word_is = l.word_is }

  pub among : (xs : List X) (w : Name) → IsWrongBehind wrong word xs w → Contains (wrong_words wrong word [] xs) w
  among xs w l = subst (λ ys. Contains (wrong_words wrong word [] ys) w) (sym l.xs_are) (later_is l.before [] l.here l.after w l.is_wrong l.word_is)

-- ---- the names of actions, and what stands between them

within : List ActionValue → List Name
within acts = flat_map repeated_at (flat_map action_places acts)

flat_both : {X Y : Type 0} (f : X → List Y) (xs ys : List X) → flat_map f (xs ++ ys) ≡ flat_map f xs ++ flat_map f ys
flat_both f [] ys = refl
flat_both f (x ∷ xs) ys = ap (λ zs. f x ++ zs) (flat_both f xs ys) ∙ sym (append_assoc (f x) (flat_map f xs) (flat_map f ys))

within_more : (a : ActionValue) (acts : List ActionValue) → within (a ∷ acts) ≡ flat_map repeated_at (action_places a) ++ within acts
unfolding within
within_more a acts = flat_both repeated_at (action_places a) (flat_map action_places acts)

-- what stands before the rest: an action's name where it stands twice, and the variables that do in it
pub apart : (seen : List Name) (acts : List ActionValue) (w : Name) → Contains (repeated_in_actions seen acts) w
    → Contains (repeated seen (map (λ a. a.name) acts)) w ⊎ Contains (flat_map repeated_at (flat_map action_places acts)) w
unfolding within
apart seen [] w c = absurd (has_none w c)
apart seen (a ∷ acts) w c =
    let word : List Name = word_if (is_in seen a.name) a.name in
    let inside : List Name = flat_map repeated_at (action_places a) in
    let later : List Name = repeated_in_actions (seen ++ a.name ∷ []) acts in
    let names : List Name = repeated (seen ++ a.name ∷ []) (map (λ b. b.name) acts) in
    elim (Contains-append_cases (word ++ inside) later w c) as (λ _. Contains (word ++ names) w ⊎ Contains (within (a ∷ acts)) w) [
      | inl first ↦
          elim (Contains-append_cases word inside w first) as (λ _. Contains (word ++ names) w ⊎ Contains (within (a ∷ acts)) w) [
            | inl told ↦ inl (Contains-append_left word names w told)
            | inr here ↦ inr (subst (λ ws. Contains ws w) (sym (within_more a acts)) (Contains-append_left inside (within acts) w here))
          ]
      | inr further ↦
          elim (apart (seen ++ a.name ∷ []) acts w further) as (λ _. Contains (word ++ names) w ⊎ Contains (within (a ∷ acts)) w) [
            | inl name ↦ inl (Contains-append_right word names w name)
            | inr variable ↦ inr (subst (λ ws. Contains ws w) (sym (within_more a acts)) (Contains-append_right inside (within acts) w variable))
          ]
    ]

pub joined : (seen : List Name) (acts : List ActionValue) (w : Name)
    → Contains (repeated seen (map (λ a. a.name) acts)) w ⊎ Contains (flat_map repeated_at (flat_map action_places acts)) w → Contains (repeated_in_actions seen acts) w
unfolding within
joined seen [] w (inl c) = absurd (has_none w c)
joined seen [] w (inr c) = absurd (has_none w c)
joined seen (a ∷ acts) w (inl c) =
    let word : List Name = word_if (is_in seen a.name) a.name in
    let inside : List Name = flat_map repeated_at (action_places a) in
    let later : List Name = repeated_in_actions (seen ++ a.name ∷ []) acts in
    elim (Contains-append_cases word (repeated (seen ++ a.name ∷ []) (map (λ b. b.name) acts)) w c) as (λ _. Contains ((word ++ inside) ++ later) w) [
      | inl told ↦ Contains-append_left (word ++ inside) later w (Contains-append_left word inside w told)
      | inr name ↦ Contains-append_right (word ++ inside) later w (joined (seen ++ a.name ∷ []) acts w (inl name))
    ]
joined seen (a ∷ acts) w (inr c) =
    let word : List Name = word_if (is_in seen a.name) a.name in
    let inside : List Name = flat_map repeated_at (action_places a) in
    let later : List Name = repeated_in_actions (seen ++ a.name ∷ []) acts in
    elim (Contains-append_cases inside (within acts) w (subst (λ ws. Contains ws w) (within_more a acts) c)) as (λ _. Contains ((word ++ inside) ++ later) w) [
      | inl here ↦ Contains-append_left (word ++ inside) later w (Contains-append_right word inside w here)
      | inr variable ↦ Contains-append_right (word ++ inside) later w (joined (seen ++ a.name ∷ []) acts w (inr variable))
    ]
