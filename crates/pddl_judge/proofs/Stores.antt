-- Sets of a store that grows.
use Rattle.pddl_judge.specs.declared.touch.Touched.{Touched}
use Rattle.std.proofs.Common.{◌≡◌, Bool}
use Rattle.pddl_judge.specs.Touches.{Owned, touch_in}

module _ {T A : Type 0} (owns grown : T → Type 0) (c d : T → A → Bool) (keeps : (t : T) → owns t → grown t) (same : (t : T) → owns t → d t ≡ c t) where
  pub owned_grown : (t : Touched T) → Owned owns t → Owned grown t
  owned_grown t o = (keeps t.reads o.0, keeps t.adds o.1, keeps t.dels o.2)

  pub touch_grown : (t : Touched T) → Owned owns t → touch_in d t ≡ touch_in c t
  touch_grown t o = λ i. record { reads = same t.reads o.0 i; adds = same t.adds o.1 i; dels = same t.dels o.2 i }
