-- The first marked list is found, and nothing else.
use Rattle.std.proofs.Common.{◌≡◌, ◌⊎◌, inl, inr, List, [], ◌∷◌, ◌++◌, Option, Some, None, refl, sym, ap, ◌∙◌}
use Rattle.pddl_token.specs.declared.token.Span.{Span}
use Rattle.pddl_token.specs.Trees.{Tree, Placed, erased}
use Rattle.pddl_items.specs.Items.{span_of}
use Rattle.pddl_sections.specs.Sections.{Rules, AnyOf, HasMark}
use Rattle.pddl_sections.specs.Inner.Verdicts.{mark_or, first_mark}
use Rattle.pddl_items.proofs.Readers.{Reads}

pub none_of : {A : Type 0} (o : Option A) → ((x : A) → o ≡ Some x → ⊥) → o ≡ None
none_of None h = refl
none_of (Some x) h = absurd (h x refl)

mark_or_none : {W : Type 0} (o : Option W) (s : Span) (rest : Option (W × Span)) → mark_or o s rest ≡ None → (o ≡ None) × (rest ≡ None)
mark_or_none None s rest e = (refl, e)
mark_or_none (Some w) s rest e = absurd (cc)

mark_or_some : {W : Type 0} (o : Option W) (s : Span) (rest : Option (W × Span)) (m : W × Span) → mark_or o s rest ≡ Some m
    → ((w : W) × (o ≡ Some w) × (◌≡◌ {A = W × Span} m (w, s))) ⊎ ((o ≡ None) × (rest ≡ Some m))
mark_or_some None s rest m e = inr (refl, e)
mark_or_some (Some w) s rest m e = inl (w, refl, cc)

module _ {P K W : Type 0} (rules : Rules P K W) (p : Placed) (f : Tree → Option W) (reads : Reads (rules.Marked (erased p)) f) where
  missing : (q : Placed) → f (erased q) ≡ None → HasMark rules p q → ⊥
  missing q none (w, m) = let some = reads.complete (erased q) w m in let bad : None ≡ Some w = sym none ∙ some in absurd (cc)

  pub no_mark : (qs : List Placed) → first_mark f qs ≡ None → AnyOf (HasMark rules p) qs → ⊥
  no_mark [] e any = any
  no_mark (q ∷ qs) e (inl m) = missing q (mark_or_none _ _ _ e).0 m
  no_mark (q ∷ qs) e (inr any) = no_mark qs (mark_or_none _ _ _ e).1 any

  pub no_mark_found : (qs : List Placed) → (AnyOf (HasMark rules p) qs → ⊥) → first_mark f qs ≡ None
  no_mark_found [] none = refl
  no_mark_found (q ∷ qs) none =
      rw (none_of (f (erased q)) (λ w e. none (inl (w, reads.sound (erased q) w e)))) (no_mark_found qs (λ any. none (inr any)))

  abbrev pub MarkedIn : List Placed → W → Span → Type 0
  MarkedIn qs w s =
      (before : List Placed) × (at : Placed) × (after : List Placed) × (qs ≡ before ++ at ∷ after)
      × (AnyOf (HasMark rules p) before → ⊥) × rules.Marked (erased p) w (erased at) × (s ≡ span_of at)

  none_more : (q : Placed) (qs : List Placed) → f (erased q) ≡ None → (AnyOf (HasMark rules p) qs → ⊥) → AnyOf (HasMark rules p) (q ∷ qs) → ⊥
  none_more q qs none rest (inl m) = missing q none m
  none_more q qs none rest (inr any) = rest any

  pub mark_found : (qs : List Placed) (m : W × Span) → first_mark f qs ≡ Some m → MarkedIn qs m.0 m.1
  mark_found [] m e = absurd (cc)
  mark_found (q ∷ qs) m e =
      elim (mark_or_some (f (erased q)) (span_of q) (first_mark f qs) m e) [
        | inl h ↦ ([], q, qs, refl, (λ any. any), reads.sound (erased q) m.0 (h.1 ∙ ap Some (sym (ap (λ n. n.0) h.2))), ap (λ n. n.1) h.2)
        | inr h ↦
            let (before, at, after, splits, none, marked, span) = mark_found qs m h.1 in
            (q ∷ before, at, after, ap (λ xs. q ∷ xs) splits, none_more q before h.0 none, marked, span)
      ]

  pub mark_is : (before : List Placed) (at : Placed) (after : List Placed) (w : W) → (AnyOf (HasMark rules p) before → ⊥) → rules.Marked (erased p) w (erased at)
      → first_mark f (before ++ at ∷ after) ≡ Some (w, span_of at)
  mark_is [] at after w none marked = rw (reads.complete (erased at) w marked) refl
  mark_is (b ∷ bs) at after w none marked =
      rw (none_of (f (erased b)) (λ v e. none (inl (v, reads.sound (erased b) v e)))) (mark_is bs at after w (λ any. none (inr any)) marked)
