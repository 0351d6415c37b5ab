-- A text has one answer.
use Rattle.std.proofs.Common.{◌≡◌, List, ℕ, sym, subst, ◌∙◌, ◌⊎◌, inl, inr}
use Rattle.pddl_file_lines.specs.declared.outcome.Outcome.{Outcome}
use Rattle.pddl_file_lines.specs.declared.outcome.Outcome.TheVariants.{Refused}
use Rattle.pddl_file_lines.specs.LinkRefusals.{AreAlike}

-- a text is refused, or the value that it spells is judged
abbrev pub Answers : {V : Type 0} → (V → List ℕ → Type 0) → (List ℕ → List ℕ → Type 0) → (V → List ℕ → Outcome → Type 0) → List ℕ → List ℕ → Outcome → Type 0
Answers {V} Spells Refuses Judged text printed outcome = ((outcome ≡ Refused) × Refuses text printed) ⊎ ((v : V) × Spells v text × Judged v printed outcome)

pub one_answer : {V : Type 0} (Spells : V → List ℕ → Type 0) (Refuses : List ℕ → List ℕ → Type 0) (Judged : V → List ℕ → Outcome → Type 0) (text : List ℕ)
    → ((v w : V) → Spells v text → Spells w text → v ≡ w) → ((v : V) (line : List ℕ) → Spells v text → Refuses text line → ⊥)
    → ((line more : List ℕ) → Refuses text line → Refuses text more → line ≡ more)
    → ((v : V) (printed other : List ℕ) (outcome ended : Outcome) → Judged v printed outcome → Judged v other ended → AreAlike printed other × (outcome ≡ ended))
    → (printed other : List ℕ) (outcome ended : Outcome) → Answers Spells Refuses Judged text printed outcome → Answers Spells Refuses Judged text other ended
    → AreAlike printed other × (outcome ≡ ended)
one_answer Spells Refuses Judged text one not_both line judged printed other outcome ended (inl (is, p)) (inl (same, q)) = (inl (line printed other p q), is ∙ sym same)
one_answer Spells Refuses Judged text one not_both line judged printed other outcome ended (inl (is, p)) (inr (w, spells, q)) = absurd (not_both w printed spells p)
one_answer Spells Refuses Judged text one not_both line judged printed other outcome ended (inr (v, spells, p)) (inl (same, q)) = absurd (not_both v other spells q)
one_answer Spells Refuses Judged text one not_both line judged printed other outcome ended (inr (v, spells, p)) (inr (w, also, q)) =
    judged v printed other outcome ended p (subst (λ x. Judged x other ended) (one w v also spells) q)
