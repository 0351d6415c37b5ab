use Rattle.std.proofs.Common.{◌≡◌, ℕ, List, [], ◌∷◌, ◌++◌, length, codes, refl, ap, ◌∙◌}
use Rattle.pddl_file_layout.specs.Inner.Texts.{spaced_by, word_text, type_text}
use Rattle.pddl_file_layout.proofs.Printed.{puts_on, puts_as}
use Rattle.pddl_file_layout.proofs.formula.put_type.Goals as goal

-- the text of a type that is not one primitive
several : (names : List (List ℕ)) → (length names ≡ 1 → ⊥) → codes "(either" ++ (spaced_by word_text names ++ codes ")") ≡ type_text names
several [] other = refl
several (n ∷ []) other = absurd (other refl)
several (n ∷ m ∷ names) other = refl

pub returns-else-names-eq1-clause-printed : goal.returns-else-names-eq1-clause-printed
returns-else-names-eq1-clause-printed g c =
    puts_as (several c.as_slice-names.result.now c.if-names-eq1.false ∙ ap type_text c.as_slice-names.ensures.value)
    (puts_on c.put-else-names-eq1.ensures (puts_on c.put_type_names.ensures c.put-else-names-eq1-2.ensures))
