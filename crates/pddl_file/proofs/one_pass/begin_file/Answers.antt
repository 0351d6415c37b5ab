use Rattle.std.proofs.Common.{◌≡◌, ℕ, List, [], ◌∷◌, Option, Some, None, rules, ap, ◌∙◌, sym}
use Rattle.std.specs.Prelude.{IfOk, ok_or}
use Rattle.pddl_token.specs.Names.{folded, name_of}
use Rattle.pddl_file.proofs.Begun.{begins}
use Rattle.pddl_file.proofs.one_pass.begin_file.Goals as goal

-- what holds of a name that is there holds of it where it is answered
if_named : {E : Type 0} (P : List ℕ → Type 0) (o : Option (List ℕ)) (e : E) → ((name : List ℕ) → o ≡ Some name → P name) → IfOk (ok_or o e) P
if_named P None e on = tt
if_named P (Some name) e on = on name (λ i. Some name)

pub returns : goal.returns
returns g c =
    let text = c.args.text.now in
    let (w1, k1, _, l1) = c.in_ok-word_behind.ensures.word [] (rw c.requires.start (search rules)) in
    let (s2, f2, (w2, k2, t2, l2)) = c.in_ok-name_behind.ensures (w1 ∷ []) l1 in
    let (w3, k3, _, l3) = c.in_ok-word_behind-2.ensures.word (w1 ∷ w2 ∷ []) l2 in
    let (s4, f4, (w4, k4, t4, l4)) = c.in_ok-name_behind-2.ensures (w1 ∷ w2 ∷ w3 ∷ []) l3 in
    let (w5, k5, t5, l5) = c.in_ok-name.ensures.word (w1 ∷ w2 ∷ w3 ∷ w4 ∷ []) l4 in
    let (w6, k6, _, l6) = c.in_ok-word_behind-3.ensures.word (w1 ∷ w2 ∷ w3 ∷ w4 ∷ w5 ∷ []) l5 in
    rw c.ok_or.ensures.value
    (if_named _ c.in_ok-new.field-0 _ (λ name is.
    begins c.args.word.now name text _ w1 w2 w3 w4 w5 w6 k1 k2 (ap folded t2 ∙ f2) k3 k4 (ap folded t4 ∙ f4) k5 (ap name_of t5 ∙ sym c.in_ok-new.ensures ∙ is) k6 l6))
