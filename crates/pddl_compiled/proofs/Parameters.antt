-- An action's parameters and a step's objects.
use Rattle.std.proofs.Common.{◌≡◌, ℕ, true, List, [], ◌∷◌, ◌++◌, map, length, reverse, refl, ap, ◌∙◌, sym, arith, subst}
use Rattle.std.specs.List.{list_all}
use Rattle.std.proofs.lemmas.List.{append-nil, append_assoc, reverse-append}
use Rattle.pddl_formula.specs.TypedLists.{TypedValue}
use Rattle.pddl_task.specs.Names.{Name, is_in, number_in}
use Rattle.pddl_task.specs.Valuations.{Valuation, giving}
use Rattle.pddl_task.proofs.Lists.{and_left, and_right}
use Rattle.pddl_compiled.specs.CompiledMeaning.{FrameValue}
use Rattle.pddl_compiled.specs.Tables.{Tables}
use Rattle.pddl_compiled.specs.Compiler.{ScopeValue, framed, onto}
use Rattle.pddl_compiled.specs.Frames.{Fits, parameter_slot}
use Rattle.pddl_compiled.proofs.Binders.{onto_reversed}

-- objects are put before a frame one after another
before : List ℕ → FrameValue → FrameValue
before [] env = env
before (n ∷ ns) env = before ns (n ∷ env)

before_reversed : (ns : List ℕ) (env : FrameValue) → reverse ns ++ env ≡ before ns env
unfolding before
before_reversed [] env = refl
before_reversed (n ∷ ns) env = ap (λ l. l ++ env) (reverse-append (n ∷ []) ns) ∙ (append_assoc (reverse ns) (n ∷ []) env ∙ before_reversed ns (n ∷ env))

given_fit : (t : Tables) (xs : List TypedValue) (os : List Name) (v : Valuation) (scope : ScopeValue) (env : FrameValue) → length os ≡ length xs → list_all (is_in t.objects) os ≡ true → Fits t v scope env
    → Fits t (giving xs os v) (onto (map parameter_slot xs) scope) (before (map (number_in t.objects) os) env)
unfolding before
given_fit t [] [] v scope env len known h = h
given_fit t [] (o ∷ os) v scope env len known h = absurd (omega (arith, len))
given_fit t (x ∷ xs) [] v scope env len known h = absurd (omega (arith, len))
given_fit t (x ∷ xs) (o ∷ os) v scope env len known h =
    given_fit t xs os ((x.item, o) ∷ v) ((x.item, framed) ∷ scope) (number_in t.objects o ∷ env) (omega (arith, len)) (and_right (is_in t.objects o) (list_all (is_in t.objects) os) known)
    (refl, refl, and_left (is_in t.objects o) (list_all (is_in t.objects) os) known, h)

pub parameters_fit : (t : Tables) (xs : List TypedValue) (os : List Name) → length os ≡ length xs → list_all (is_in t.objects) os ≡ true
    → Fits t (giving xs os []) (reverse (map parameter_slot xs)) (reverse (map (number_in t.objects) os))
parameters_fit t xs os len known =
    let slots : onto (map parameter_slot xs) [] ≡ reverse (map parameter_slot xs) = sym (onto_reversed (map parameter_slot xs) []) ∙ append-nil (reverse (map parameter_slot xs)) in
    let objects : before (map (number_in t.objects) os) [] ≡ reverse (map (number_in t.objects) os) = sym (before_reversed (map (number_in t.objects) os) []) ∙ append-nil (reverse (map (number_in t.objects) os)) in
    subst (λ env. Fits t (giving xs os []) (reverse (map parameter_slot xs)) env) objects
    (subst (λ scope. Fits t (giving xs os []) scope (before (map (number_in t.objects) os) [])) slots (given_fit t xs os [] [] [] len known tt))
