-- Actions are read as they are spelled.
use Rattle.std.proofs.Common.{◌≡◌, ℕ, List, [], ◌∷◌, refl, sym, ap, ◌∙◌, subst, codes, inl, inr}
use Rattle.std.specs.Prelude.{Some, option_map, option_and_then}
use Rattle.std.specs.List.{flat_map}
use Rattle.std.specs.Str.{bytes_eq}
use Rattle.pddl_token.specs.Trees.{Tree, leaf, node}
use Rattle.pddl_token.specs.TreeWords.{IsKeyword}
use Rattle.pddl_items.specs.Inner.TreeReading.{name_at, keyword_by, is_keyword_at}
use Rattle.pddl_token.proofs.Options.{map_some, bind_some, test_cases}
use Rattle.pddl_items.proofs.Fronts.{both_some}
use Rattle.pddl_items.proofs.Readers.{name_reads, keyword_sound}
use Rattle.pddl_formula.specs.TypedLists.{TypedValue}
use Rattle.pddl_formula.specs.Formulas.{FormulaValue, conjunction, no_formulas}
use Rattle.pddl_formula_reader.specs.Inner.Reading.{variables_at, condition_at}
use Rattle.pddl_formula_reader.proofs.TypedListLaws.{variables_reads}
use Rattle.pddl_formula_reader.proofs.FormulaLaws.{condition_reads}
use Rattle.pddl_effect.specs.Effects.{EffectValue, conjunction as all_effects, no_effects}
use Rattle.pddl_effect_reader.specs.Inner.EffectReading.{whole_effect_at}
use Rattle.pddl_effect_reader.proofs.EffectLaws.{whole_effect_reads}
use Rattle.pddl_domain.specs.Actions.{ActionValue, Field, parameters, precondition, effect, parameters_in, preconditions_in, effects_in, OnlyOr, IsField, AreFields, IsAction}
use Rattle.pddl_declaration_reader.specs.Inner.ActionReading.{field_at, fields_at, only_or, assembled, action_of}

-- which keyword a tree is, where it is one
keyword_is : (other word : List ℕ) (t : Tree) → IsKeyword word t → is_keyword_at other t ≡ bytes_eq word other
keyword_is other word (leaf w) (kind, is) = ap (λ k. keyword_by k w.text other) kind ∙ ap (λ n. bytes_eq n other) is
keyword_is other word (node ts) none = absurd none

-- ---- fields

field_sound : (key t : Tree) (field : Field) → field_at key t ≡ Some field → IsField field key t
field_sound key t field e =
    elim (test_cases (is_keyword_at (codes ":parameters") key) _ _ _ e) [
      | inl h ↦ (let m = map_some parameters (variables_at t) field h.1 in
          subst (λ g. IsField g key t) m.2 (keyword_sound (codes ":parameters") key h.0, variables_reads.sound t m.0 m.1))
      | inr g ↦
          elim (test_cases (is_keyword_at (codes ":precondition") key) _ _ _ g.1) [
            | inl h ↦ (let m = map_some precondition (condition_at t) field h.1 in
                subst (λ x. IsField x key t) m.2 (keyword_sound (codes ":precondition") key h.0, condition_reads.sound t m.0 m.1))
            | inr i ↦
                elim (test_cases (is_keyword_at (codes ":effect") key) _ _ _ i.1) [
                  | inl h ↦ (let m = map_some effect (whole_effect_at t) field h.1 in
                      subst (λ x. IsField x key t) m.2 (keyword_sound (codes ":effect") key h.0, whole_effect_reads.sound t m.0 m.1))
                  | inr h ↦ absurd (cc (h.1))
                ]
          ]
    ]

field_complete : (key t : Tree) (field : Field) → IsField field key t → field_at key t ≡ Some field
field_complete key t (parameters xs) (word, listed) =
    rw (keyword_is (codes ":parameters") (codes ":parameters") key word, variables_reads.complete t xs listed) refl
field_complete key t (precondition f) (word, is) =
    rw (keyword_is (codes ":parameters") (codes ":precondition") key word, keyword_is (codes ":precondition") (codes ":precondition") key word)
    (ap (option_map precondition) (condition_reads.complete t f is))
field_complete key t (effect f) (word, is) =
    rw (keyword_is (codes ":parameters") (codes ":effect") key word, keyword_is (codes ":precondition") (codes ":effect") key word, keyword_is (codes ":effect") (codes ":effect") key word)
    (ap (option_map effect) (whole_effect_reads.complete t f is))

fields_sound : (ts : List Tree) (fs : List Field) → fields_at ts ≡ Some fs → AreFields fs ts
fields_sound [] [] e = tt
fields_sound [] (f ∷ fs) e = absurd (cc)
fields_sound (k ∷ []) fs e = absurd (cc)
fields_sound (k ∷ t ∷ ts) [] e = let h = both_some (field_at k t) (fields_at ts) [] e in let bad = h.4 in absurd (cc)
fields_sound (k ∷ t ∷ ts) (f ∷ fs) e =
    let h = both_some (field_at k t) (fields_at ts) (f ∷ fs) e in
    let same = h.4 in
    let first : h.0 ≡ f = cc in
    let rest : h.1 ≡ fs = cc in
    (field_sound k t f (h.2 ∙ ap Some first), fields_sound ts fs (h.3 ∙ ap Some rest))

fields_complete : (ts : List Tree) (fs : List Field) → AreFields fs ts → fields_at ts ≡ Some fs
fields_complete [] [] s = refl
fields_complete (t ∷ ts) [] s = absurd s
fields_complete [] (f ∷ fs) s = absurd s
fields_complete (k ∷ []) (f ∷ fs) s = absurd s
fields_complete (k ∷ t ∷ ts) (f ∷ fs) (first, rest) = rw (field_complete k t f first, fields_complete ts fs rest) refl

-- ---- actions

only_or_sound : {X : Type 0} (default : X) (xs : List X) (x : X) → only_or default xs ≡ Some x → OnlyOr default xs x
only_or_sound default [] x e = cc
only_or_sound default (y ∷ []) x e = cc
only_or_sound default (y ∷ z ∷ ys) x e = absurd (cc)

only_or_complete : {X : Type 0} (default : X) (xs : List X) (x : X) → OnlyOr default xs x → only_or default xs ≡ Some x
only_or_complete default [] x e = ap Some (sym e)
only_or_complete default (y ∷ []) x e = ap Some (sym e)
only_or_complete default (y ∷ z ∷ ys) x e = absurd e

abbrev made : List ℕ → List TypedValue → FormulaValue → EffectValue → ActionValue
made n xs f e = record { name = n; parameters = xs; precondition = f; effect = e }

pub action_sound : (ts : List Tree) (a : ActionValue) → action_of ts ≡ Some a → IsAction a ts
action_sound [] a e = absurd (cc)
action_sound (title ∷ ts) a e =
    let b = bind_some (λ n. option_and_then (assembled n) (fields_at ts)) (name_at title) a e in
    let fs = bind_some (assembled b.0) (fields_at ts) a b.2 in
    let lists = flat_map parameters_in fs.0 in
    let conditions = flat_map preconditions_in fs.0 in
    let outcomes = flat_map effects_in fs.0 in
    let x = bind_some (λ xs. option_and_then (λ f. option_map (made b.0 xs f) (only_or (all_effects no_effects) outcomes)) (only_or (conjunction no_formulas) conditions)) (only_or [] lists) a fs.2 in
    let f = bind_some (λ f. option_map (made b.0 x.0 f) (only_or (all_effects no_effects) outcomes)) (only_or (conjunction no_formulas) conditions) a x.2 in
    let m = map_some (made b.0 x.0 f.0) (only_or (all_effects no_effects) outcomes) a f.2 in
    let found : IsAction (made b.0 x.0 f.0 m.0) (title ∷ ts) =
    record {
      title = title;
      rest = ts;
      fields = fs.0;
      trees_are = refl;
      name = name_reads.sound title b.0 b.1;
      fields_are = fields_sound ts fs.0 fs.1;
      parameters_are = only_or_sound [] lists x.0 x.1;
      precondition_is = only_or_sound (conjunction no_formulas) conditions f.0 f.1;
      effect_is = only_or_sound (all_effects no_effects) outcomes m.0 m.1;
    } in
    subst (λ c. IsAction c (title ∷ ts)) m.2 found

pub action_complete : (ts : List Tree) (a : ActionValue) → IsAction a ts → action_of ts ≡ Some a
action_complete ts a s =
    ap action_of s.trees_are ∙
    rw (
      name_reads.complete s.title a.name s.name,
      fields_complete s.rest s.fields s.fields_are,
      only_or_complete [] (flat_map parameters_in s.fields) a.parameters s.parameters_are,
      only_or_complete (conjunction no_formulas) (flat_map preconditions_in s.fields) a.precondition s.precondition_is,
      only_or_complete (all_effects no_effects) (flat_map effects_in s.fields) a.effect s.effect_is,
    ) refl
