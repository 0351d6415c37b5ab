-- A test of effects that holds where it does for some of them.
use Rattle.std.proofs.Common.{◌≡◌, ℕ, ◌+◌, ◌<◌, Bool, true, false, ◌||◌, List, map, length, get_or, drop, sym, ap, ◌∙◌, subst}
use Rattle.pddl_effect.specs.declared.effect.Effect.{Effect}
use Rattle.pddl_effect.specs.Effects.{EffectValue, EffectValues, effect, effect_view, effects_of}
use Rattle.pddl_faults.proofs.ViewTurns.{effects-drop}

front : {A : Type 0} (test : EffectValue → Bool) (some : EffectValues → Bool) (step : (e : EffectValue) (es : EffectValues) → some (effect e es) ≡ test e || some es)
    (items xs : List (Effect A)) (i : ℕ) (x : Effect A) (whole : Bool) → items ≡ xs → i < length items → x ≡ get_or items i x
    → some (effects_of (map effect_view (drop i xs))) ≡ whole → test (effect_view x) || some (effects_of (map effect_view (drop (i + 1) xs))) ≡ whole
front test some step items xs i x whole same h at is =
    let lt : i < length xs = subst (λ (ys : List (Effect _)). i < length ys) same h in
    let here : x ≡ get_or xs i x = at ∙ ap (λ (ys : List (Effect _)). get_or ys i x) same in
    let rest = effects_of (map effect_view (drop (i + 1) xs)) in
    ap (λ e. test (effect_view e) || some rest) here ∙ sym (step (effect_view (get_or xs i x)) rest) ∙ sym (ap some (effects-drop xs i x lt)) ∙ is

-- it holds for the one where a walk over a list has come to
pub holds_at : {A : Type 0} (test : EffectValue → Bool) (some : EffectValues → Bool) (step : (e : EffectValue) (es : EffectValues) → some (effect e es) ≡ test e || some es)
    (items xs : List (Effect A)) (i : ℕ) (x : Effect A) (whole : Bool) → items ≡ xs → i < length items → x ≡ get_or items i x
    → some (effects_of (map effect_view (drop i xs))) ≡ whole → test (effect_view x) ≡ true → true ≡ whole
holds_at test some step items xs i x whole same h at is holds =
    ap (λ b. b || some (effects_of (map effect_view (drop (i + 1) xs)))) (sym holds) ∙ front test some step items xs i x whole same h at is

-- or it does not, and the walk goes on
pub fails_at : {A : Type 0} (test : EffectValue → Bool) (some : EffectValues → Bool) (step : (e : EffectValue) (es : EffectValues) → some (effect e es) ≡ test e || some es)
    (items xs : List (Effect A)) (i : ℕ) (x : Effect A) (whole : Bool) → items ≡ xs → i < length items → x ≡ get_or items i x
    → some (effects_of (map effect_view (drop i xs))) ≡ whole → test (effect_view x) ≡ false → some (effects_of (map effect_view (drop (i + 1) xs))) ≡ whole
fails_at test some step items xs i x whole same h at is fails =
    ap (λ b. b || some (effects_of (map effect_view (drop (i + 1) xs)))) (sym fails) ∙ front test some step items xs i x whole same h at is
