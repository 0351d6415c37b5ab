-- Effects, and the trees that spell them (Kovacs, `<effect>`, with `:conditional-effects` and `:action-costs`; that effects nest
-- freely is own).
use Rattle.std.specs.Prelude.{◌≡◌, ◌≢◌, ◌⊎◌, ℕ, List, [], ◌∷◌, map, codes}
use Rattle.pddl_token.specs.Trees.{Tree}
use Rattle.pddl_token.specs.TreeWords.{list, IsWord, SpellsName, Each, SpellsNumber}
use Rattle.pddl_formula.specs.Terms.{TermValue, AtomValue, term_view, atom_view, IsTerm, IsAtom}
use Rattle.pddl_formula.specs.TypedLists.{TypedValue, typed_view, IsVariableList}
use Rattle.pddl_formula.specs.Formulas.{FormulaValue, formula_view, IsFormula}
use Rattle.pddl_effect.specs.declared.amount.FunctionTerm.{FunctionTerm}
use Rattle.pddl_effect.specs.declared.amount.Amount.{Amount}
use Rattle.pddl_effect.specs.declared.amount.Amount.TheVariants as amounts
use Rattle.pddl_effect.specs.declared.effect.Effect.{Effect}
use Rattle.pddl_effect.specs.declared.effect.Effect.TheOpen.{Effect-F}
use Rattle.pddl_effect.specs.declared.effect.Effect.TheFolds.{fold-Effect}

-- ---- values

-- a function and its arguments
pub record FunctionTermValue : Type 0 where
  pub function : List ℕ
  pub terms : List TermValue

-- what an increase adds: a number in billionths, or the value of a function
pub data AmountValue : Type 0 where
  number : ℕ → AmountValue
  function : FunctionTermValue → AmountValue

-- an effect, and effects in turn
mutual
  pub data EffectValue : Type 0 where
    conjunction : EffectValues → EffectValue
    universal : List TypedValue → EffectValue → EffectValue
    conditional : FormulaValue → EffectValue → EffectValue
    addition : AtomValue → EffectValue
    deletion : AtomValue → EffectValue
    increase : AmountValue → EffectValue

  pub data EffectValues : Type 0 where
    no_effects : EffectValues
    effect : EffectValue → EffectValues → EffectValues

-- effects of a list
abbrev pub effects_of : List EffectValue → EffectValues
effects_of [] = no_effects
effects_of (e ∷ es) = effect e (effects_of es)

-- a function and its arguments without where they lie in memory
abbrev pub function_term_view : {A : _} → FunctionTerm A → FunctionTermValue
function_term_view f = record { function = f.function; terms = map term_view f.terms.items }

-- an amount of the program, likewise
abbrev pub amount_view : {A : _} → Amount A → AmountValue
amount_view (amounts.Number n) = number n
amount_view (amounts.Function f) = function (function_term_view f)

-- one level of an effect of the program, the effects in it seen already
abbrev pub effect_step : {A : _} → Effect-F A EffectValue → EffectValue
effect_step (Effect-F.And es) = conjunction (effects_of es.items)
effect_step (Effect-F.Forall xs e) = universal (map typed_view xs.items) e.value
effect_step (Effect-F.When f e) = conditional (formula_view f) e.value
effect_step (Effect-F.Add a) = addition (atom_view a)
effect_step (Effect-F.Del a) = deletion (atom_view a)
effect_step (Effect-F.Increase a) = increase (amount_view a)

-- an effect of the program without where it lies in memory
abbrev pub effect_view : {A : _} → Effect A → EffectValue
effect_view = fold-Effect _ EffectValue effect_step

-- ---- which trees spell them

-- a function and its arguments: `(f x*)`, or the bare name f where there is no argument (Kovacs, `<f-head>`)
abbrev pub IsCall : {X : Type 0} → (X → Tree → Type 0) → List ℕ → List X → Tree → Type 0
IsCall IsArgument f xs t =
    ((xs ≡ []) × SpellsName f t)
    ⊎ ((head : Tree) × (ts : List Tree) × (t ≡ list (head ∷ ts)) × SpellsName f head × Each IsArgument xs ts)

-- a function other than `total-cost`, of terms
abbrev pub IsFunctionTerm : FunctionTermValue → Tree → Type 0
IsFunctionTerm f t = (f.function ≢ codes "total-cost") × IsCall IsTerm f.function f.terms t

-- what an increase adds
abbrev pub IsAmount : AmountValue → Tree → Type 0
IsAmount (number n) t = SpellsNumber n t
IsAmount (function f) t = IsFunctionTerm f t

-- `(total-cost)` or `total-cost`
abbrev pub IsTotalCost : Tree → Type 0
IsTotalCost t = IsWord (codes "total-cost") t ⊎ ((head : Tree) × (t ≡ list (head ∷ [])) × IsWord (codes "total-cost") head)

-- `(increase C A)`, where C is the total cost and A an amount
abbrev pub IsIncrease : AmountValue → Tree → Type 0
IsIncrease a t = (head cost x : Tree) × (t ≡ list (head ∷ cost ∷ x ∷ [])) × IsWord (codes "increase") head × IsTotalCost cost × IsAmount a x

-- A tree spells an effect, by its head.
abbrev mutual
  pub IsEffect : EffectValue → Tree → Type 0
  IsEffect (conjunction es) t = (head : Tree) × (ts : List Tree) × (t ≡ list (head ∷ ts)) × IsWord (codes "and") head × AreEffects es ts
  IsEffect (universal xs e) t = (head vs x : Tree) × (t ≡ list (head ∷ vs ∷ x ∷ [])) × IsWord (codes "forall") head × IsVariableList xs vs × IsEffect e x
  IsEffect (conditional f e) t = (head c x : Tree) × (t ≡ list (head ∷ c ∷ x ∷ [])) × IsWord (codes "when") head × IsFormula f c × IsEffect e x
  IsEffect (addition a) t = IsAtom a t
  IsEffect (deletion a) t = (head x : Tree) × (t ≡ list (head ∷ x ∷ [])) × IsWord (codes "not") head × IsAtom a x
  IsEffect (increase a) t = IsIncrease a t

  -- each effect is spelled by the tree at its place, and there are no others
  pub AreEffects : EffectValues → List Tree → Type 0
  AreEffects no_effects [] = Unit {0}
  AreEffects (effect e es) (t ∷ ts) = IsEffect e t × AreEffects es ts
  AreEffects no_effects (t ∷ ts) = ⊥
  AreEffects (effect e es) [] = ⊥

-- An action's effect: an effect, or `()`, which is the empty conjunction (Kovacs, `<emptyOr (x)>`; that they are one value is own).
abbrev pub IsWholeEffect : EffectValue → Tree → Type 0
IsWholeEffect e t = IsEffect e t ⊎ ((t ≡ list []) × (e ≡ conjunction no_effects))
