-- What is wrong where items spell no plan. Own.
use Rattle.std.specs.Prelude.{◌≡◌, ◌≢◌, List, [], ◌∷◌, ◌++◌, map}
use Rattle.pddl_token.specs.declared.token.TokenKind.TheVariants.{Bracket}
use Rattle.pddl_token.specs.declared.token.Span.{Span}
use Rattle.pddl_token.specs.Trees.{Placed, placed_leaf, erased}
use Rattle.pddl_items.specs.Items.{span_of}
use Rattle.pddl_plan.specs.Plans.{StepValue, TimedValue, IsStep, IsTimed, AreTimed}
use Rattle.pddl_token.specs.TreeWords.{Each}

-- the two kinds of steps: plain ones, and timed ones
pub data StepKind : Type 0 where
  alone : StepKind
  at_moments : StepKind

-- the kind that it is not
abbrev pub other_kind : StepKind → StepKind
other_kind alone = at_moments
other_kind at_moments = alone

-- the items are whole steps of one kind
abbrev pub AreWhole : StepKind → List Placed → Type 0
AreWhole alone items = (steps : List StepValue) × Each IsStep steps (map erased items)
AreWhole at_moments items = (steps : List TimedValue) × AreTimed steps (map erased items)

-- a step of a kind stands first, at this span
abbrev pub Follows : StepKind → Span → List Placed → Type 0
Follows alone span (item ∷ items) = (step : StepValue) × IsStep step (erased item) × (span ≡ span_of item)
Follows at_moments span (number ∷ colon ∷ item ∷ items) =
    (step : TimedValue) × IsTimed step (erased number) (erased colon) (erased item) × (span ≡ record { start = (span_of number).start; end = (span_of item).end })
Follows _ _ _ = ⊥

-- no step of either kind stands first
abbrev pub NoneFollows : List Placed → Type 0
NoneFollows items = (kind : StepKind) (span : Span) → Follows kind span items → ⊥

-- an item stands first, at this span
abbrev pub IsNext : Span → List Placed → Type 0
IsNext span [] = ⊥
IsNext span (item ∷ items) = span ≡ span_of item

-- a bracket stands first, at this span
abbrev pub IsNextBracket : Span → List Placed → Type 0
IsNextBracket span (placed_leaf w ∷ items) = (w.kind ≡ Bracket) × (span ≡ w.span)
IsNextBracket span _ = ⊥

-- the place behind whole steps of one kind
pub record IsReached (kind : StepKind) (before after items : List Placed) : Type 0 where
  pub items_are : items ≡ before ++ after
  pub whole : AreWhole kind before

-- whole steps of one kind stand first, and this holds of their kind, of them and of the items behind them
pub record BehindSteps (Holds : StepKind → List Placed → List Placed → Type 0) (items : List Placed) : Type 0 where
  pub kind : StepKind
  pub before : List Placed
  pub after : List Placed
  pub reached : IsReached kind before after items
  pub holds : Holds kind before after

-- behind steps of one kind a step of the other kind follows (own: a file has steps of one kind)
abbrev pub IsMixed : Span → List Placed → Type 0
IsMixed span = BehindSteps (λ kind before after. (before ≢ []) × Follows (other_kind kind) span after)

-- behind a step a bracket follows: the form of a duration, which is refused (own)
abbrev pub IsDuration : Span → List Placed → Type 0
IsDuration span = BehindSteps (λ kind before after. (before ≢ []) × NoneFollows after × IsNextBracket span after)

-- something else follows than a step
abbrev pub IsNoStep : Span → List Placed → Type 0
IsNoStep span = BehindSteps (λ kind before after. NoneFollows after × (before ≢ [] → IsNextBracket span after → ⊥) × IsNext span after)
