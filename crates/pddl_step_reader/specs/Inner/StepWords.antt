-- Steps read word by word. No public contract names these.
use Rattle.std.specs.Prelude.{◌≡◌, ◌<◌, ◌⊎◌, ℕ, List, [], ◌∷◌, ◌++◌, Option, Some, None, length, map, take, drop}
use Rattle.pddl_token.specs.declared.token.TokenKind.TheVariants.{Open, Number, Colon as ColonSign}
use Rattle.pddl_token.specs.Spelling.{PlacedWord}
use Rattle.pddl_token.specs.Number.{value_of}
use Rattle.pddl_token.specs.Trees.{Placed, placed_leaf, erased}
use Rattle.pddl_text.specs.Lists.{AreItems, deepest}
use Rattle.pddl_step_reader.specs.declared.plan_words.Place.{Place}
use Rattle.pddl_step_reader.specs.declared.plan_words.Place.TheVariants.{Between, Moment, Colon, Inside, Lost}
use Rattle.pddl_plan.specs.Building.{Building}
use Rattle.pddl_plan.specs.Plans.{IsStep, AreTimed, steps_built, timed_built}
use Rattle.pddl_token.specs.TreeWords.{SpellsName, Each}

-- ---- the step that is not ended

-- the words are these names
abbrev pub AreNames : List (List ℕ) → List PlacedWord → Type 0
AreNames names words = Each SpellsName names (map (λ w. erased (placed_leaf w)) words)

-- the words are a moment
pub record IsMoment (moment : ℕ) (words : List PlacedWord) : Type 0 where
  pub number : PlacedWord
  pub words_are : words ≡ number ∷ []
  pub is_number : number.kind ≡ Number
  pub value : value_of number.text ≡ Some moment

-- the words are a moment and a colon
pub record IsMomentColon (moment : ℕ) (words : List PlacedWord) : Type 0 where
  pub number : PlacedWord
  pub colon : PlacedWord
  pub words_are : words ≡ number ∷ colon ∷ []
  pub is_number : number.kind ≡ Number
  pub value : value_of number.text ≡ Some moment
  pub is_colon : colon.kind ≡ ColonSign

-- what stands before the opening of a step, by its moment
abbrev pub IsFront : Option ℕ → List PlacedWord → Type 0
IsFront None words = words ≡ []
IsFront (Some moment) words = IsMomentColon moment words

-- the words are an opening and names, behind what stands before the opening
pub record IsInside (moment : Option ℕ) (names : List (List ℕ)) (words : List PlacedWord) : Type 0 where
  pub front : List PlacedWord
  pub opening : PlacedWord
  pub inner : List PlacedWord
  pub words_are : words ≡ front ++ opening ∷ inner
  pub is_front : IsFront moment front
  pub is_opening : opening.kind ≡ Open
  pub named : AreNames names inner

-- the words of the step that is not ended, and its names
abbrev pub IsOpen : Place → List (List ℕ) → List PlacedWord → Type 0
IsOpen Between names words = (names ≡ []) × (words ≡ [])
IsOpen (Moment moment) names words = (names ≡ []) × IsMoment moment words
IsOpen (Colon moment) names words = (names ≡ []) × IsMomentColon moment words
IsOpen (Inside moment) names words = IsInside moment names words
IsOpen Lost names words = Unit {0}

-- ---- whole steps

-- the items are the steps that are ended, of one kind
abbrev pub AreBuilt : Building → List Placed → Type 0
AreBuilt b items = ((b.moments ≡ []) × Each IsStep (steps_built b) (map erased items))
    ⊎ ((length b.moments ≡ length b.steps) × (0 < length b.steps) × AreTimed (timed_built b) (map erased items))

-- the words form items, which are these steps
pub record AreStepWords (b : Building) (words : List PlacedWord) : Type 0 where
  pub items : List Placed
  pub form : AreItems deepest words items
  pub built : AreBuilt b items

-- ---- words so far

-- words of whole steps, and words of one that is not ended
pub record ReadsTo (place : Place) (b : Building) (done kept : List PlacedWord) : Type 0 where
  pub steps : AreStepWords b done
  pub rest : IsOpen place b.names kept

-- the same behind one word more, which may have ended the step
abbrev pub ReadsOn : Place → Building → List PlacedWord → List PlacedWord → Type 0
ReadsOn Between b done kept = ReadsTo Between b (done ++ kept) []
ReadsOn (Moment moment) b done kept = ReadsTo (Moment moment) b done kept
ReadsOn (Colon moment) b done kept = ReadsTo (Colon moment) b done kept
ReadsOn (Inside moment) b done kept = ReadsTo (Inside moment) b done kept
ReadsOn Lost b done kept = ReadsTo Lost b done kept

-- the same behind more words, of which so many end with the last step that was ended
abbrev pub ReadsWords : Option ℕ → Place → Building → List PlacedWord → List PlacedWord → List PlacedWord → Type 0
ReadsWords None place b done kept words = ReadsTo place b done (kept ++ words)
ReadsWords (Some count) place b done kept words = ReadsTo place b (done ++ (kept ++ take count words)) (drop count words)

-- words of steps that were ended since are no longer among those of the step that is not
pub record HasMoved (place : Place) (b : Building) (before kept : List PlacedWord) : Type 0 where
  pub done : List PlacedWord
  pub all : done ++ kept ≡ before
  pub reads : ReadsTo place b done kept
