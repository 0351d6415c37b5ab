-- Conditions, changes and frames without where they lie in memory.
use Rattle.std.specs.Prelude.{List, ◌∷◌, map, reverse}
use Rattle.pddl_compiled.specs.Compiled as value
use Rattle.pddl_compiled.specs.Compiled.{PlaceValue, ConditionValue, ConditionValues, ChangeValue, ChangeValues, conditions_of, changes_of}
use Rattle.pddl_compiled.specs.CompiledMeaning.{FrameValue}
use Rattle.pddl_compiled.specs.declared.compiled.Place.{Place}
use Rattle.pddl_compiled.specs.declared.compiled.Place.TheVariants as place
use Rattle.pddl_compiled.specs.declared.compiled.Condition.{Condition}
use Rattle.pddl_compiled.specs.declared.compiled.Condition.TheOpen.{Condition-F}
use Rattle.pddl_compiled.specs.declared.compiled.Condition.TheFolds.{fold-Condition}
use Rattle.pddl_compiled.specs.declared.compiled.Change.{Change}
use Rattle.pddl_compiled.specs.declared.compiled.Change.TheOpen.{Change-F}
use Rattle.pddl_compiled.specs.declared.compiled.Change.TheFolds.{fold-Change}
use Rattle.pddl_compiled.specs.declared.frame.Frame.{Frame, Step, Bound'}

abbrev pub place_view : Place → PlaceValue
place_view (place.Fixed n) = value.fixed n
place_view (place.Held i) = value.held i

-- one level of a condition, the conditions in it seen already
abbrev pub condition_step : {A : _} → Condition-F A ConditionValue → ConditionValue
condition_step (Condition-F.Known b) = value.known b
condition_step (Condition-F.Atom p ps) = value.atom p (map place_view ps.items)
condition_step (Condition-F.Equal p q) = value.equal (place_view p) (place_view q)
condition_step (Condition-F.Not c) = value.negation c.value
condition_step (Condition-F.Imply c d) = value.implication c.value d.value
condition_step (Condition-F.And cs) = value.conjunction (conditions_of cs.items)
condition_step (Condition-F.Or cs) = value.disjunction (conditions_of cs.items)
condition_step (Condition-F.Exists range c) = value.existential range.items c.value
condition_step (Condition-F.Forall range c) = value.universal range.items c.value

abbrev pub condition_view : {A : _} → Condition A → ConditionValue
condition_view = fold-Condition _ ConditionValue condition_step

abbrev pub conditions_view : {A : _} → List (Condition A) → ConditionValues
conditions_view cs = conditions_of (map condition_view cs)

-- one level of a change, the changes in it seen already
abbrev pub change_step : {A : _} → Change-F A ChangeValue → ChangeValue
change_step (Change-F.And cs) = value.both (changes_of cs.items)
change_step (Change-F.Forall range c) = value.each range.items c.value
change_step (Change-F.When c d) = value.conditional (condition_view c) d.value
change_step (Change-F.Add p ps) = value.addition p (map place_view ps.items)
change_step (Change-F.Del p ps) = value.deletion p (map place_view ps.items)
change_step (Change-F.Increase f ps) = value.increase f (map place_view ps.items)
change_step (Change-F.IncreaseBy n) = value.increase_by n

abbrev pub change_view : {A : _} → Change A → ChangeValue
change_view = fold-Change _ ChangeValue change_step

abbrev pub changes_view : {A : _} → List (Change A) → ChangeValues
changes_view cs = changes_of (map change_view cs)

-- the objects of a frame; the last object of a step is the innermost
abbrev pub frame_view : Frame → FrameValue
frame_view (Step objects) = reverse objects.now
frame_view (Bound' object p outer) = object ∷ frame_view outer
