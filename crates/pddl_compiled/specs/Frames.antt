-- Valuations by numbers (own).
use Rattle.std.specs.Prelude.{◌≡◌, true, [], ◌∷◌}
use Rattle.pddl_task.specs.Names.{Name, is_in, number_in}
use Rattle.pddl_formula.specs.TypedLists.{TypedValue}
use Rattle.pddl_task.specs.Valuations.{Valuation}
use Rattle.pddl_compiled.specs.CompiledMeaning.{FrameValue}
use Rattle.pddl_compiled.specs.Tables.{Tables}
use Rattle.pddl_compiled.specs.Compiler.{Slot, ScopeValue, single, framed}

-- A scope and a frame fit a valuation: its variables are those in scope, and each of its objects is one of the tables, whose number
-- the variable's slot has or the frame holds.
abbrev pub Fits : Tables → Valuation → ScopeValue → FrameValue → Type 0
Fits t [] [] env = Unit {0}
Fits t [] (s ∷ scope) env = ⊥
Fits t (e ∷ es) [] env = ⊥
Fits t (e ∷ es) ((x, single n) ∷ scope) env = (x ≡ e.0) × (n ≡ number_in t.objects e.1) × (is_in t.objects e.1 ≡ true) × Fits t es scope env
Fits t (e ∷ es) ((x, framed) ∷ scope) [] = ⊥
Fits t (e ∷ es) ((x, framed) ∷ scope) (n ∷ env) = (x ≡ e.0) × (n ≡ number_in t.objects e.1) × (is_in t.objects e.1 ≡ true) × Fits t es scope env

-- a parameter of an action has a place in the frame
abbrev pub parameter_slot : TypedValue → Name × Slot
parameter_slot x = (x.item, framed)
