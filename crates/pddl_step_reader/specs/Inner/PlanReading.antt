-- Reading steps from the left. No public contract names these.
use Rattle.std.specs.Prelude.{◌≡◌, ℕ, List, [], ◌∷◌, ◌++◌, Bool, true, false, ◌&&◌, if◌then◌else◌, is_some, Option, Some, None, Result, Ok, Err}
use Rattle.pddl_token.specs.declared.token.TokenKind.{TokenKind}
use Rattle.pddl_token.specs.declared.token.TokenKind.TheVariants.{Colon, Bracket}
use Rattle.pddl_token.specs.declared.token.Span.{Span}
use Rattle.pddl_token.specs.Trees.{Placed, placed_leaf, placed_node}
use Rattle.pddl_scan.specs.declared.fault.TextFault.TheVariants.{Memory}
use Rattle.pddl_step_reader.specs.declared.fault.ReadFault.{ReadFault}
use Rattle.pddl_step_reader.specs.declared.fault.ReadFault.TheVariants as faults
use Rattle.pddl_plan.specs.Building.{Building}
use Rattle.pddl_plan.specs.Plans.{StepValue, TimedValue, PlanValue, plain, timed, at_moments, steps_built}
use Rattle.pddl_items.specs.Items.{span_of}
use Rattle.pddl_items.specs.Inner.TreeReading.{name_by, both, placed_items, moment_by}

-- the name that an item is
abbrev pub name_at : Placed → Option (List ℕ)
name_at (placed_leaf w) = name_by w.kind w.text
name_at (placed_node span items) = None

-- the names that some items are, each of them
abbrev pub names_at : List Placed → Option (List (List ℕ))
names_at [] = Some []
names_at (item ∷ items) = both (name_at item) (names_at items)

-- a step of names, of which there is at least one
abbrev pub step_of : Option (List (List ℕ)) → Option StepValue
step_of None = None
step_of (Some []) = None
step_of (Some (action ∷ objects)) = Some (record { action = action; objects = objects })

-- the step that an item is
abbrev pub step_at : Placed → Option StepValue
step_at (placed_leaf w) = None
step_at (placed_node span items) = step_of (names_at (placed_items items))

-- the number that an item is
abbrev pub moment_at : Placed → Option ℕ
moment_at (placed_leaf w) = moment_by w.kind w.text
moment_at (placed_node span items) = None

-- whether words of a kind are colons
abbrev pub colon_by : TokenKind → Bool
colon_by Colon = true
colon_by _ = false

-- whether an item is a colon
abbrev pub is_colon : Placed → Bool
is_colon (placed_leaf w) = colon_by w.kind
is_colon (placed_node span items) = false

-- a moment and a step, where both are there
abbrev pub timed_of : Option ℕ → Option StepValue → Option TimedValue
timed_of None step = None
timed_of (Some moment) None = None
timed_of (Some moment) (Some step) = Some (record { moment = moment; step = step })

-- the timed step that three items are
abbrev pub timed_by : Placed → Placed → Placed → Option TimedValue
timed_by number colon item = if is_colon colon then timed_of (moment_at number) (step_at item) else None

-- the timed step that stands first
abbrev pub timed_at : List Placed → Option TimedValue
timed_at (number ∷ colon ∷ item ∷ items) = timed_by number colon item
timed_at _ = None

-- ---- whole plans

-- whether words of a kind are brackets
abbrev pub bracket_by : TokenKind → Bool
bracket_by Bracket = true
bracket_by _ = false

-- whether an item is a bracket
abbrev pub is_bracket : Placed → Bool
is_bracket (placed_leaf w) = bracket_by w.kind
is_bracket (placed_node span items) = false

-- what is wrong where no step stands first: whether steps stand before, and the item
abbrev pub no_step : Bool → Placed → ReadFault
no_step behind item = if behind && is_bracket item then faults.Duration (span_of item) else faults.Step (span_of item) (span_of item).start

-- from the first of three items to the last
abbrev pub timed_span : List Placed → Span
timed_span (number ∷ colon ∷ item ∷ items) = record { start = (span_of number).start; end = (span_of item).end }
timed_span _ = record { start = 0; end = 0 }

-- what is wrong at these items, where no plain step stands first
abbrev pub plain_fault : Bool → List Placed → ReadFault
plain_fault behind [] = faults.Text Memory
plain_fault behind (item ∷ items) = if is_some (timed_at (item ∷ items)) then faults.Mixed (timed_span (item ∷ items)) else no_step behind item

-- the same, where no timed step stands first
abbrev pub timed_fault : Bool → List Placed → ReadFault
timed_fault behind [] = faults.Text Memory
timed_fault behind (item ∷ items) = if is_some (step_at item) then faults.Mixed (span_of item) else no_step behind item

-- whether something stands before
abbrev pub is_behind : {A : Type 0} → List A → Bool
is_behind [] = false
is_behind (x ∷ xs) = true

-- what to do with a value that is there, or else the answer
abbrev pub where_some : {A B : Type 0} → Option A → (A → B) → B → B
where_some None on other = other
where_some (Some x) on other = on x

-- the plain steps so far, and the items that are left
unfoldable pub plain_from : List StepValue → List Placed → Result PlanValue ReadFault
plain_from found [] = Ok (plain found)
plain_from found (item ∷ items) = where_some (step_at item) (λ step. plain_from (found ++ step ∷ []) items) (Err (plain_fault (is_behind found) (item ∷ items)))

-- the timed steps so far, and the items that are left
unfoldable pub timed_from : List TimedValue → List Placed → Result PlanValue ReadFault
timed_from found [] = Ok (timed found)
timed_from found (number ∷ colon ∷ item ∷ items) = where_some (timed_by number colon item) (λ step. timed_from (found ++ step ∷ []) items) (Err (timed_fault (is_behind found) (number ∷ colon ∷ item ∷ items)))
timed_from found (number ∷ items) = Err (timed_fault (is_behind found) (number ∷ items))

-- the plan that items spell, or what is wrong with them
abbrev pub plan_at : List Placed → Result PlanValue ReadFault
plan_at [] = Ok (plain [])
plan_at (placed_leaf w ∷ items) = timed_from [] (placed_leaf w ∷ items)
plan_at (placed_node span children ∷ items) = plain_from [] (placed_node span children ∷ items)

-- the same behind the steps of a plan in making
abbrev pub plan_behind : List ℕ → List StepValue → List Placed → Result PlanValue ReadFault
plan_behind [] [] items = plan_at items
plan_behind [] (step ∷ steps) items = plain_from (step ∷ steps) items
plan_behind (moment ∷ moments) steps items = timed_from (at_moments (moment ∷ moments) steps) items

abbrev pub plan_from : Building → List Placed → Result PlanValue ReadFault
plan_from b items = plan_behind b.moments (steps_built b) items

-- the fault is that of the answer, or memory was refused
abbrev pub Refuses : ReadFault → Result PlanValue ReadFault → Type 0
Refuses (faults.Text fault) answer = fault ≡ Memory
Refuses fault answer = answer ≡ Err fault
