-- Reading words with a stack of open lists. No public contract names these.
use Rattle.std.specs.Prelude.{◌≡◌, ◌≤◌, ℕ, List, [], ◌∷◌, ◌++◌, length, take, drop, reverse, ⊤, Option, Some, None, nat_lt, if◌then◌else◌}
use Rattle.std.specs.Coded.{×_prop, Unit-prop, le_prop}
use Rattle.pddl_token.specs.declared.token.TokenKind.{TokenKind}
use Rattle.pddl_token.specs.declared.token.TokenKind.TheVariants.{Open, Close}
use Rattle.pddl_scan.specs.declared.fault.TextFault.{TextFault}
use Rattle.pddl_scan.specs.declared.fault.TextFault.TheVariants as faults
use Rattle.pddl_text.specs.declared.nesting.OpenList.{OpenList}
use Rattle.pddl_items.specs.declared.item.Item.{Item}
use Rattle.pddl_token.specs.Spelling.{PlacedWord}
use Rattle.pddl_token.specs.Trees.{Placed, placed_leaf, placed_node, placed_of}
use Rattle.pddl_items.specs.Items.{items_view}
use Rattle.pddl_text.specs.Lists.{deepest}

-- an open list: the items before its opening, and the opening's place
pub record Opened : Type 0 where
  pub items : List Placed
  pub start : ℕ

-- the open lists, the innermost first, and the items behind the innermost opening
pub record Nest : Type 0 where
  pub opened : List Opened
  pub items : List Placed

-- nothing read
abbrev pub empty : Nest
empty = record { opened = []; items = [] }

-- one more item behind the innermost opening
abbrev pub with_item : Nest → Placed → Nest
with_item nest item = record { opened = nest.opened; items = nest.items ++ item ∷ [] }

-- a closing ends the innermost open list
abbrev pub closed : List Opened → List Placed → PlacedWord → Option Nest
closed [] items w = None
closed (list ∷ opened) items w = Some (record { opened = opened; items = list.items ++ placed_node (record { start = list.start; end = w.span.end }) (placed_of items) ∷ [] })

-- one more word, by its kind
abbrev pub next_by : TokenKind → PlacedWord → Nest → Option Nest
next_by Open w nest = if nat_lt (length nest.opened) deepest then Some (record { opened = record { items = nest.items; start = w.span.start } ∷ nest.opened; items = [] }) else None
next_by Close w nest = closed nest.opened nest.items w
next_by _ w nest = Some (with_item nest (placed_leaf w))

-- one more word
abbrev pub next_nest : PlacedWord → Nest → Option Nest
next_nest w nest = next_by w.kind w nest

-- The code's open lists, the innermost first, begin within so many items: the innermost anywhere, each other one no later than the one in it.
abbrev pub BeginWithin : List OpenList → ℕ → Type 0
BeginWithin [] len = ⊤
BeginWithin (list ∷ outer) len = (list.begins ≤ len) × BeginWithin outer list.begins

-- there is one proof of that at most
pub BeginWithin-prop : (lists : List OpenList) (len : ℕ) → IsProp (BeginWithin lists len)
BeginWithin-prop [] len = Unit-prop
BeginWithin-prop (list ∷ outer) len = ×_prop le_prop (BeginWithin-prop outer list.begins)

-- of the items of all open lists, the innermost first, those behind its opening
abbrev pub inner_items : {A : _} → List OpenList → List (Item A) → List Placed
inner_items [] items = items_view items
inner_items (list ∷ outer) items = items_view (drop list.begins items)

-- the same lists, each with the items before its opening
abbrev pub stack_of : {A : _} → List OpenList → List (Item A) → List Opened
stack_of [] items = []
stack_of (list ∷ outer) items = record { items = inner_items outer (take list.begins items); start = list.start } ∷ stack_of outer (take list.begins items)

-- the code's open lists, of which the innermost is the last, and the items of all
abbrev pub nest_of : {A : _} → List OpenList → List (Item A) → Nest
nest_of opened items = record { opened = stack_of (reverse opened) items; items = inner_items (reverse opened) items }

-- why a word is refused
abbrev pub IsRefused : TextFault → PlacedWord → Nest → Type 0
IsRefused faults.Memory w nest = Unit {0}
IsRefused (faults.Unopened at) w nest = (w.kind ≡ Close) × (nest.opened ≡ []) × (w.span.start ≡ at)
IsRefused (faults.TooDeep at) w nest = (w.kind ≡ Open) × (deepest ≤ length nest.opened) × (w.span.start ≡ at)
IsRefused (faults.Unclosed at) w nest = ⊥
IsRefused faults.TooLong w nest = ⊥
IsRefused (faults.Stray at) w nest = ⊥
IsRefused (faults.Glued at) w nest = ⊥
IsRefused (faults.NumberRange at) w nest = ⊥
IsRefused faults.AlreadyFailed w nest = ⊥

-- why the end of the words is refused: the outermost list is open
abbrev pub IsLeftOpen : TextFault → Nest → Type 0
IsLeftOpen fault nest = (inner : List Opened) × (outermost : Opened) × (nest.opened ≡ inner ++ outermost ∷ []) × (fault ≡ faults.Unclosed outermost.start)
