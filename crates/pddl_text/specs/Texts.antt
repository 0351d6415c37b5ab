-- A text and its items, and why a text has none. Own, from the words and the lists of a text.
use Rattle.std.specs.Prelude.{◌≡◌, ◌≤◌, ℕ, List, length, map}
use Rattle.pddl_scan.specs.declared.fault.TextFault.{TextFault}
use Rattle.pddl_scan.specs.declared.fault.TextFault.TheVariants as faults
use Rattle.pddl_token.specs.Spelling.{PlacedWord, Spells}
use Rattle.pddl_scan.specs.Faults.{AreValued, longest, Stands}
use Rattle.pddl_token.specs.Trees.{Tree, Placed, erased}
use Rattle.pddl_text.specs.Lists.{AreItems, deepest, ListStands}

-- The text keeps the limit of length, and its words, each number among them with a value, form the items.
pub record HasItems (text : List ℕ) (items : List Placed) : Type 0 where
  pub words : List PlacedWord
  pub within : length text ≤ longest
  pub spells : Spells words text
  pub valued : AreValued words
  pub form : AreItems deepest words items

-- The text's items, without their places, are the trees.
pub record ReadsAs (text : List ℕ) (trees : List Tree) : Type 0 where
  pub items : List Placed
  pub has : HasItems text items
  pub trees_are : map erased items ≡ trees

-- The text keeps the limit of length and has words, and the fault is that of their lists.
pub record HasListFault (fault : TextFault) (text : List ℕ) : Type 0 where
  pub words : List PlacedWord
  pub within : length text ≤ longest
  pub spells : Spells words text
  pub valued : AreValued words
  pub stands : ListStands fault words

-- Why a text has no items: a fault of its words, or, where it has words, of their lists. Of `Memory` it says nothing.
abbrev pub TextStands : TextFault → List ℕ → Type 0
TextStands faults.Memory text = Unit {0}
TextStands faults.TooLong text = Stands faults.TooLong text
TextStands (faults.Stray at) text = Stands (faults.Stray at) text
TextStands (faults.Glued at) text = Stands (faults.Glued at) text
TextStands (faults.NumberRange at) text = Stands (faults.NumberRange at) text
TextStands (faults.Unopened at) text = HasListFault (faults.Unopened at) text
TextStands (faults.TooDeep at) text = HasListFault (faults.TooDeep at) text
TextStands (faults.Unclosed at) text = HasListFault (faults.Unclosed at) text
TextStands faults.AlreadyFailed text = ⊥
