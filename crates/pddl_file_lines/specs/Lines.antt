-- The line of a refused file. Own.
use Rattle.std.specs.Prelude.{◌≡◌, ◌==◌, ℕ, List, [], ◌∷◌, ◌++◌, codes, take, find, Option, Some, None}
use Rattle.std.specs.Option.{option_map_or}
use Rattle.std.specs.Fmt.{decimal}
use Rattle.pddl_scan.specs.declared.fault.TextFault.{TextFault}
use Rattle.pddl_scan.specs.declared.fault.TextFault.TheVariants as texts
use Rattle.pddl_text.specs.declared.place.Pos.{Pos}
use Rattle.pddl_text.specs.Positions.{IsBehind}
use Rattle.pddl_step_reader.specs.declared.fault.ReadFault.{ReadFault}
use Rattle.pddl_step_reader.specs.declared.fault.ReadFault.TheVariants as plans
use Rattle.pddl_file.specs.declared.fault.FileFault.{FileFault}
use Rattle.pddl_file.specs.declared.fault.FileFault.TheVariants as files
use Rattle.pddl_file.specs.Keywords.{key_text}
use Rattle.pddl_file.specs.Marks.{mark_word}

-- the number and the name of a fault of a text
abbrev pub text_fault_name : TextFault → List ℕ
text_fault_name texts.Memory = codes "0 Memory"
text_fault_name texts.TooLong = codes "1 TooLong"
text_fault_name (texts.Stray at) = codes "2 Stray"
text_fault_name (texts.Glued at) = codes "3 Glued"
text_fault_name (texts.NumberRange at) = codes "4 NumberRange"
text_fault_name (texts.Unopened at) = codes "5 Unopened"
text_fault_name (texts.TooDeep at) = codes "6 TooDeep"
text_fault_name (texts.Unclosed at) = codes "7 Unclosed"
text_fault_name texts.AlreadyFailed = codes "9 AlreadyFailed"

-- the number and the name of a fault of a plan
abbrev pub fault_name : ReadFault → List ℕ
fault_name (plans.Text fault) = text_fault_name fault
fault_name (plans.Step span near) = codes "15 Step"
fault_name (plans.Mixed span) = codes "16 Mixed"
fault_name (plans.Duration span) = codes "17 Duration"

-- the number and the name of a fault of a domain or a problem, and the word or the keyword that it is about
abbrev pub file_fault_name : FileFault → List ℕ
file_fault_name (files.Text fault) = text_fault_name fault
file_fault_name (files.Head span) = codes "10 Head"
file_fault_name (files.Section span near) = codes "11 Section"
file_fault_name (files.Unsupported mark span) = codes "12 Unsupported " ++ mark_word mark
file_fault_name (files.Twice keyword span) = codes "13 Twice " ++ key_text keyword
file_fault_name (files.Missing keyword) = codes "14 Missing " ++ key_text keyword

-- the number and the name of each fault of linking, and a blank where a word follows
abbrev pub link_fault_names : List (ℕ × List ℕ)
link_fault_names =
    (20, codes "20 DomainName ") ∷
    (21, codes "21 TypeTwice ") ∷
    (22, codes "22 TypeCycle ") ∷
    (23, codes "23 UnknownType ") ∷
    (24, codes "24 NameTwice ") ∷
    (25, codes "25 ObjectTypes ") ∷
    (26, codes "26 UnknownName ") ∷
    (27, codes "27 Arity ") ∷
    (28, codes "28 ArgumentType ") ∷
    (29, codes "29 InitContradiction ") ∷
    (30, codes "30 FractionalCost ") ∷
    (31, codes "31 CostValue ") ∷
    (32, codes "32 ObjectFluent ") ∷
    (33, codes "33 Metric") ∷
    (35, codes "35 GoalTooLarge") ∷ []

-- a fault of linking by its number, and the word that it is about
abbrev pub link_fault_text : ℕ → List ℕ → List ℕ
link_fault_text n word = option_map_or (λ f. f.1 ++ word) (find (λ f. f.0 == n) link_fault_names) []

-- where the fault stands, as it is shown: nothing, or ` at `, the line, a colon and the column of its place
abbrev pub IsPlaceShown : List ℕ → Option ℕ → List ℕ → Type 0
IsPlaceShown text None shown = shown ≡ []
IsPlaceShown text (Some at) shown = (pos : Pos) × IsBehind (take at text) pos × (shown ≡ codes " at " ++ (decimal pos.line ++ (codes ":" ++ decimal pos.col)))

-- the position is that of the place in the text, or there is neither
abbrev pub IsPosition : List ℕ → Option ℕ → Option Pos → Type 0
IsPosition text None None = Unit {0}
IsPosition text (Some at) (Some pos) = IsBehind (take at text) pos
IsPosition text None (Some pos) = ⊥
IsPosition text (Some at) None = ⊥

-- the line of a file that is refused: what the file is, the name of the fault, and its place in the text
pub record IsFaultLine (word text name : List ℕ) (place : Option ℕ) (line : List ℕ) : Type 0 where
  pub shown : List ℕ
  pub place_is : IsPlaceShown text place shown
  pub line_is : line ≡ word ++ (codes ": fault " ++ (name ++ (shown ++ codes "\n")))
