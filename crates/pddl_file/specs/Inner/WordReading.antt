-- Keywords of sections, flags and refused lists, computed from trees, for the readers above. What they mean stands in Keywords,
-- Flags and Marks.
use Rattle.std.specs.Prelude.{ℕ, List, [], ◌∷◌, ◌==◌, Bool, true, false, Option, Some, None, if◌then◌else◌, codes}
use Rattle.std.specs.Str.{bytes_eq}
use Rattle.pddl_token.specs.declared.token.TokenKind.{TokenKind}
use Rattle.pddl_token.specs.declared.token.TokenKind.TheVariants.{Name, Keyword, Number}
use Rattle.pddl_token.specs.Trees.{Tree, leaf, node, list_of}
use Rattle.pddl_token.specs.Names.{folded, name_of}
use Rattle.pddl_effect.specs.Effects.{AmountValue}
use Rattle.pddl_effect_reader.specs.Inner.EffectReading.{increase_of}
use Rattle.pddl_file.specs.declared.keyword.SectionKeyword.{SectionKeyword}
use Rattle.pddl_file.specs.declared.keyword.SectionKeyword.TheVariants as keys
use Rattle.pddl_file.specs.declared.keyword.Seen.{Seen}
use Rattle.pddl_file.specs.declared.mark.Mark.{Mark}
use Rattle.pddl_file.specs.declared.mark.Mark.TheVariants as marks

-- ---- flags

-- the name behind `:`
abbrev pub flag_name : List ℕ → Option (List ℕ)
flag_name [] = None
flag_name (b ∷ text) = if b == 58 then name_of text else None

abbrev pub flag_by : TokenKind → List ℕ → Option (List ℕ)
flag_by Keyword text = flag_name text
flag_by _ text = None

-- the flag that a tree is
abbrev pub flag_at : Tree → Option (List ℕ)
flag_at (leaf w) = flag_by w.kind w.text
flag_at (node ts) = None

-- ---- sections

-- the keyword that a text is
abbrev pub key_of : List ℕ → Option SectionKeyword
key_of text =
    if bytes_eq text (codes ":requirements") then Some keys.Requirements
    else (if bytes_eq text (codes ":types") then Some keys.Types
    else (if bytes_eq text (codes ":constants") then Some keys.Constants
    else (if bytes_eq text (codes ":predicates") then Some keys.Predicates
    else (if bytes_eq text (codes ":functions") then Some keys.Functions
    else (if bytes_eq text (codes ":action") then Some keys.Action
    else (if bytes_eq text (codes ":domain") then Some keys.Domain
    else (if bytes_eq text (codes ":objects") then Some keys.Objects
    else (if bytes_eq text (codes ":init") then Some keys.Init
    else (if bytes_eq text (codes ":goal") then Some keys.Goal
    else (if bytes_eq text (codes ":metric") then Some keys.Metric
    else None))))))))))

abbrev pub key_by : TokenKind → List ℕ → Option SectionKeyword
key_by Keyword text = key_of (folded text)
key_by _ text = None

abbrev pub head_key : Tree → Option SectionKeyword
head_key (leaf w) = key_by w.kind w.text
head_key (node ts) = None

abbrev pub list_key : List Tree → Option SectionKeyword
list_key [] = None
list_key (head ∷ ts) = head_key head

-- the keyword of a section
abbrev pub key_at : Tree → Option SectionKeyword
key_at (leaf w) = None
key_at (node ts) = list_key (list_of ts)

-- nothing stood
abbrev pub nothing_seen : Seen
nothing_seen = record { requirements = false; types = false; constants = false; predicates = false; functions = false; domain = false; objects = false; init = false; goal = false; metric = false }

-- whether a section of the keyword stood; actions may stand again
abbrev pub has_seen : Seen → SectionKeyword → Bool
has_seen seen keys.Requirements = seen.requirements
has_seen seen keys.Types = seen.types
has_seen seen keys.Constants = seen.constants
has_seen seen keys.Predicates = seen.predicates
has_seen seen keys.Functions = seen.functions
has_seen seen keys.Action = false
has_seen seen keys.Domain = seen.domain
has_seen seen keys.Objects = seen.objects
has_seen seen keys.Init = seen.init
has_seen seen keys.Goal = seen.goal
has_seen seen keys.Metric = seen.metric

-- with a section of the keyword
abbrev pub with_seen : Seen → SectionKeyword → Seen
with_seen seen keys.Requirements = record seen { requirements = true }
with_seen seen keys.Types = record seen { types = true }
with_seen seen keys.Constants = record seen { constants = true }
with_seen seen keys.Predicates = record seen { predicates = true }
with_seen seen keys.Functions = record seen { functions = true }
with_seen seen keys.Action = seen
with_seen seen keys.Domain = record seen { domain = true }
with_seen seen keys.Objects = record seen { objects = true }
with_seen seen keys.Init = record seen { init = true }
with_seen seen keys.Goal = record seen { goal = true }
with_seen seen keys.Metric = record seen { metric = true }

-- whether the section is of types
abbrev pub types_key : Option SectionKeyword → Bool
types_key (Some keys.Types) = true
types_key _ = false

-- ---- refused lists

-- the mark that a text is wherever it begins a list
abbrev pub plain_mark : List ℕ → Option Mark
plain_mark text =
    if bytes_eq text (codes ":durative-action") then Some marks.DurativeAction
    else (if bytes_eq text (codes ":derived") then Some marks.Derived
    else (if bytes_eq text (codes ":constraints") then Some marks.Constraints
    else (if bytes_eq text (codes ":length") then Some marks.Length
    else (if bytes_eq text (codes "preference") then Some marks.Preference
    else (if bytes_eq text (codes "<") then Some marks.Less
    else (if bytes_eq text (codes ">") then Some marks.Greater
    else (if bytes_eq text (codes "<=") then Some marks.LessEqual
    else (if bytes_eq text (codes ">=") then Some marks.GreaterEqual
    else (if bytes_eq text (codes "+") then Some marks.Plus
    else (if bytes_eq text (codes "*") then Some marks.Times
    else (if bytes_eq text (codes "/") then Some marks.Divide
    else (if bytes_eq text (codes "-") then Some marks.Minus
    else (if bytes_eq text (codes "assign") then Some marks.Assign
    else (if bytes_eq text (codes "decrease") then Some marks.Decrease
    else (if bytes_eq text (codes "scale-up") then Some marks.ScaleUp
    else (if bytes_eq text (codes "scale-down") then Some marks.ScaleDown
    else None))))))))))))))))

abbrev pub number_by : TokenKind → Bool
number_by Number = true
number_by _ = false

-- whether a number stands first
abbrev pub is_number_first : List Tree → Bool
is_number_first [] = false
is_number_first (leaf w ∷ ts) = number_by w.kind
is_number_first (node us ∷ ts) = false

abbrev pub unless_increase : Option AmountValue → Option Mark
unless_increase None = Some marks.Increase
unless_increase (Some a) = None

-- the mark that a name is before these items
abbrev pub name_mark : Bool → List ℕ → List Tree → Option Mark
name_mark in_types name ts =
    if bytes_eq name (codes "increase") then unless_increase (increase_of ts)
    else (if bytes_eq name (codes "either") then (if in_types then Some marks.Either else None)
    else (if bytes_eq name (codes "at") then (if is_number_first ts then Some marks.At else None)
    else None))

abbrev pub name_mark_by : TokenKind → Bool → List ℕ → List Tree → Option Mark
name_mark_by Name in_types text ts = name_mark in_types text ts
name_mark_by _ in_types text ts = None

abbrev pub or_else : {A : Type 0} → Option A → Option A → Option A
or_else None other = other
or_else (Some x) other = Some x

abbrev pub head_mark : Bool → Tree → List Tree → Option Mark
head_mark in_types (leaf w) ts = or_else (plain_mark (folded w.text)) (name_mark_by w.kind in_types (folded w.text) ts)
head_mark in_types (node us) ts = None

abbrev pub list_mark : Bool → List Tree → Option Mark
list_mark in_types [] = None
list_mark in_types (head ∷ ts) = head_mark in_types head ts

abbrev pub mark_in : Bool → Tree → Option Mark
mark_in in_types (leaf w) = None
mark_in in_types (node ts) = list_mark in_types (list_of ts)

-- the word by which a list of a section is refused
abbrev pub mark_at : Tree → Tree → Option Mark
mark_at section t = mark_in (types_key (key_at section)) t
