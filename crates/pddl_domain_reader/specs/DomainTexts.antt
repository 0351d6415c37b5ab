-- The texts that spell domains (Kovacs, BNF definition of PDDL 3.1, `<domain>`; what is left out and that sections stand
-- in any order is own).
use Rattle.std.specs.Prelude.{◌≡◌, ℕ, List, [], ◌∷◌, codes}
use Rattle.std.specs.List.{flat_map}
use Rattle.pddl_token.specs.Trees.{Tree, Placed}
use Rattle.pddl_text.specs.Texts.{HasItems}
use Rattle.pddl_token.specs.TreeWords.{Each}
use Rattle.pddl_formula.specs.TypedLists.{TypedValue, AreTypedNames}
use Rattle.pddl_sections.specs.Sections.{Rules}
use Rattle.pddl_sections.specs.Files.{IsFile}
use Rattle.pddl_file.specs.declared.keyword.SectionKeyword.{SectionKeyword}
use Rattle.pddl_file.specs.declared.keyword.SectionKeyword.TheVariants as keys
use Rattle.pddl_file.specs.declared.mark.Mark.{Mark}
use Rattle.pddl_file.specs.declared.fault.FileFault.{FileFault}
use Rattle.pddl_file.specs.Keywords.{IsSection, IsHeaded, IsSingle}
use Rattle.pddl_file.specs.Flags.{IsFlag}
use Rattle.pddl_file.specs.Marks.{IsMarked}
use Rattle.pddl_file.specs.Faults.{FileStands}
use Rattle.pddl_domain.specs.Declarations.{TypeValue, Signature, FunctionValue, AreTypes, IsPredicateSignature, AreFunctions}
use Rattle.pddl_domain.specs.Actions.{ActionValue, IsAction}
use Rattle.pddl_domain.specs.Domains.{DomainValue}

-- ---- sections

-- a section of a domain
pub data Part : Type 0 where
  requirements : List (List ℕ) → Part
  types : List TypeValue → Part
  constants : List TypedValue → Part
  predicates : List Signature → Part
  functions : List FunctionValue → Part
  action : ActionValue → Part

-- what a section adds to a domain
abbrev pub requirements_in : Part → List (List ℕ)
requirements_in (requirements flags) = flags
requirements_in part = []

abbrev pub types_in : Part → List TypeValue
types_in (types ts) = ts
types_in part = []

abbrev pub constants_in : Part → List TypedValue
constants_in (constants xs) = xs
constants_in part = []

abbrev pub predicates_in : Part → List Signature
predicates_in (predicates ps) = ps
predicates_in part = []

abbrev pub functions_in : Part → List FunctionValue
functions_in (functions fs) = fs
functions_in part = []

abbrev pub actions_in : Part → List ActionValue
actions_in (action a) = a ∷ []
actions_in part = []

-- ---- which trees spell them

-- the trees behind a section's keyword
abbrev pub IsContent : Part → List Tree → Type 0
IsContent (requirements flags) ts = Each IsFlag flags ts
IsContent (types xs) ts = AreTypes xs ts
IsContent (constants xs) ts = AreTypedNames xs ts
IsContent (predicates ps) ts = Each IsPredicateSignature ps ts
IsContent (functions fs) ts = AreFunctions fs ts
IsContent (action a) ts = IsAction a ts

-- the keyword of a section
abbrev pub part_key : Part → SectionKeyword
part_key (requirements flags) = keys.Requirements
part_key (types xs) = keys.Types
part_key (constants xs) = keys.Constants
part_key (predicates ps) = keys.Predicates
part_key (functions fs) = keys.Functions
part_key (action a) = keys.Action

-- a list of the keyword and the content
abbrev pub IsPart : Part → Tree → Type 0
IsPart part t = (ts : List Tree) × IsSection (part_key part) ts t × IsContent part ts

-- the sections of a domain
abbrev pub domain_rules : Rules Part SectionKeyword Mark
domain_rules = record { Spells = IsPart; HasKey = IsHeaded; IsSingle = IsSingle; Marked = IsMarked }

-- The items spell the domain: they are one list `(define (domain NAME) section*)`, whose sections are the domain's, in any order;
-- actions in their own order; an empty section says what an absent one says.
pub record AreDomain (domain : DomainValue) (items : List Placed) : Type 0 where
  pub parts : List Part
  pub file : IsFile domain_rules (codes "domain") [] domain.name parts items
  pub requirements_are : domain.requirements ≡ flat_map requirements_in parts
  pub types_are : domain.types ≡ flat_map types_in parts
  pub constants_are : domain.constants ≡ flat_map constants_in parts
  pub predicates_are : domain.predicates ≡ flat_map predicates_in parts
  pub functions_are : domain.functions ≡ flat_map functions_in parts
  pub actions_are : domain.actions ≡ flat_map actions_in parts

-- The domain spells the text, which keeps the limit of length.
pub record SpellsDomain (domain : DomainValue) (text : List ℕ) : Type 0 where
  pub items : List Placed
  pub has : HasItems text items
  pub domain_is : AreDomain domain items

-- what each answer says of a text that is read as a domain
abbrev pub DomainStands : FileFault → List ℕ → Type 0
DomainStands = FileStands domain_rules (codes "domain") []
