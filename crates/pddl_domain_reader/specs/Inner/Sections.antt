-- How a domain is made of its sections, one after the other. No public contract names these.
use Rattle.std.specs.Prelude.{◌≡◌, ℕ, List, [], ◌∷◌, ◌++◌, Bool, Option, option_map, codes}
use Rattle.std.specs.Bool.{then_some}
use Rattle.pddl_token.specs.Spelling.{PlacedWord}
use Rattle.pddl_token.specs.Trees.{Placed}
use Rattle.pddl_text.specs.Texts.{HasItems}
use Rattle.pddl_sections.specs.Files.{IsOpened}
use Rattle.pddl_sections.specs.Inner.Verdicts.{Turn, go, Verdict, fine, turn, verdict}
use Rattle.pddl_sections.specs.Inner.Answers.{Answer, right, file_answer}
use Rattle.pddl_file.specs.declared.keyword.SectionKeyword.{SectionKeyword}
use Rattle.pddl_file.specs.declared.keyword.Seen.{Seen}
use Rattle.pddl_file.specs.declared.mark.Mark.{Mark}
use Rattle.pddl_file.specs.Inner.Begun.{ReadsTurn}
use Rattle.pddl_file.specs.Inner.WordReading.{nothing_seen}
use Rattle.pddl_domain.specs.Domains.{DomainValue}
use Rattle.pddl_domain_reader.specs.DomainTexts.{Part, requirements, types, constants, predicates, functions, action}
use Rattle.pddl_domain_reader.specs.Inner.DomainReading.{domain_readers, domain_of}

-- what the sections of a domain say
abbrev pub domain_verdict : List Placed → Verdict Part SectionKeyword Mark Seen
domain_verdict ps = verdict domain_readers nothing_seen [] ps

-- what is answered for the items of a domain
abbrev pub domain_answer : List Placed → Answer Part SectionKeyword Mark
domain_answer items = file_answer domain_readers (codes "domain") [] items

-- the items are answered by the domain
abbrev pub AnswersDomain : DomainValue → List Placed → Type 0
AnswersDomain domain items = (parts : List Part) × (domain_answer items ≡ right domain.name parts) × (domain ≡ domain_of domain.name parts)

-- the domain with a section behind its own
abbrev pub with_part : DomainValue → Part → DomainValue
with_part d (requirements flags) = record d { requirements = d.requirements ++ flags }
with_part d (types xs) = record d { types = d.types ++ xs }
with_part d (constants xs) = record d { constants = d.constants ++ xs }
with_part d (predicates ps) = record d { predicates = d.predicates ++ ps }
with_part d (functions fs) = record d { functions = d.functions ++ fs }
with_part d (action a) = record d { actions = d.actions ++ a ∷ [] }

-- the domain with sections behind its own
abbrev pub with_parts : DomainValue → List Part → DomainValue
with_parts d [] = d
with_parts d (part ∷ parts) = with_parts (with_part d part) parts

-- the section, if there is one, was added to a domain, and it is right exactly where there is one
abbrev pub Adds : Option Part → DomainValue → DomainValue → Bool → Type 0
Adds part before after added = then_some added after ≡ option_map (with_part before) part

-- what one section says is a section of this keyword, which was added to a domain
pub record AddsPart (says : Turn Part SectionKeyword Mark) (before after : DomainValue) (key : SectionKeyword) : Type 0 where
  pub part : Part
  pub is : says ≡ go part key
  pub made : after ≡ with_part before part

-- the items are right sections, which were added to a domain
pub record AddsParts (items : List Placed) (before after : DomainValue) : Type 0 where
  pub seen : Seen
  pub parts : List Part
  pub is : domain_verdict items ≡ fine seen parts
  pub made : after ≡ with_parts before parts

-- ---- in one pass

-- a section that was added behind the keywords seen, or the end, where nothing was added, as it is answered
abbrev pub AddsTurn : List ℕ → List PlacedWord → ℕ → Seen → DomainValue → DomainValue → Option Seen → Type 0
AddsTurn text words at seen before after = ReadsTurn (λ p. AddsPart (turn domain_readers seen p) before after) (after ≡ before) text words at seen

-- the text has a file of this name, whose sections were added to a domain
pub record AddsFile (name text : List ℕ) (before after : DomainValue) : Type 0 where
  pub items : List Placed
  pub sections : List Placed
  pub has : HasItems text items
  pub opened : IsOpened (codes "domain") name sections items
  pub adds : AddsParts sections before after
