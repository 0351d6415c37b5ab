-- A text is at most one domain or has one fault, and reading answers it.
use Rattle.std.proofs.Common.{◌≡◌, ℕ, List, sym, ap, ◌∙◌, subst, codes}
use Rattle.std.specs.Prelude.{◌≢◌, []}
use Rattle.pddl_scan.specs.declared.fault.TextFault.TheVariants.{Memory}
use Rattle.pddl_token.specs.Trees.{Placed}
use Rattle.pddl_text.specs.Texts.{HasItems}
use Rattle.pddl_text.proofs.TextItems.{one_items}
use Rattle.pddl_sections.proofs.FileLaws.{one_file}
use Rattle.pddl_file.specs.declared.fault.FileFault.{FileFault}
use Rattle.pddl_file.specs.declared.fault.FileFault.TheVariants as faults
use Rattle.pddl_file.specs.Inner.FileReading.{RefusesFile}
use Rattle.pddl_file.proofs.FileTexts as texts
use Rattle.pddl_domain.specs.Domains.{DomainValue}
use Rattle.pddl_domain_reader.specs.DomainTexts.{domain_rules, AreDomain, SpellsDomain, DomainStands}
use Rattle.pddl_domain_reader.specs.Inner.DomainReading.{domain_readers, domain_of}
use Rattle.pddl_domain_reader.specs.Inner.Sections.{domain_answer, AnswersDomain}
use Rattle.pddl_domain_reader.proofs.PartLaws.{domain_law}

-- ---- one domain

-- a domain is that of its sections
of_parts : (domain : DomainValue) (items : List Placed) (s : AreDomain domain items) → domain ≡ domain_of domain.name s.parts
of_parts domain items s = λ i. record {
  name = domain.name;
  requirements = s.requirements_are i;
  types = s.types_are i;
  constants = s.constants_are i;
  predicates = s.predicates_are i;
  functions = s.functions_are i;
  actions = s.actions_are i;
}

same_domain : (items : List Placed) (domain other : DomainValue) → AreDomain domain items → AreDomain other items → domain ≡ other
same_domain items domain other s t =
    let same = one_file domain_rules domain_readers domain_law (codes "domain") [] tt items domain.name other.name s.parts t.parts s.file t.file in
    of_parts domain items s ∙ ap (λ n. domain_of n s.parts) same.0 ∙ ap (domain_of other.name) same.1 ∙ sym (of_parts other items t)

pub one_domain : (text : List ℕ) (domain other : DomainValue) → SpellsDomain domain text → SpellsDomain other text → domain ≡ other
one_domain text domain other s t =
    same_domain s.items domain other s.domain_is (subst (AreDomain other) (sym (one_items text s.items t.items s.has t.has)) t.domain_is)

-- ---- what is answered

-- the text is spelled by the domain that is answered for its items
pub read_spells : (text : List ℕ) (items : List Placed) (domain : DomainValue) → HasItems text items → AnswersDomain domain items → SpellsDomain domain text
read_spells text items domain has (parts, e, is) =
    let made : AreDomain domain items = record {
      parts = parts;
      file = texts.is_file domain_rules domain_readers domain_law (codes "domain") [] tt items domain.name parts e;
      requirements_are = ap (λ d. d.requirements) is;
      types_are = ap (λ d. d.types) is;
      constants_are = ap (λ d. d.constants) is;
      predicates_are = ap (λ d. d.predicates) is;
      functions_are = ap (λ d. d.functions) is;
      actions_are = ap (λ d. d.actions) is;
    } in
    record { items = items; has = has; domain_is = made }

pub read_only : (text : List ℕ) (items : List Placed) (domain found : DomainValue) → HasItems text items → SpellsDomain domain text → AnswersDomain found items → found ≡ domain
read_only text items domain found has spells read = one_domain text found domain (read_spells text items found has read) spells

pub refused_only : (text : List ℕ) (items : List Placed) (domain : DomainValue) (fault : FileFault) → HasItems text items → SpellsDomain domain text
    → RefusesFile fault (domain_answer items) → fault ≡ faults.Text Memory
refused_only text items domain fault has spells refused =
    let is : AreDomain domain items = subst (AreDomain domain) (one_items text spells.items items spells.has has) spells.domain_is in
    texts.refused_only domain_rules domain_readers domain_law (codes "domain") [] tt fault items domain.name is.parts is.file refused

pub refused_stands : (text : List ℕ) (items : List Placed) (fault : FileFault) → HasItems text items → RefusesFile fault (domain_answer items) → DomainStands fault text
refused_stands text items fault has refused = texts.refused_stands domain_rules domain_readers domain_law (codes "domain") [] tt fault text items has refused

-- ---- one fault

pub one_domain_fault : (text : List ℕ) (fault other : FileFault) → DomainStands fault text → DomainStands other text → fault ≢ faults.Text Memory → other ≢ faults.Text Memory → fault ≡ other
one_domain_fault = texts.one_fault domain_rules domain_readers domain_law (codes "domain") [] tt

pub no_fault_in_domain : (text : List ℕ) (fault : FileFault) (domain : DomainValue) → DomainStands fault text → SpellsDomain domain text → fault ≡ faults.Text Memory
no_fault_in_domain text fault domain stands spells =
    texts.no_fault domain_rules domain_readers domain_law (codes "domain") [] tt text fault spells.items domain.name spells.domain_is.parts stands spells.has spells.domain_is.file
