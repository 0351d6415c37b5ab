-- The sections of a domain, computed from trees. No public contract names these.
use Rattle.std.specs.Prelude.{ℕ, List, [], ◌∷◌, map, Option, Some, None, option_map}
use Rattle.std.specs.List.{flat_map}
use Rattle.pddl_token.specs.Trees.{Tree, leaf, node, list_of}
use Rattle.pddl_items.specs.Inner.TreeReading.{all_of}
use Rattle.pddl_formula_reader.specs.Inner.Reading.{typed_names}
use Rattle.pddl_sections.specs.Inner.Verdicts.{Readers}
use Rattle.pddl_file.specs.declared.keyword.SectionKeyword.{SectionKeyword}
use Rattle.pddl_file.specs.declared.keyword.SectionKeyword.TheVariants as keys
use Rattle.pddl_file.specs.declared.keyword.Seen.{Seen}
use Rattle.pddl_file.specs.declared.mark.Mark.{Mark}
use Rattle.pddl_file.specs.Inner.WordReading.{flag_at, head_key, key_at, nothing_seen, has_seen, with_seen, mark_at}
use Rattle.pddl_domain.specs.Domains.{DomainValue}
use Rattle.pddl_declaration_reader.specs.Inner.DeclarationReading.{predicate_signature_at, types_of, functions_of}
use Rattle.pddl_declaration_reader.specs.Inner.ActionReading.{action_of}
use Rattle.pddl_domain_reader.specs.DomainTexts.{Part, requirements, types, constants, predicates, functions, action, requirements_in, types_in, constants_in, predicates_in, functions_in, actions_in}

abbrev pub content_at : Option SectionKeyword → List Tree → Option Part
content_at (Some keys.Requirements) ts = option_map requirements (all_of (map flag_at ts))
content_at (Some keys.Types) ts = option_map types (types_of ts)
content_at (Some keys.Constants) ts = option_map constants (typed_names ts)
content_at (Some keys.Predicates) ts = option_map predicates (all_of (map predicate_signature_at ts))
content_at (Some keys.Functions) ts = option_map functions (functions_of ts)
content_at (Some keys.Action) ts = option_map action (action_of ts)
content_at _ ts = None

abbrev pub part_of : List Tree → Option Part
part_of [] = None
part_of (head ∷ ts) = content_at (head_key head) ts

abbrev pub part_at : Tree → Option Part
part_at (leaf w) = None
part_at (node ts) = part_of (list_of ts)

abbrev pub domain_readers : Readers Part SectionKeyword Mark Seen
domain_readers = record { part_at = part_at; key_at = key_at; mark_at = mark_at; nothing = nothing_seen; has_seen = has_seen; with_seen = with_seen }

-- the domain of these sections
abbrev pub domain_of : List ℕ → List Part → DomainValue
domain_of n parts = record {
  name = n;
  requirements = flat_map requirements_in parts;
  types = flat_map types_in parts;
  constants = flat_map constants_in parts;
  predicates = flat_map predicates_in parts;
  functions = flat_map functions_in parts;
  actions = flat_map actions_in parts;
}
