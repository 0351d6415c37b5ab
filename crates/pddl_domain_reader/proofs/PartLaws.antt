-- Sections of a domain are read as they are spelled.
use Rattle.std.proofs.Common.{◌≡◌, List, [], ◌∷◌, map, refl, sym, ap, ◌∙◌, subst}
use Rattle.std.specs.Prelude.{Option, Some, None, option_map}
use Rattle.pddl_token.specs.Trees.{Tree, leaf, node, list_of}
use Rattle.pddl_token.specs.TreeWords.{list}
use Rattle.pddl_items.specs.Inner.TreeReading.{all_of}
use Rattle.pddl_token.proofs.Options.{map_some}
use Rattle.pddl_items.proofs.TreeLists.{list_of_trees_of, trees_of_list_of}
use Rattle.pddl_items.proofs.Readers.{Reads, each_sound, each_complete}
use Rattle.pddl_formula_reader.specs.Inner.Reading.{typed_names}
use Rattle.pddl_formula_reader.proofs.TypedListLaws.{names_sound, names_complete}
use Rattle.pddl_sections.proofs.SectionLaws.{Lawful}
use Rattle.pddl_file.specs.declared.keyword.SectionKeyword.{SectionKeyword}
use Rattle.pddl_file.specs.declared.keyword.SectionKeyword.TheVariants as keys
use Rattle.pddl_file.specs.Keywords.{IsHeaded}
use Rattle.pddl_file.specs.Flags.{IsFlag}
use Rattle.pddl_file.specs.Inner.WordReading.{flag_at, head_key}
use Rattle.pddl_file.proofs.KeywordLaws.{flag_reads, head_key_sound, head_key_complete, key_reads, unseen, noted, stays, notes}
use Rattle.pddl_file.proofs.MarkLaws.{mark_reads}
use Rattle.pddl_domain.specs.Declarations.{IsPredicateSignature}
use Rattle.pddl_declaration_reader.specs.Inner.DeclarationReading.{predicate_signature_at, types_of, functions_of}
use Rattle.pddl_declaration_reader.specs.Inner.ActionReading.{action_of}
use Rattle.pddl_declaration_reader.proofs.DeclarationLaws.{predicate_signature_reads, types_sound, types_complete, functions_sound, functions_complete}
use Rattle.pddl_declaration_reader.proofs.ActionLaws.{action_sound, action_complete}
use Rattle.pddl_domain_reader.specs.DomainTexts.{Part, requirements, types, constants, predicates, functions, action, part_key, IsContent, IsPart, domain_rules}
use Rattle.pddl_domain_reader.specs.Inner.DomainReading.{content_at, part_of, part_at, domain_readers}

-- ---- content

content_sound : (key : SectionKeyword) (ts : List Tree) (x : Part) → content_at (Some key) ts ≡ Some x → (part_key x ≡ key) × IsContent x ts
content_sound keys.Requirements ts x e =
    let m = map_some requirements (all_of (map flag_at ts)) x e in
    subst (λ y. (part_key y ≡ keys.Requirements) × IsContent y ts) m.2 (refl, each_sound IsFlag flag_at flag_reads ts m.0 m.1)
content_sound keys.Types ts x e =
    let m = map_some types (types_of ts) x e in
    subst (λ y. (part_key y ≡ keys.Types) × IsContent y ts) m.2 (refl, types_sound ts m.0 m.1)
content_sound keys.Constants ts x e =
    let m = map_some constants (typed_names ts) x e in
    subst (λ y. (part_key y ≡ keys.Constants) × IsContent y ts) m.2 (refl, names_sound ts m.0 m.1)
content_sound keys.Predicates ts x e =
    let m = map_some predicates (all_of (map predicate_signature_at ts)) x e in
    subst (λ y. (part_key y ≡ keys.Predicates) × IsContent y ts) m.2 (refl, each_sound IsPredicateSignature predicate_signature_at predicate_signature_reads ts m.0 m.1)
content_sound keys.Functions ts x e =
    let m = map_some functions (functions_of ts) x e in
    subst (λ y. (part_key y ≡ keys.Functions) × IsContent y ts) m.2 (refl, functions_sound ts m.0 m.1)
content_sound keys.Action ts x e =
    let m = map_some action (action_of ts) x e in
    subst (λ y. (part_key y ≡ keys.Action) × IsContent y ts) m.2 (refl, action_sound ts m.0 m.1)
content_sound keys.Domain ts x e = absurd (cc)
content_sound keys.Objects ts x e = absurd (cc)
content_sound keys.Init ts x e = absurd (cc)
content_sound keys.Goal ts x e = absurd (cc)
content_sound keys.Metric ts x e = absurd (cc)

content_complete : (x : Part) (ts : List Tree) → IsContent x ts → content_at (Some (part_key x)) ts ≡ Some x
content_complete (requirements flags) ts is = ap (option_map requirements) (each_complete IsFlag flag_at flag_reads ts flags is)
content_complete (types xs) ts is = ap (option_map types) (types_complete ts xs is)
content_complete (constants xs) ts is = ap (option_map constants) (names_complete ts xs is)
content_complete (predicates ps) ts is = ap (option_map predicates) (each_complete IsPredicateSignature predicate_signature_at predicate_signature_reads ts ps is)
content_complete (functions fs) ts is = ap (option_map functions) (functions_complete ts fs is)
content_complete (action a) ts is = ap (option_map action) (action_complete ts a is)

-- ---- sections

part_of_sound : (o : Option SectionKeyword) (head : Tree) (ts : List Tree) (x : Part) → head_key head ≡ o → content_at o ts ≡ Some x → IsPart x (list (head ∷ ts))
part_of_sound None head ts x key e = absurd (cc)
part_of_sound (Some k) head ts x key e =
    let (same, content) = content_sound k ts x e in
    (ts, (head, refl, head_key_sound head (part_key x) (key ∙ ap Some (sym same))), content)

part_list_sound : (ts : List Tree) (x : Part) → part_of ts ≡ Some x → IsPart x (list ts)
part_list_sound [] x e = absurd (cc)
part_list_sound (head ∷ ts) x e = part_of_sound (head_key head) head ts x refl e

part_sound : (t : Tree) (x : Part) → part_at t ≡ Some x → IsPart x t
part_sound (leaf w) x e = absurd (cc)
part_sound (node ts) x e = subst (λ us. IsPart x (node us)) (trees_of_list_of ts) (part_list_sound (list_of ts) x e)

part_complete : (t : Tree) (x : Part) → IsPart x t → part_at t ≡ Some x
part_complete t x (ts, (head, is, keyword), content) =
    ap part_at is ∙ (ap part_of (list_of_trees_of (head ∷ ts)) ∙ (ap (λ o. content_at o ts) (head_key_complete head (part_key x) keyword) ∙ content_complete x ts content))

pub part_reads : Reads IsPart part_at
part_reads = record { sound = part_sound; complete = part_complete }

part_keyed : (x : Part) (t : Tree) → IsPart x t → (k : SectionKeyword) × IsHeaded k t
part_keyed x t (ts, section, content) = (part_key x, (ts, section))

pub domain_law : Lawful domain_rules domain_readers
domain_law = record { parts = part_reads; keys = key_reads; marks = mark_reads; keyed = part_keyed; unseen = unseen; noted = noted; stays = stays; notes = notes }
