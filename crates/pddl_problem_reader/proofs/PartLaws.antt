-- Sections of a problem are read as they are spelled.
use Rattle.std.proofs.Common.{◌≡◌, List, [], ◌∷◌, map, refl, sym, ap, ◌∙◌, subst}
use Rattle.std.specs.Prelude.{Option, Some, None, option_map}
use Rattle.pddl_token.specs.Trees.{Tree, leaf, node, list_of}
use Rattle.pddl_token.specs.TreeWords.{list, SpellsName}
use Rattle.pddl_items.specs.Inner.TreeReading.{name_at, all_of}
use Rattle.pddl_token.proofs.Options.{map_some}
use Rattle.pddl_items.proofs.TreeLists.{list_of_trees_of, trees_of_list_of}
use Rattle.pddl_items.proofs.Readers.{Reads, name_reads, each_sound, each_complete}
use Rattle.pddl_formula.specs.Formulas.{IsCondition}
use Rattle.pddl_formula_reader.specs.Inner.Reading.{typed_names, condition_at, only}
use Rattle.pddl_formula_reader.proofs.TypedListLaws.{names_sound, names_complete}
use Rattle.pddl_formula_reader.proofs.FormulaLaws.{condition_reads, only_sound, reads_each}
use Rattle.pddl_sections.proofs.SectionLaws.{Lawful}
use Rattle.pddl_file.specs.declared.keyword.SectionKeyword.{SectionKeyword}
use Rattle.pddl_file.specs.declared.keyword.SectionKeyword.TheVariants as keys
use Rattle.pddl_file.specs.Keywords.{IsHeaded}
use Rattle.pddl_file.specs.Flags.{IsFlag}
use Rattle.pddl_file.specs.Inner.WordReading.{flag_at, head_key}
use Rattle.pddl_file.proofs.KeywordLaws.{flag_reads, head_key_sound, head_key_complete, key_reads, unseen, noted, stays, notes}
use Rattle.pddl_file.proofs.MarkLaws.{mark_reads}
use Rattle.pddl_problem.specs.Inits.{IsInit}
use Rattle.pddl_init_reader.specs.Inner.InitReading.{init_at, metric_of}
use Rattle.pddl_init_reader.proofs.InitLaws.{init_reads, metric_sound, metric_complete}
use Rattle.pddl_problem_reader.specs.ProblemTexts.{Part, domain, requirements, objects, init, goal, metric, part_key, IsContent, IsPart, problem_rules}
use Rattle.pddl_problem_reader.specs.Inner.ProblemReading.{content_at, part_of, part_at, problem_readers}

-- ---- content

content_sound : (key : SectionKeyword) (ts : List Tree) (x : Part) → content_at (Some key) ts ≡ Some x → (part_key x ≡ key) × IsContent x ts
content_sound keys.Domain ts x e =
    let m = map_some domain (only (map name_at ts)) x e in
    let o = only_sound SpellsName name_at ts m.0 (reads_each SpellsName name_at name_reads.sound ts) m.1 in
    subst (λ y. (part_key y ≡ keys.Domain) × IsContent y ts) m.2 (refl, (o.0, o.1, o.2))
content_sound keys.Requirements ts x e =
    let m = map_some requirements (all_of (map flag_at ts)) x e in
    subst (λ y. (part_key y ≡ keys.Requirements) × IsContent y ts) m.2 (refl, each_sound IsFlag flag_at flag_reads ts m.0 m.1)
content_sound keys.Objects ts x e =
    let m = map_some objects (typed_names ts) x e in
    subst (λ y. (part_key y ≡ keys.Objects) × IsContent y ts) m.2 (refl, names_sound ts m.0 m.1)
content_sound keys.Init ts x e =
    let m = map_some init (all_of (map init_at ts)) x e in
    subst (λ y. (part_key y ≡ keys.Init) × IsContent y ts) m.2 (refl, each_sound IsInit init_at init_reads ts m.0 m.1)
content_sound keys.Goal ts x e =
    let m = map_some goal (only (map condition_at ts)) x e in
    let o = only_sound IsCondition condition_at ts m.0 (reads_each IsCondition condition_at condition_reads.sound ts) m.1 in
    subst (λ y. (part_key y ≡ keys.Goal) × IsContent y ts) m.2 (refl, (o.0, o.1, o.2))
content_sound keys.Metric ts x e =
    let m = map_some metric (metric_of ts) x e in
    subst (λ y. (part_key y ≡ keys.Metric) × IsContent y ts) m.2 (refl, metric_sound ts m.0 m.1)
content_sound keys.Types ts x e = absurd (cc)
content_sound keys.Constants ts x e = absurd (cc)
content_sound keys.Predicates ts x e = absurd (cc)
content_sound keys.Functions ts x e = absurd (cc)
content_sound keys.Action ts x e = absurd (cc)

content_complete : (x : Part) (ts : List Tree) → IsContent x ts → content_at (Some (part_key x)) ts ≡ Some x
content_complete (domain n) ts (t, is, name) = rw (is, name_reads.complete t n name) refl
content_complete (requirements flags) ts is = ap (option_map requirements) (each_complete IsFlag flag_at flag_reads ts flags is)
content_complete (objects xs) ts is = ap (option_map objects) (names_complete ts xs is)
content_complete (init xs) ts is = ap (option_map init) (each_complete IsInit init_at init_reads ts xs is)
content_complete (goal f) ts (t, is, condition) = ap (λ us. option_map goal (only (map condition_at us))) is ∙ ap (option_map goal) (condition_reads.complete t f condition)
content_complete (metric m) ts is = ap (option_map metric) (metric_complete ts m is)

-- ---- sections

part_of_sound : (o : Option SectionKeyword) (head : Tree) (ts : List Tree) (x : Part) → head_key head ≡ o → content_at o ts ≡ Some x → IsPart x (list (head ∷ ts))
part_of_sound None head ts x key e = absurd (cc)
part_of_sound (Some k) head ts x key e =
    let (same, content) = content_sound k ts x e in
    (ts, (head, refl, head_key_sound head (part_key x) (key ∙ ap Some (sym same))), content)

part_list_sound : (ts : List Tree) (x : Part) → part_of ts ≡ Some x → IsPart x (list ts)
part_list_sound [] x e = absurd (cc)
part_list_sound (head ∷ ts) x e = part_of_sound (head_key head) head ts x refl e

part_sound : (t : Tree) (x : Part) → part_at t ≡ Some x → IsPart x t
part_sound (leaf w) x e = absurd (cc)
part_sound (node ts) x e = subst (λ us. IsPart x (node us)) (trees_of_list_of ts) (part_list_sound (list_of ts) x e)

part_complete : (t : Tree) (x : Part) → IsPart x t → part_at t ≡ Some x
part_complete t x (ts, (head, is, keyword), content) =
    ap part_at is ∙ (ap part_of (list_of_trees_of (head ∷ ts)) ∙ (ap (λ o. content_at o ts) (head_key_complete head (part_key x) keyword) ∙ content_complete x ts content))

pub part_reads : Reads IsPart part_at
part_reads = record { sound = part_sound; complete = part_complete }

part_keyed : (x : Part) (t : Tree) → IsPart x t → (k : SectionKeyword) × IsHeaded k t
part_keyed x t (ts, section, content) = (part_key x, (ts, section))

pub problem_law : Lawful problem_rules problem_readers
problem_law = record { parts = part_reads; keys = key_reads; marks = mark_reads; keyed = part_keyed; unseen = unseen; noted = noted; stays = stays; notes = notes }
