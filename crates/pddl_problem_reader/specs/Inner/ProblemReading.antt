-- The sections of a problem, computed from trees. No public contract names these.
use Rattle.std.specs.Prelude.{List, [], ◌∷◌, map, Option, Some, None, option_map}
use Rattle.pddl_token.specs.Trees.{Tree, leaf, node, list_of}
use Rattle.pddl_items.specs.Inner.TreeReading.{name_at, all_of}
use Rattle.pddl_formula_reader.specs.Inner.Reading.{typed_names, condition_at, only}
use Rattle.pddl_sections.specs.Inner.Verdicts.{Readers}
use Rattle.pddl_file.specs.declared.keyword.SectionKeyword.{SectionKeyword}
use Rattle.pddl_file.specs.declared.keyword.SectionKeyword.TheVariants as keys
use Rattle.pddl_file.specs.declared.keyword.Seen.{Seen}
use Rattle.pddl_file.specs.declared.mark.Mark.{Mark}
use Rattle.pddl_file.specs.Inner.WordReading.{flag_at, head_key, key_at, nothing_seen, has_seen, with_seen, mark_at}
use Rattle.pddl_init_reader.specs.Inner.InitReading.{init_at, metric_of}
use Rattle.pddl_problem_reader.specs.ProblemTexts.{Part, domain, requirements, objects, init, goal, metric}

abbrev pub content_at : Option SectionKeyword → List Tree → Option Part
content_at (Some keys.Domain) ts = option_map domain (only (map name_at ts))
content_at (Some keys.Requirements) ts = option_map requirements (all_of (map flag_at ts))
content_at (Some keys.Objects) ts = option_map objects (typed_names ts)
content_at (Some keys.Init) ts = option_map init (all_of (map init_at ts))
content_at (Some keys.Goal) ts = option_map goal (only (map condition_at ts))
content_at (Some keys.Metric) ts = option_map metric (metric_of ts)
content_at _ ts = None

abbrev pub part_of : List Tree → Option Part
part_of [] = None
part_of (head ∷ ts) = content_at (head_key head) ts

abbrev pub part_at : Tree → Option Part
part_at (leaf w) = None
part_at (node ts) = part_of (list_of ts)

abbrev pub problem_readers : Readers Part SectionKeyword Mark Seen
problem_readers = record { part_at = part_at; key_at = key_at; mark_at = mark_at; nothing = nothing_seen; has_seen = has_seen; with_seen = with_seen }
