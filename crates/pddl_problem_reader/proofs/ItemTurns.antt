-- The sections that items are, in the words of the code.
use Rattle.std.proofs.Common.{◌≡◌, ◌≤◌, List, [], ◌∷◌, length, get_or, drop, refl, sym, ap, ◌∙◌, arith}
use Rattle.std.specs.Prelude.{false, Option, Some, None, option_map}
use Rattle.pddl_items.specs.declared.item.Item.{Item}
use Rattle.pddl_token.specs.Trees.{Tree}
use Rattle.pddl_token.specs.TreeWords.{list}
use Rattle.pddl_items.specs.ItemTrees.{item_tree, item_trees}
use Rattle.pddl_items.specs.Items.{item_view}
use Rattle.pddl_items.proofs.TreeLists.{list_of_trees_of}
use Rattle.pddl_token.proofs.Options.{map_some}
use Rattle.pddl_sections.specs.Inner.Verdicts.{turn}
use Rattle.pddl_file.specs.declared.keyword.SectionKeyword.{SectionKeyword}
use Rattle.pddl_file.specs.declared.keyword.Seen.{Seen}
use Rattle.pddl_file.specs.Inner.WordReading.{head_key, key_at, has_seen}
use Rattle.pddl_file.proofs.SectionTurns.{section_goes}
use Rattle.pddl_problem_reader.specs.Inner.ProblemReading.{content_at, part_of, part_at, problem_readers}
use Rattle.pddl_problem_reader.specs.ProblemTexts.{Part}
use Rattle.pddl_problem_reader.specs.Inner.Slots.{SlotsValue, fill, FillsPart}

pub part_at_list : (ts : List Tree) → part_at (list ts) ≡ part_of ts
part_at_list ts = ap part_of (list_of_trees_of ts)

pub keyword_first : {A : Type 0} (xs rest : List (Item A)) (head : Item A) (key : SectionKeyword) → 1 ≤ length xs → head ≡ get_or xs 0 head → Some key ≡ head_key (item_tree head) → rest ≡ drop 1 xs
    → content_at (Some key) (item_trees rest) ≡ part_of (item_trees xs)
keyword_first [] rest head key le first e is = absurd (omega (arith, le))
keyword_first (x ∷ xs) rest head key le first e is =
    ap (λ ys. content_at (Some key) (item_trees ys)) is ∙ ap (λ k. content_at k (item_trees xs)) (e ∙ ap (λ item. head_key (item_tree item)) first)

pub none_filled : (before : SlotsValue) (part : Option Part) → None ≡ option_map (fill before) part → None ≡ part
none_filled before None e = refl
none_filled before (Some x) e = absurd (cc)

-- a section whose keyword was not seen fills its slot
pub some_filled : {A : Type 0} (seen : Seen) (item : Item A) (key : SectionKeyword) → Some key ≡ key_at (item_tree item) → false ≡ has_seen seen key → (before after : SlotsValue)
    → Some after ≡ option_map (fill before) (part_at (item_tree item)) → FillsPart (turn problem_readers seen (item_view item)) before after key
some_filled seen item key has unseen before after e =
    let m = map_some (fill before) (part_at (item_tree item)) after (sym e) in
    record { part = m.0; is = section_goes problem_readers seen item key has m.0 unseen (sym m.1); made = sym m.2 }
