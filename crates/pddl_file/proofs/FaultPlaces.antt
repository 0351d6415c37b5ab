-- A fault of a file stands in its text.
use Rattle.std.proofs.Common.{◌≡◌, ℕ, ◌≤◌, List, [], ◌∷◌, ◌++◌, length, ap, subst, arith}
use Rattle.std.specs.Prelude.{Some}
use Rattle.pddl_token.specs.declared.token.Span.{Span}
use Rattle.pddl_token.specs.Trees.{Placed, placed_leaf, placed_node, PlacedList, no_placed, placed_tree, placed_of}
use Rattle.pddl_text.proofs.FaultPlaces.{StartsIn, AllStartIn, items_inside, IsInside, text_inside, starts_by, rest_of}
use Rattle.pddl_items.specs.Items.{span_of}
use Rattle.pddl_sections.specs.Sections.{Rules, lists_in, lists_in_all, FirstMarked}
use Rattle.pddl_sections.specs.Files.{IsOpened, HeadFault, nothing, other, several}
use Rattle.pddl_file.specs.declared.keyword.SectionKeyword.{SectionKeyword}
use Rattle.pddl_file.specs.declared.mark.Mark.{Mark}
use Rattle.pddl_file.specs.declared.fault.FileFault.{FileFault}
use Rattle.pddl_file.specs.declared.fault.FileFault.TheVariants as faults
use Rattle.pddl_file.specs.Faults.{FileStands}
use Rattle.pddl_file.specs.Places.{file_place}

-- ---- lists in an item

both_start : (n : ℕ) (xs ys : List Placed) → AllStartIn n (placed_of xs) → AllStartIn n (placed_of ys) → AllStartIn n (placed_of (xs ++ ys))
both_start n [] ys left right = right
both_start n (x ∷ xs) ys left right = (left.0, both_start n xs ys left.1 right)

mutual
  lists_start : (n : ℕ) (item : Placed) → StartsIn n item → AllStartIn n (placed_of (lists_in item))
  lists_start n (placed_leaf w) starts = tt
  lists_start n (placed_node span items) starts = (starts, all_lists_start n items starts.1)

  all_lists_start : (n : ℕ) (items : PlacedList) → AllStartIn n items → AllStartIn n (placed_of (lists_in_all items))
  all_lists_start n no_placed starts = tt
  all_lists_start n (placed_tree item items) starts =
      both_start n (lists_in item) (lists_in_all items) (lists_start n item starts.0) (all_lists_start n items starts.1)

-- ---- places of sections

-- an item that starts in a text, under another name
span_inside : (text : List ℕ) (item : Placed) (span : Span) → length text ≤ 16777216 → StartsIn (length text) item → span ≡ span_of item → IsInside text span.start
span_inside text item span within starts span_is =
    let le : span.start ≤ length text = omega (arith, starts_by (length text) item starts, ap (λ (s : Span). s.start) span_is) in
    (le, omega (arith, le, within))

-- one of several items
part_starts : (n : ℕ) (before : List Placed) (here : Placed) (after items : List Placed) → items ≡ before ++ here ∷ after → AllStartIn n (placed_of items) → StartsIn n here
part_starts n before here after items splits starts =
    (rest_of n before (here ∷ after) (subst (λ (items : List Placed). AllStartIn n (placed_of items)) splits starts)).0

sections_start : (n : ℕ) (word name : List ℕ) (sections items : List Placed) → IsOpened word name sections items → AllStartIn n (placed_of items) → AllStartIn n (placed_of sections)
sections_start n word name sections items opened starts =
    let whole = (subst (λ (items : List Placed). AllStartIn n (placed_of items)) opened.only starts).0 in
    (subst (StartsIn n) opened.opens.is_list whole).1.1.1

marked_inside : {P : Type 0} (rules : Rules P SectionKeyword Mark) (text : List ℕ) (section : Placed) (mark : Mark) (span : Span) → length text ≤ 16777216
    → StartsIn (length text) section → FirstMarked rules section mark span → IsInside text span.start
marked_inside rules text section mark span within starts first =
    span_inside text first.at span within
    (part_starts (length text) first.before first.at first.after (lists_in section) first.splits (lists_start (length text) section starts)) first.span_is

head_inside : (text word : List ℕ) (items : List Placed) (span : Span) → length text ≤ 16777216 → AllStartIn (length text) (placed_of items) → HeadFault word items span → IsInside text span.start
head_inside text word items span within starts (nothing none span_is) =
    (omega (arith, ap (λ (s : Span). s.start) span_is), omega (arith, ap (λ (s : Span). s.start) span_is))
head_inside text word items span within starts (other first rest items_are begins span_is) =
    span_inside text first span within (part_starts (length text) [] first rest items items_are starts) span_is
head_inside text word items span within starts (several first second rest items_are begins span_is) =
    span_inside text second span within (part_starts (length text) (first ∷ []) second rest items items_are starts) span_is

-- ---- a file's fault

module _ {P : Type 0} (rules : Rules P SectionKeyword Mark) (word : List ℕ) (required : List SectionKeyword) where
  pub file_inside : (text : List ℕ) (fault : FileFault) (at : ℕ) → FileStands rules word required fault text → file_place fault ≡ Some at → IsInside text at
  file_inside text (faults.Text fault) at stands e = text_inside fault text at stands e
  file_inside text (faults.Head span) at stands e =
      let same : span.start ≡ at = cc (e) in
      subst (IsInside text) same (head_inside text word stands.items span stands.has.within (items_inside text stands.items stands.has) stands.stands)
  file_inside text (faults.Section span near) at stands e =
      let s = stands.0 in
      let f = s.stands.first in
      let same : span.start ≡ at = cc (e) in
      let starts = sections_start (length text) word s.stands.name s.stands.sections s.items s.stands.opened (items_inside text s.items s.has) in
      subst (IsInside text) same (span_inside text f.section span s.has.within (part_starts (length text) f.before f.section f.after s.stands.sections f.splits starts) f.stands.2)
  file_inside text (faults.Unsupported mark span) at stands e =
      let f = stands.stands.first in
      let same : span.start ≡ at = cc (e) in
      let starts = sections_start (length text) word stands.stands.name stands.stands.sections stands.items stands.stands.opened (items_inside text stands.items stands.has) in
      subst (IsInside text) same (marked_inside rules text f.section mark span stands.has.within (part_starts (length text) f.before f.section f.after stands.stands.sections f.splits starts) f.stands.1)
  file_inside text (faults.Twice keyword span) at stands e =
      let f = stands.stands.first in
      let same : span.start ≡ at = cc (e) in
      let starts = sections_start (length text) word stands.stands.name stands.stands.sections stands.items stands.stands.opened (items_inside text stands.items stands.has) in
      subst (IsInside text) same (span_inside text f.section span stands.has.within (part_starts (length text) f.before f.section f.after stands.stands.sections f.splits starts) f.stands.3)
  file_inside text (faults.Missing keyword) at stands e = absurd (cc (e))
