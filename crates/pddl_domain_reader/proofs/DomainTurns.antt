-- Sections of a domain, and the domain that is made of them, in the words of the code.
use Rattle.std.proofs.Common.{◌≡◌, ℕ, ◌+◌, ◌<◌, ◌≤◌, List, [], ◌∷◌, ◌++◌, length, get_or, drop, refl, sym, ap, subst, ◌∙◌, append_assoc, arith, codes}
use Rattle.std.specs.Prelude.{false, Option, Some, None, option_map}
use Rattle.std.specs.List.{flat_map}
use Rattle.std.proofs.lemmas.List.{append-nil}
use Rattle.std.proofs.lemmas.Grind.{flat_map-append}
use Rattle.pddl_items.specs.declared.item.Item.{Item}
use Rattle.pddl_items.specs.Items.{item_view, items_view}
use Rattle.pddl_token.specs.declared.token.TokenKind.TheVariants.{Close}
use Rattle.pddl_token.specs.Spelling.{PlacedWord, Spells}
use Rattle.pddl_token.specs.Trees.{Tree, Placed}
use Rattle.pddl_scan.specs.Scanning.{LexedTo}
use Rattle.pddl_token.specs.TreeWords.{list}
use Rattle.pddl_items.specs.ItemTrees.{item_tree, item_trees}
use Rattle.pddl_items.proofs.TreeLists.{list_of_trees_of, view_from}
use Rattle.pddl_token.proofs.Options.{map_some}
use Rattle.pddl_sections.specs.Files.{IsOpened}
use Rattle.pddl_sections.specs.Inner.Answers.{right}
use Rattle.pddl_sections.specs.Inner.Verdicts.{Verdict, turn, verdict}
use Rattle.pddl_sections.proofs.Turns.{verdict_on}
use Rattle.pddl_file.specs.declared.keyword.SectionKeyword.{SectionKeyword}
use Rattle.pddl_file.specs.declared.keyword.Seen.{Seen}
use Rattle.pddl_file.specs.declared.mark.Mark.{Mark}
use Rattle.pddl_file.proofs.SectionTurns.{section_goes, sections_end, file_right}
use Rattle.pddl_file.specs.Inner.Begun.{HasBegun, words_of, ReadsSection}
use Rattle.pddl_file.specs.Inner.WordReading.{head_key, key_at, has_seen, with_seen}
use Rattle.pddl_file.proofs.Begun.{begun_on, begun_ends}
use Rattle.pddl_domain.specs.Domains.{DomainValue}
use Rattle.pddl_domain_reader.specs.DomainTexts.{Part, requirements, types, constants, predicates, functions, action, requirements_in, types_in, constants_in, predicates_in, functions_in, actions_in}
use Rattle.pddl_domain_reader.specs.Inner.DomainReading.{content_at, part_of, part_at, domain_readers, domain_of}
use Rattle.pddl_domain_reader.specs.Inner.Sections.{domain_verdict, AnswersDomain, with_part, with_parts, AddsPart, AddsParts, AddsFile}

-- ---- one section

pub part_at_list : (ts : List Tree) → part_at (list ts) ≡ part_of ts
part_at_list ts = ap part_of (list_of_trees_of ts)

pub keyword_first : {A : Type 0} (xs rest : List (Item A)) (d : Item A) (key : SectionKeyword) → 1 ≤ length xs → Some key ≡ head_key (item_tree (get_or xs 0 d)) → rest ≡ drop 1 xs
    → content_at (Some key) (item_trees rest) ≡ part_of (item_trees xs)
keyword_first [] rest d key le e is = absurd (omega (arith, le))
keyword_first (x ∷ xs) rest d key le e is = ap (λ ys. content_at (Some key) (item_trees ys)) is ∙ ap (λ k. content_at k (item_trees xs)) e

pub none_added : (before : DomainValue) (part : Option Part) → None ≡ option_map (with_part before) part → None ≡ part
none_added before None e = refl
none_added before (Some x) e = absurd (cc)

-- a section whose keyword was not seen was added
pub some_added : {A : Type 0} (seen : Seen) (item : Item A) (key : SectionKeyword) → Some key ≡ key_at (item_tree item) → false ≡ has_seen seen key → (before after : DomainValue)
    → Some after ≡ option_map (with_part before) (part_at (item_tree item)) → AddsPart (turn domain_readers seen (item_view item)) before after key
some_added seen item key has unseen before after e =
    let m = map_some (with_part before) (part_at (item_tree item)) after (sym e) in
    record { part = m.0; is = section_goes domain_readers seen item key has m.0 unseen (sym m.1); made = sym m.2 }

-- ---- one section after the other

-- the domain with what a section adds to each of its lists
abbrev added : DomainValue → Part → DomainValue
added d x = record {
  name = d.name;
  requirements = d.requirements ++ requirements_in x;
  types = d.types ++ types_in x;
  constants = d.constants ++ constants_in x;
  predicates = d.predicates ++ predicates_in x;
  functions = d.functions ++ functions_in x;
  actions = d.actions ++ actions_in x;
}

part_added : (d : DomainValue) (x : Part) → with_part d x ≡ added d x
part_added d (requirements flags) = rw (append-nil d.types, append-nil d.constants, append-nil d.predicates, append-nil d.functions, append-nil d.actions) refl
part_added d (types xs) = rw (append-nil d.requirements, append-nil d.constants, append-nil d.predicates, append-nil d.functions, append-nil d.actions) refl
part_added d (constants xs) = rw (append-nil d.requirements, append-nil d.types, append-nil d.predicates, append-nil d.functions, append-nil d.actions) refl
part_added d (predicates ps) = rw (append-nil d.requirements, append-nil d.types, append-nil d.constants, append-nil d.functions, append-nil d.actions) refl
part_added d (functions fs) = rw (append-nil d.requirements, append-nil d.types, append-nil d.constants, append-nil d.predicates, append-nil d.actions) refl
part_added d (action a) = rw (append-nil d.requirements, append-nil d.types, append-nil d.constants, append-nil d.predicates, append-nil d.functions) refl

module _ (n : List ℕ) where
  part_on : (found : List Part) (x : Part) → with_part (domain_of n found) x ≡ domain_of n (found ++ x ∷ [])
  part_on found x = part_added (domain_of n found) x ∙ λ i. record {
    name = n;
    requirements = sym (more requirements_in) i;
    types = sym (more types_in) i;
    constants = sym (more constants_in) i;
    predicates = sym (more predicates_in) i;
    functions = sym (more functions_in) i;
    actions = sym (more actions_in) i;
  }
    where
      more : {X : Type 0} (f : Part → List X) → flat_map f (found ++ x ∷ []) ≡ flat_map f found ++ f x
      more f = flat_map-append f found (x ∷ []) ∙ ap (λ zs. flat_map f found ++ zs) (append-nil (f x))

  parts_on : (found parts : List Part) → with_parts (domain_of n found) parts ≡ domain_of n (found ++ parts)
  parts_on found [] = ap (domain_of n) (sym (append-nil found))
  parts_on found (x ∷ xs) = ap (λ d. with_parts d xs) (part_on found x) ∙ parts_on (found ++ x ∷ []) xs ∙ ap (domain_of n) (append_assoc found (x ∷ []) xs)

with_one_more : (d : DomainValue) (found : List Part) (x : Part) → with_parts d (found ++ x ∷ []) ≡ with_part (with_parts d found) x
with_one_more d [] x = refl
with_one_more d (y ∷ ys) x = with_one_more (with_part d y) ys x

-- the sections so far were added, and with those that are left the verdict is this one
pub record AddsSoFar (seen : Seen) (rest : List Placed) (whole : Verdict Part SectionKeyword Mark Seen) (before now : DomainValue) : Type 0 where
  pub parts : List Part
  pub goes : verdict domain_readers seen parts rest ≡ whole
  pub made : now ≡ with_parts before parts

-- one more section
pub adds_next : (seen : Seen) (p : Placed) (rest : List Placed) (whole : Verdict Part SectionKeyword Mark Seen) (before now : DomainValue) → AddsSoFar seen (p ∷ rest) whole before now
    → (key : SectionKeyword) (after : DomainValue) (next : Seen) → AddsPart (turn domain_readers seen p) now after key → next ≡ with_seen seen key → AddsSoFar next rest whole before after
adds_next seen p rest whole before now so_far key after next adds noted = record {
  parts = so_far.parts ++ adds.part ∷ [];
  goes = ap (λ n. verdict domain_readers n (so_far.parts ++ adds.part ∷ []) rest) noted ∙ verdict_on domain_readers seen so_far.parts p rest whole so_far.goes adds.part key adds.is;
  made = adds.made ∙ ap (λ d. with_part d adds.part) so_far.made ∙ sym (with_one_more before so_far.parts adds.part);
}

module _ {A : Type 0} (seen : Seen) (xs : List (Item A)) (i : ℕ) (before now : DomainValue) (so_far : AddsSoFar seen (items_view (drop i xs)) (domain_verdict (items_view xs)) before now) where
  -- no section is left
  pub adds_end : length xs ≤ i → AddsParts (items_view xs) before now
  adds_end past = record {
    seen = seen;
    parts = so_far.parts;
    is = sections_end domain_readers seen so_far.parts xs i (domain_verdict (items_view xs)) so_far.goes past;
    made = so_far.made;
  }

  -- this section goes on
  pub adds_on : (item : Item A) → i < length xs → item ≡ get_or xs i item → (key : SectionKeyword) (after : DomainValue) (next : Seen)
      → AddsPart (turn domain_readers seen (item_view item)) now after key → next ≡ with_seen seen key
      → AddsSoFar next (items_view (drop (i + 1) xs)) (domain_verdict (items_view xs)) before after
  adds_on item below at key after next adds noted =
      let rest = items_view (drop (i + 1) xs) in
      let whole = domain_verdict (items_view xs) in
      let here : items_view (drop i xs) ≡ item_view item ∷ rest = view_from xs i item below ∙ ap (λ it. item_view it ∷ rest) (sym at) in
      adds_next seen (item_view item) rest whole before now (subst (λ ps. AddsSoFar seen ps whole before now) here so_far) key after next adds noted

-- ---- in one pass

-- up to a place the text is a file's beginning with some sections, which were added
pub record SectionsTo (name text : List ℕ) (at : ℕ) (seen : Seen) (before now : DomainValue) : Type 0 where
  pub sections : List Placed
  pub begun : HasBegun (codes "domain") name text sections at
  pub so_far : (rest : List Placed) → AddsSoFar seen rest (domain_verdict (sections ++ rest)) before now

-- one section more
pub section_on : (name text : List ℕ) (at to : ℕ) (seen next : Seen) (before now after : DomainValue) (held : SectionsTo name text at seen before now)
    → ReadsSection (λ p. AddsPart (turn domain_readers seen p) now after) text (words_of held.begun) to seen next → SectionsTo name text to next before after
section_on name text at to seen next before now after held read = record {
  sections = held.sections ++ read.section ∷ [];
  begun = begun_on held.begun read.more read.section to read.lexed read.form;
  so_far = λ rest.
      subst (λ ps. AddsSoFar next rest (domain_verdict ps) before after) (sym (append_assoc held.sections (read.section ∷ []) rest))
      (adds_next seen read.section rest (domain_verdict (held.sections ++ read.section ∷ rest)) before now (held.so_far (read.section ∷ rest)) read.key after next read.holds read.next_is);
}

-- the last was read
pub last_section : (name text : List ℕ) (at to : ℕ) (seen : Seen) (before now : DomainValue) (held : SectionsTo name text at seen before now) (closing : PlacedWord) → closing.kind ≡ Close
    → LexedTo text (words_of held.begun ++ closing ∷ []) to → Spells (words_of held.begun ++ closing ∷ []) text → length text ≤ 16777216 → AddsFile name text before now
unfolding verdict
last_section name text at to seen before now held closing is_close lexed spells within =
    let (items, has, opened) = begun_ends held.begun closing to is_close lexed spells within in
    let so_far = held.so_far [] in
    record {
      items = items;
      sections = held.sections;
      has = has;
      opened = opened;
      adds = record { seen = seen; parts = so_far.parts; is = ap domain_verdict (sym (append-nil held.sections)) ∙ sym so_far.goes; made = so_far.made };
    }

-- ---- the file

-- the domain of the sections is what is answered for the items
pub answered : (items : List Placed) (name : List ℕ) (sections : List Placed) (domain : DomainValue) → IsOpened (codes "domain") name sections items
    → AddsParts sections (domain_of name []) domain → AnswersDomain domain items
answered items name sections domain is adds =
    let made : domain ≡ domain_of name adds.parts = adds.made ∙ parts_on name [] adds.parts in
    let named : domain.name ≡ name = ap (λ d. d.name) made in (
      adds.parts,
      file_right domain_readers (codes "domain") [] items name sections is adds.seen adds.parts adds.is refl ∙ ap (λ n. right n adds.parts) (sym named),
      made ∙ ap (λ n. domain_of n adds.parts) (sym named),
    )
