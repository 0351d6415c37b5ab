-- What is read of a problem's text in one pass.
use Rattle.std.proofs.Common.{◌≡◌, ℕ, ◌≤◌, Bool, true, false, true≢false, not, List, [], ◌∷◌, ◌++◌, map, length, Option, Some, None, Result, Ok, Err, refl, sym, ap, subst, ◌∙◌, codes}
use Rattle.std.specs.Prelude.{IfOk, IsOk, OnOk, option_map}
use Rattle.std.specs.Result.{result_ok}
use Rattle.std.proofs.lemmas.List.{append_assoc, append-nil}
use Rattle.pddl_token.specs.declared.token.TokenKind.TheVariants.{Open, Close, Keyword}
use Rattle.pddl_token.specs.Spelling.{PlacedWord, Spells}
use Rattle.pddl_token.specs.Trees.{Placed, placed_leaf, placed_node, placed_of, list_of, all_erased, erased}
use Rattle.pddl_scan.specs.Scanning.{LexedTo}
use Rattle.pddl_items.specs.Inner.TreeReading.{both, all_of}
use Rattle.pddl_items.proofs.TreeLists.{all_erased_list, list_of_trees_of}
use Rattle.pddl_text.specs.Lists.{span_over, none, plain, nested}
use Rattle.pddl_text.specs.Inner.NextWords.{ReadsSign}
use Rattle.pddl_text.proofs.Nests.{items_append}
use Rattle.pddl_sections.specs.Inner.Verdicts.{key_turn, turn, verdict}
use Rattle.pddl_file.specs.declared.keyword.SectionKeyword.{SectionKeyword}
use Rattle.pddl_file.specs.declared.keyword.SectionKeyword.TheVariants as keys
use Rattle.pddl_file.specs.declared.keyword.Seen.{Seen}
use Rattle.pddl_file.specs.Inner.Begun.{HasBegun, words_of, ReadsSection}
use Rattle.pddl_file.specs.Inner.WordReading.{key_by, key_of, nothing_seen, has_seen, with_seen}
use Rattle.pddl_file.proofs.Begun.{begun_on, begun_ends}
use Rattle.pddl_problem.specs.Inits.{InitValue, IsInit}
use Rattle.pddl_init_reader.specs.Inner.InitReading.{init_at}
use Rattle.pddl_init_reader.proofs.InitLaws.{init_reads}
use Rattle.pddl_problem_reader.specs.ProblemTexts.{Part, init}
use Rattle.pddl_problem_reader.specs.Inner.ProblemReading.{content_at, part_at, problem_readers}
use Rattle.pddl_problem_reader.specs.Inner.Slots.{SlotsValue, no_slots, fill, FillsPart}
use Rattle.pddl_problem_reader.specs.Inner.InitTexts.{ReadsTree}
use Rattle.pddl_problem_reader.specs.Inner.OnePass.{IsSectionBehind, ReadsSome, ReadsPart, HoldsFile}
use Rattle.pddl_problem_reader.proofs.InitTexts.{not_kind}
use Rattle.pddl_problem_reader.proofs.SlotLaws.{SoFar, so_far_next}

-- ---- answers

-- what holds where there is a value holds of the value
pub of_ok : {A E : Type 0} (P : A → Type 0) (r : Result A E) (x : A) → Some x ≡ result_ok r → IfOk r P → P x
of_ok P (Ok y) x e held = subst P (cc) held
of_ok P (Err other) x e held = absurd (cc)

-- what holds of one call holds where the next, which needs it, ends well
pub then_ok : {U V E F : Type 0} {P Q R : Type 0} (r : Result U E) (k : Result V F) → OnOk k (IsOk r) → OnOk r P → OnOk k Q → (P → Q → R) → OnOk k R
then_ok (Ok u) (Ok v) needs p q f = f p q
then_ok (Err e) (Ok v) needs p q f = absurd (true≢false (sym needs))
then_ok r (Err e) needs p q f = tt

-- ---- items of `:init`

both_last : {V : Type 0} (o : Option V) (os more : Option (List V)) (ys : List V) (y : V) → both o os ≡ Some ys → ((zs : List V) → os ≡ Some zs → more ≡ Some (zs ++ y ∷ [])) → both o more ≡ Some (ys ++ y ∷ [])
both_last None os more ys y e on = absurd (cc)
both_last (Some x) None more ys y e on = absurd (cc)
both_last (Some x) (Some zs) more ys y e on =
    let is : x ∷ zs ≡ ys = cc in
    ap (both (Some x)) (on zs refl) ∙ ap (λ ws. Some (ws ++ y ∷ [])) is

-- one more value
all_more : {T V : Type 0} (f : T → Option V) (xs : List T) (x : T) (ys : List V) (y : V) → all_of (map f xs) ≡ Some ys → f x ≡ Some y → all_of (map f (xs ++ x ∷ [])) ≡ Some (ys ++ y ∷ [])
all_more f [] x ys y e at =
    let is : [] ≡ ys = cc in
    ap (λ o. both o (Some [])) at ∙ ap (λ ws. Some (ws ++ y ∷ [])) is
all_more f (z ∷ zs) x ys y e at = both_last (f z) (all_of (map f zs)) (all_of (map f (zs ++ x ∷ []))) ys y e (λ ws is. all_more f zs x ws y is at)

-- one more item
pub init_more : (text : List ℕ) (words : List PlacedWord) (at to : ℕ) (inits : List InitValue) (x : InitValue) (some : ReadsSome text words at inits) → ReadsTree (IsInit x) text (words ++ some.more) 126 to
    → ReadsSome text words to (inits ++ x ∷ [])
init_more text words at to inits x some read = record {
  more = some.more ++ read.more;
  items = some.items ++ read.item ∷ [];
  lexed = rw (← append_assoc words some.more read.more) read.lexed;
  form = items_append some.form read.more (read.item ∷ []) read.form;
  reads = all_more (λ p. init_at (erased p)) some.items read.item inits x some.reads (init_reads.complete (erased read.item) x read.holds);
}

map_through : {X Y Z : Type 0} (f : Y → Z) (g : X → Y) (xs : List X) → map f (map g xs) ≡ map (λ x. f (g x)) xs
map_through f g [] = refl
map_through f g (x ∷ xs) = ap (λ zs. f (g x) ∷ zs) (map_through f g xs)

-- the items of the section
pub init_part : (text : List ℕ) (words : List PlacedWord) (at to : ℕ) (inits : List InitValue) (some : ReadsSome text words at inits) → ReadsSign text (words ++ some.more) to Close
    → ReadsPart keys.Init (init inits) text words to
init_part text words at to inits some (closing, is_close, lexed) = record {
  more = some.more;
  items = some.items;
  form = some.form;
  says = ap (λ os. option_map init (all_of os)) (map_through init_at erased some.items) ∙ ap (option_map init) some.reads;
  closing = closing;
  is_close = is_close;
  lexed = lexed;
}

-- ---- sections that are read from the text

pub not_true : (b : Bool) → not b ≡ true → b ≡ false
not_true false e = refl
not_true true e = absurd (true≢false (sym e))

-- the words of a section, behind others
regroup : (words more : List PlacedWord) (opening keyword closing : PlacedWord) → ((words ++ opening ∷ keyword ∷ []) ++ more) ++ closing ∷ [] ≡ words ++ opening ∷ ((keyword ∷ more) ++ closing ∷ [])
regroup words more opening keyword closing =
    append_assoc (words ++ opening ∷ keyword ∷ []) more (closing ∷ []) ∙ append_assoc words (opening ∷ keyword ∷ []) (more ++ closing ∷ [])

module _ (text : List ℕ) (words : List PlacedWord) (at next : ℕ) (name : List ℕ) (key : SectionKeyword) (part : Part) (behind : IsSectionBehind name text words at)
    (read : ReadsPart key part text (words ++ behind.opening ∷ behind.keyword ∷ []) next) (named : key_of name ≡ Some key) where
  abbrev inside : List Placed
  inside = placed_leaf behind.keyword ∷ read.items

  abbrev section : Placed
  section = placed_node (span_over behind.opening read.closing) (placed_of inside)

  head_is : key_by behind.keyword.kind behind.keyword.text ≡ Some key
  head_is = ap (λ kind. key_by kind behind.keyword.text) behind.is_keyword ∙ (ap key_of behind.is_name ∙ named)

  trees_are : list_of (all_erased (placed_of read.items)) ≡ map erased read.items
  trees_are = ap list_of (all_erased_list read.items) ∙ list_of_trees_of (map erased read.items)

  part_is : part_at (erased section) ≡ Some part
  part_is = ap (λ k. content_at k (list_of (all_erased (placed_of read.items)))) head_is ∙ (ap (content_at (Some key)) trees_are ∙ read.says)

  -- it fills its slot
  pub part_section : (seen : Seen) (before after : SlotsValue) (seen_then : Seen) → has_seen seen key ≡ false → after ≡ fill before part → seen_then ≡ with_seen seen key
      → ReadsSection (λ p. FillsPart (turn problem_readers seen p) before after) text words next seen seen_then
  part_section seen before after seen_then unseen made noted =
      let form = nested {levels = 126} behind.opening read.closing (behind.keyword ∷ read.more) [] inside [] behind.is_open read.is_close
      (plain behind.keyword (not_kind behind.keyword Keyword Open behind.is_keyword (λ e. absurd (cc (e)))) (not_kind behind.keyword Keyword Close behind.is_keyword (λ e. absurd (cc (e)))) read.form)
      none refl refl in
      record {
        more = behind.opening ∷ ((behind.keyword ∷ read.more) ++ read.closing ∷ []);
        section = section;
        key = key;
        lexed = subst (λ ws. LexedTo text ws next) (regroup words read.more behind.opening behind.keyword read.closing) read.lexed;
        form = form;
        holds = record {
          part = part;
          is = ap (λ k. key_turn problem_readers k seen (part_at (erased section)) section) head_is
              ∙ (ap (λ x. key_turn problem_readers (Some key) seen x section) part_is ∙ rw unseen refl);
          made = made;
        };
        next_is = noted;
      }

-- ---- sections in turn

-- up to a place the text is a file's beginning with some sections, and the slots hold these
pub record SectionsTo (name text : List ℕ) (at : ℕ) (seen : Seen) (s : SlotsValue) : Type 0 where
  pub sections : List Placed
  pub begun : HasBegun (codes "problem") name text sections at
  pub so_far : (rest : List Placed) → SoFar no_slots seen s rest (verdict problem_readers nothing_seen [] (sections ++ rest))

-- one section more
pub sections_on : (name text : List ℕ) (at to : ℕ) (seen next : Seen) (s after : SlotsValue) (held : SectionsTo name text at seen s)
    → ReadsSection (λ p. FillsPart (turn problem_readers seen p) s after) text (words_of held.begun) to seen next → SectionsTo name text to next after
sections_on name text at to seen next s after held read = record {
  sections = held.sections ++ read.section ∷ [];
  begun = begun_on held.begun read.more read.section to read.lexed read.form;
  so_far = λ rest.
      subst (λ ps. SoFar no_slots next after rest (verdict problem_readers nothing_seen [] ps)) (sym (append_assoc held.sections (read.section ∷ []) rest))
      (so_far_next no_slots seen s read.section rest (verdict problem_readers nothing_seen [] (held.sections ++ read.section ∷ rest)) (held.so_far (read.section ∷ rest)) read.key next after read.holds read.next_is);
}

-- the last section was read
pub sections_end : (name text : List ℕ) (at to : ℕ) (seen : Seen) (s : SlotsValue) (held : SectionsTo name text at seen s) (closing : PlacedWord) → closing.kind ≡ Close
    → LexedTo text (words_of held.begun ++ closing ∷ []) to → Spells (words_of held.begun ++ closing ∷ []) text → length text ≤ 16777216 → HoldsFile name text s
unfolding verdict
sections_end name text at to seen s held closing is_close lexed spells within =
    let (items, has, opened) = begun_ends held.begun closing to is_close lexed spells within in
    let so_far = held.so_far [] in
    record {
      items = items;
      sections = held.sections;
      has = has;
      opened = opened;
      hold = record {
        seen = seen;
        parts = so_far.found;
        is = ap (verdict problem_readers nothing_seen []) (sym (append-nil held.sections)) ∙ sym so_far.goes;
        hold = so_far.hold refl;
      };
    }
