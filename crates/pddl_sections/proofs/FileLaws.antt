-- The computed answer for a file is that of the relation: it is a file of this kind, or it has exactly one first fault.
use Rattle.std.proofs.Common.{◌≡◌, ◌⊎◌, inl, inr, ℕ, List, [], ◌∷◌, ◌++◌, map, Bool, true, false, Option, Some, None, refl, sym, ap, ◌∙◌, subst}
use Rattle.std.specs.Prelude.{if◌then◌else◌, option_map, Result, Ok, Err, codes}
use Rattle.std.proofs.lemmas.Bool.{false_from_ne_true}
use Rattle.pddl_token.specs.declared.token.Span.{Span}
use Rattle.pddl_token.specs.Trees.{Tree, leaf, node, list_of, Placed, placed_leaf, placed_node, PlacedList, no_placed, placed_tree, placed_of, erased}
use Rattle.pddl_token.specs.TreeWords.{list}
use Rattle.pddl_items.specs.Inner.TreeReading.{is_word_at, name_at, placed_items}
use Rattle.pddl_items.specs.Items.{span_of}
use Rattle.pddl_items.proofs.TreeLists.{list_of_trees_of, trees_of_list_of, items_back}
use Rattle.pddl_items.proofs.Readers.{name_reads, word_sound, word_complete}
use Rattle.pddl_token.proofs.Options.{map_some, if_some}
use Rattle.pddl_sections.specs.Sections.{Rules, AllOf}
use Rattle.pddl_sections.specs.Inner.Verdicts.{Readers, Verdict, fine, bad, verdict}
use Rattle.pddl_sections.specs.Files.{IsTitle, Opens, Begins, IsOpened, HeadFault, nothing, other, several, FileFault, head, at_section, missing, StandsIn, IsFile, HasFault}
use Rattle.pddl_sections.specs.Inner.Answers.{title_of, title_at, opening_of, opening_at, opened_or, none_behind, opened, Answer, right, wrong, first_missing, missing_answer, sections_answer, opened_answer, file_answer}
use Rattle.pddl_sections.proofs.SectionLaws.{Lawful, State, Says, answer_says, fits_answered, fault_answered, false_true}

-- ---- the head of a file

title_of_sound : (word : List ℕ) (ts : List Tree) (name : List ℕ) → title_of word ts ≡ Some name → IsTitle word name (list ts)
title_of_sound word [] name e = absurd (cc)
title_of_sound word (h ∷ []) name e = absurd (cc)
title_of_sound word (h ∷ x ∷ []) name e =
    let g = if_some (is_word_at word h) (name_at x) name e in
    (h, x, refl, word_sound word h g.0, name_reads.sound x name g.1)
title_of_sound word (h ∷ x ∷ y ∷ ts) name e = absurd (cc)

title_sound : (word : List ℕ) (t : Tree) (name : List ℕ) → title_at word t ≡ Some name → IsTitle word name t
title_sound word (leaf w) name e = absurd (cc)
title_sound word (node ts) name e = subst (λ us. IsTitle word name (node us)) (trees_of_list_of ts) (title_of_sound word (list_of ts) name e)

title_complete : (word : List ℕ) (t : Tree) (name : List ℕ) → IsTitle word name t → title_at word t ≡ Some name
title_complete word t name (h, x, is, begins, named) =
    ap (title_at word) is ∙ ap (title_of word) (list_of_trees_of (h ∷ x ∷ [])) ∙ rw (word_complete word h begins, name_reads.complete x name named) refl

pub placed_of_items : (ps : PlacedList) → placed_of (placed_items ps) ≡ ps
placed_of_items no_placed = refl
placed_of_items (placed_tree p ps) = ap (placed_tree p) (placed_of_items ps)

opening_sound : (word : List ℕ) (ps : List Placed) (s : Span) (o : List ℕ × List Placed) → opening_of word ps ≡ Some o → Opens word o.0 o.1 (placed_node s (placed_of ps))
opening_sound word [] s o e = absurd (cc)
opening_sound word (h ∷ []) s o e = absurd (cc)
opening_sound word (h ∷ t ∷ ps) s o e =
    let g = if_some (is_word_at (codes "define") (erased h)) (option_map (λ n. (n, ps)) (title_at word (erased t))) o e in
    let m = map_some (λ n. (n, ps)) (title_at word (erased t)) o g.1 in
    let sections : ps ≡ o.1 = ap (λ z. z.1) m.2 in
    let name : m.0 ≡ o.0 = ap (λ z. z.0) m.2 in
    record {
      first = h;
      title = t;
      span = s;
      is_list = ap (λ qs. placed_node s (placed_of (h ∷ t ∷ qs))) sections;
      is_define = word_sound (codes "define") (erased h) g.0;
      is_title = title_sound word (erased t) o.0 (m.1 ∙ ap Some name);
    }

pub opens_sound : (word : List ℕ) (p : Placed) (o : List ℕ × List Placed) → opening_at word p ≡ Some o → Opens word o.0 o.1 p
opens_sound word (placed_leaf w) o e = absurd (cc)
opens_sound word (placed_node s ps) o e = subst (λ qs. Opens word o.0 o.1 (placed_node s qs)) (placed_of_items ps) (opening_sound word (placed_items ps) s o e)

pub opens_complete : (word : List ℕ) (p : Placed) (name : List ℕ) (sections : List Placed) → Opens word name sections p → opening_at word p ≡ Some (name, sections)
opens_complete word p name sections opens =
    ap (opening_at word) opens.is_list ∙ ap (opening_of word) (items_back (opens.first ∷ opens.title ∷ sections))
    ∙ rw (word_complete (codes "define") (erased opens.first) opens.is_define, title_complete word (erased opens.title) name opens.is_title) refl

pub no_opening : (word : List ℕ) (p : Placed) → opening_at word p ≡ None → Begins word p → ⊥
no_opening word p none (name, sections, opens) =
    let some = opens_complete word p name sections opens in
    let bad : ◌≡◌ {A = Option (List ℕ × List Placed)} None (Some (name, sections)) = sym none ∙ some in absurd (cc)

option_cases : {A : Type 0} (o : Option A) → (o ≡ None) ⊎ ((x : A) × (o ≡ Some x))
option_cases None = inl refl
option_cases (Some x) = inr (x, refl)

pub none_opens : (word : List ℕ) (p : Placed) → (Begins word p → ⊥) → opening_at word p ≡ None
none_opens word p none =
    elim (option_cases (opening_at word p)) [
      | inl h ↦ h
      | inr h ↦ absurd (none (h.0.0, h.0.1, opens_sound word p h.0 h.1))
    ]

-- what an answer says of the head of a file
abbrev pub SaysOpened : List ℕ → List Placed → Result (List ℕ × List Placed) Span → Type 0
SaysOpened word items (Ok o) = IsOpened word o.0 o.1 items
SaysOpened word items (Err span) = HeadFault word items span

one_says : (word : List ℕ) (p : Placed) (o : Option (List ℕ × List Placed)) → opening_at word p ≡ o → SaysOpened word (p ∷ []) (opened_or (span_of p) o)
one_says word p None e = other p [] refl (no_opening word p e) refl
one_says word p (Some o) e = record { file = p; only = refl; opens = opens_sound word p o e }

more_say : (word : List ℕ) (p q : Placed) (ps : List Placed) (o : Option (List ℕ × List Placed)) → opening_at word p ≡ o → SaysOpened word (p ∷ q ∷ ps) (none_behind o p q)
more_say word p q ps None e = other p (q ∷ ps) refl (no_opening word p e) refl
more_say word p q ps (Some o) e = several p q ps refl (o.0, o.1, opens_sound word p o e) refl

-- The items open one file, or there is a place where they do not, and that is what is answered.
pub opened_says : (word : List ℕ) (items : List Placed) → SaysOpened word items (opened word items)
opened_says word [] = nothing refl refl
opened_says word (p ∷ []) = one_says word p (opening_at word p) refl
opened_says word (p ∷ q ∷ ps) = more_say word p q ps (opening_at word p) refl

is_opened : (word name : List ℕ) (sections items : List Placed) → IsOpened word name sections items → opened word items ≡ Ok (name, sections)
is_opened word name sections items o =
    ap (opened word) o.only ∙ ap (opened_or (span_of o.file)) (opens_complete word o.file name sections o.opens)

is_not_opened : (word : List ℕ) (items : List Placed) (span : Span) → HeadFault word items span → opened word items ≡ Err span
is_not_opened word items span (nothing none at) = ap (opened word) none ∙ ap (λ s. Err s) (sym at)
is_not_opened word items span (other first [] is unlike at) =
    ap (opened word) is ∙ ap (opened_or (span_of first)) (none_opens word first unlike) ∙ ap (λ s. Err s) (sym at)
is_not_opened word items span (other first (q ∷ qs) is unlike at) =
    ap (opened word) is ∙ ap (λ o. none_behind o first q) (none_opens word first unlike) ∙ ap (λ s. Err s) (sym at)
is_not_opened word items span (several first second rest is (name, sections, opens) at) =
    ap (opened word) is ∙ ap (λ o. none_behind o first second) (opens_complete word first name sections opens) ∙ ap (λ s. Err s) (sym at)

-- What is said of the head of a file is what is answered.
pub opened_is : (word : List ℕ) (items : List Placed) (answer : Result (List ℕ × List Placed) Span) → SaysOpened word items answer → opened word items ≡ answer
opened_is word items (Ok o) says = is_opened word o.0 o.1 items says
opened_is word items (Err span) says = is_not_opened word items span says

-- Items open at most one file, there is at most one place where they do not, and never both.
pub one_opening : (word name other_name : List ℕ) (sections others items : List Placed) → IsOpened word name sections items
    → IsOpened word other_name others items → (name ≡ other_name) × (sections ≡ others)
one_opening word name other_name sections others items one also =
    let same : ◌≡◌ {A = Result (List ℕ × List Placed) Span} (Ok (name, sections)) (Ok (other_name, others)) =
    sym (is_opened word name sections items one) ∙ is_opened word other_name others items also in
    let pair : ◌≡◌ {A = List ℕ × List Placed} (name, sections) (other_name, others) = cc in
    (ap (λ z. z.0) pair, ap (λ z. z.1) pair)

pub one_head_fault : (word : List ℕ) (items : List Placed) (span other_span : Span) → HeadFault word items span → HeadFault word items other_span → span ≡ other_span
one_head_fault word items span other_span one also =
    let same : ◌≡◌ {A = Result (List ℕ × List Placed) Span} (Err span) (Err other_span) =
    sym (is_not_opened word items span one) ∙ is_not_opened word items other_span also in cc

pub no_opened_has_fault : (word name : List ℕ) (sections items : List Placed) (span : Span) → IsOpened word name sections items → HeadFault word items span → ⊥
no_opened_has_fault word name sections items span one also =
    let same : ◌≡◌ {A = Result (List ℕ × List Placed) Span} (Ok (name, sections)) (Err span) =
    sym (is_opened word name sections items one) ∙ is_not_opened word items span also in absurd (cc)

-- ---- whole files

bool_cases : (b : Bool) → (b ≡ true) ⊎ (b ≡ false)
bool_cases true = inl refl
bool_cases false = inr refl

module _ {P K W S : Type 0} (rules : Rules P K W) (readers : Readers P K W S) (law : Lawful rules readers) (word : List ℕ) (required : List K)
    (once : AllOf rules.IsSingle required) where
  -- what was found and seen at the end of the sections
  abbrev Ended : S → List P → List Placed → Type 0
  Ended s xs sections = State rules readers law s xs (map erased sections)

  -- where none is missing, all stand
  none_missing : (s : S) (xs : List P) (sections : List Placed) (ks : List K) → Ended s xs sections → first_missing (readers.has_seen s) ks ≡ None
      → AllOf (StandsIn rules word required sections) ks
  none_missing s xs sections [] state e = tt
  none_missing s xs sections (k ∷ ks) state e =
      elim (bool_cases (readers.has_seen s k)) [
        | inl h ↦ ((state.only_seen k h).1, none_missing s xs sections ks state (sym (ap (λ b. if b then first_missing (readers.has_seen s) ks else Some k) h) ∙ e))
        | inr h ↦ (let bad : Some k ≡ None = sym (ap (λ b. if b then first_missing (readers.has_seen s) ks else Some k) h) ∙ e in absurd (cc))
      ]

  -- the first of these keywords that no section has
  abbrev FirstOf : List K → List Placed → K → Type 0
  FirstOf ks sections k =
      (before : List K) × (after : List K) × (ks ≡ before ++ k ∷ after) × AllOf (StandsIn rules word required sections) before × (StandsIn rules word required sections k → ⊥)

  missing_found : (s : S) (xs : List P) (sections : List Placed) (ks : List K) (k : K) → Ended s xs sections → AllOf rules.IsSingle ks
      → first_missing (readers.has_seen s) ks ≡ Some k → FirstOf ks sections k
  missing_found s xs sections [] k state single e = absurd (cc)
  missing_found s xs sections (l ∷ ks) k state single e =
      elim (bool_cases (readers.has_seen s l)) [
        | inl h ↦
            let (before, after, splits, others, none) =
            missing_found s xs sections ks k state single.1 (sym (ap (λ b. if b then first_missing (readers.has_seen s) ks else Some l) h) ∙ e) in
            (l ∷ before, after, ap (λ zs. l ∷ zs) splits, ((state.only_seen l h).1, others), none)
        | inr h ↦
            let found : Some l ≡ Some k = sym (ap (λ b. if b then first_missing (readers.has_seen s) ks else Some l) h) ∙ e in
            let same : l ≡ k = cc in (
              [],
              ks,
              ap (λ z. z ∷ ks) same,
              tt,
              λ any. false_true _ h (state.all_seen l single.0 (subst (StandsIn rules word required sections) (sym same) any)),
            )
      ]

  all_stand : (s : S) (xs : List P) (sections : List Placed) (ks : List K) → Ended s xs sections → AllOf rules.IsSingle ks
      → AllOf (StandsIn rules word required sections) ks → first_missing (readers.has_seen s) ks ≡ None
  all_stand s xs sections [] state single all = refl
  all_stand s xs sections (k ∷ ks) state single all =
      rw (state.all_seen k single.0 all.0) (all_stand s xs sections ks state single.1 all.1)

  missing_is : (s : S) (xs : List P) (sections : List Placed) (before : List K) (k : K) (after : List K) → Ended s xs sections → AllOf rules.IsSingle (before ++ k ∷ after)
      → AllOf (StandsIn rules word required sections) before → (StandsIn rules word required sections k → ⊥) → first_missing (readers.has_seen s) (before ++ k ∷ after) ≡ Some k
  missing_is s xs sections [] k after state single all none = rw (false_from_ne_true (readers.has_seen s k) (λ e. none (state.only_seen k e).1)) refl
  missing_is s xs sections (b ∷ bs) k after state single all none =
      rw (state.all_seen b single.0 all.0) (missing_is s xs sections bs k after state single.1 all.1 none)

  -- what an answer says of the file
  abbrev pub SaysFile : List Placed → Answer P K W → Type 0
  SaysFile items (right name parts) = IsFile rules word required name parts items
  SaysFile items (wrong fault) = HasFault rules word required items fault

  complete_says : (items : List Placed) (name : List ℕ) (sections : List Placed) (s : S) (xs : List P) (o : Option K) → IsOpened word name sections items
      → Ended s xs sections → first_missing (readers.has_seen s) required ≡ o → SaysFile items (missing_answer readers word required name xs o)
  complete_says items name sections s xs None is state e =
      record { sections = sections; opened = is; fits = state.fits; complete = none_missing s xs sections required state e }
  complete_says items name sections s xs (Some k) is state e =
      let (before, after, splits, others, none) = missing_found s xs sections required k state once e in
      record {
        name = name;
        sections = sections;
        parts = xs;
        opened = is;
        fits = state.fits;
        first = record { before = before; after = after; splits = splits; others = others; none = none };
      }

  sections_say : (items : List Placed) (name : List ℕ) (sections : List Placed) (v : Verdict P K W S) → IsOpened word name sections items
      → Says rules readers law sections v → SaysFile items (sections_answer readers word required name v)
  sections_say items name sections (bad fault) is says = record { name = name; sections = sections; opened = is; first = says }
  sections_say items name sections (fine s xs) is state =
      complete_says items name sections s xs (first_missing (readers.has_seen s) required) is state refl

  head_says : (items : List Placed) (answer : Result (List ℕ × List Placed) Span) → SaysOpened word items answer → SaysFile items (opened_answer readers word required answer)
  head_says items (Ok o) is = sections_say items o.0 o.1 (verdict readers readers.nothing [] o.1) is (answer_says rules readers law o.1)
  head_says items (Err span) fault = fault

  -- Each list of items is a file of this kind, or has a first fault, and that is what is answered.
  pub file_says : (items : List Placed) → SaysFile items (file_answer readers word required items)
  file_says items = head_says items (opened word items) (opened_says word items)

  -- What is answered, for items that open one file: what its sections say.
  pub opened_answered : (items : List Placed) (name : List ℕ) (sections : List Placed) → IsOpened word name sections items
      → file_answer readers word required items ≡ sections_answer readers word required name (verdict readers readers.nothing [] sections)
  opened_answered items name sections is = ap (opened_answer readers word required) (is_opened word name sections items is)

  -- A file is answered by its value.
  pub file_answered : (items : List Placed) (name : List ℕ) (parts : List P) → IsFile rules word required name parts items
      → file_answer readers word required items ≡ right name parts
  file_answered items name parts f =
      let (s, is, state) = fits_answered rules readers law f.sections parts f.fits in
      opened_answered items name f.sections f.opened ∙ ap (sections_answer readers word required name) is
      ∙ ap (missing_answer readers word required name parts) (all_stand s parts f.sections required state once f.complete)

  -- The first fault of a file is answered.
  pub fault_of_file : (items : List Placed) (fault : FileFault K W) → HasFault rules word required items fault
      → file_answer readers word required items ≡ wrong fault
  fault_of_file items (head span) f = ap (opened_answer readers word required) (is_not_opened word items span f)
  fault_of_file items (at_section fault) f =
      opened_answered items f.name f.sections f.opened
      ∙ ap (sections_answer readers word required f.name) (fault_answered rules readers law f.sections fault f.first)
  fault_of_file items (missing k) f =
      let (s, is, state) = fits_answered rules readers law f.sections f.parts f.fits in
      let m = f.first in
      opened_answered items f.name f.sections f.opened ∙ ap (sections_answer readers word required f.name) is
      ∙ ap (missing_answer readers word required f.name f.parts)
      (ap (first_missing (readers.has_seen s)) m.splits
      ∙ missing_is s f.parts f.sections m.before k m.after state (subst (AllOf rules.IsSingle) m.splits once) m.others m.none)

  -- Items are at most one file, with at most one value.
  pub one_file : (items : List Placed) (name other_name : List ℕ) (parts others : List P) → IsFile rules word required name parts items
      → IsFile rules word required other_name others items → (name ≡ other_name) × (parts ≡ others)
  one_file items name other_name parts others one also =
      let same : right name parts ≡ right other_name others = sym (file_answered items name parts one) ∙ file_answered items other_name others also in (cc, cc)

  -- Items have at most one first fault.
  pub one_file_fault : (items : List Placed) (fault other_fault : FileFault K W) → HasFault rules word required items fault
      → HasFault rules word required items other_fault → fault ≡ other_fault
  one_file_fault items fault other_fault one also =
      let same : wrong fault ≡ wrong other_fault = sym (fault_of_file items fault one) ∙ fault_of_file items other_fault also in cc

  -- A file has no fault.
  pub no_file_has_fault : (items : List Placed) (name : List ℕ) (parts : List P) (fault : FileFault K W) → IsFile rules word required name parts items
      → HasFault rules word required items fault → ⊥
  no_file_has_fault items name parts fault one also =
      let same : right name parts ≡ wrong fault = sym (file_answered items name parts one) ∙ fault_of_file items fault also in absurd (cc)
