-- What the slots hold, as sections are read.
use Rattle.std.proofs.Common.{◌≡◌, ℕ, ◌+◌, ◌<◌, ◌≤◌, Bool, true, false, List, [], ◌∷◌, ◌++◌, length, get_or, drop, Option, Some, None, refl, sym, ap, ◌∙◌, subst, inl, inr}
use Rattle.std.specs.Prelude.{is_some}
use Rattle.std.specs.List.{flat_map}
use Rattle.std.proofs.lemmas.List.{append-nil}
use Rattle.std.proofs.lemmas.Grind.{flat_map-append}
use Rattle.pddl_items.specs.declared.item.Item.{Item}
use Rattle.pddl_items.specs.Items.{item_view, items_view}
use Rattle.pddl_token.specs.Trees.{Tree, Placed, erased}
use Rattle.pddl_items.proofs.TreeLists.{view_from}
use Rattle.pddl_token.proofs.Options.{test_cases}
use Rattle.pddl_sections.specs.Inner.Verdicts.{Verdict, verdict, go, key_turn, turn}
use Rattle.pddl_sections.specs.Inner.Answers.{first_missing}
use Rattle.pddl_sections.proofs.Turns.{verdict_on}
use Rattle.pddl_file.specs.declared.keyword.SectionKeyword.{SectionKeyword}
use Rattle.pddl_file.specs.declared.keyword.Seen.{Seen}
use Rattle.pddl_file.specs.declared.mark.Mark.{Mark}
use Rattle.pddl_file.specs.Inner.WordReading.{key_at, nothing_seen, has_seen, with_seen}
use Rattle.pddl_file.proofs.KeywordLaws.{key_reads}
use Rattle.pddl_file.proofs.SectionTurns.{sections_end}
use Rattle.pddl_problem_reader.specs.ProblemTexts.{Part, domain, requirements, objects, init, goal, metric, domains_in, requirements_in, objects_in, init_in, goals_in, metrics_in, part_key, required}
use Rattle.pddl_problem_reader.specs.Inner.ProblemReading.{part_at, problem_readers}
use Rattle.pddl_problem_reader.specs.Inner.Slots.{SlotsValue, no_slots, fill, FillsPart, Slot, Holds, HoldVerdict, or_nothing, has_slot}
use Rattle.pddl_problem_reader.proofs.PartLaws.{part_reads}

-- ---- one slot

module _ {X : Type 0} (f : Part → List X) (found : List Part) (x : Part) where
  more : flat_map f (found ++ x ∷ []) ≡ flat_map f found ++ f x
  more = flat_map-append f found (x ∷ []) ∙ ap (λ (zs : List X). flat_map f found ++ zs) (append-nil (f x))

  -- the section adds nothing here
  keeps : (b : Bool) (o : Option (List X)) → f x ≡ [] → Slot b o (flat_map f found) → Slot b o (flat_map f (found ++ x ∷ []))
  keeps b o is held =
      let same : flat_map f (found ++ x ∷ []) ≡ flat_map f found = more ∙ ap (λ (zs : List X). flat_map f found ++ zs) is ∙ append-nil (flat_map f found) in
      subst (Slot b o) (sym same) held

  -- the section is the first that adds here
  sets : (b : Bool) (o : Option (List X)) → false ≡ b → Slot b o (flat_map f found) → Slot true (Some (f x)) (flat_map f (found ++ x ∷ []))
  sets false o is held = ap Some (sym (more ∙ ap (λ (ys : List X). ys ++ f x) held.1))
  sets true o is held = absurd (cc)

module _ {X : Type 0} where
  pub slot_bit : (b : Bool) (o : Option (List X)) (xs : List X) → Slot b o xs → b ≡ is_some o
  slot_bit false o xs held = sym (ap is_some held.0)
  slot_bit true o xs held = sym (ap is_some held)

  pub slot_list : (b : Bool) (o : Option (List X)) (xs : List X) → Slot b o xs → or_nothing o ≡ xs
  slot_list false o xs held = ap or_nothing held.0 ∙ sym held.1
  slot_list true o xs held = ap or_nothing held

  pub slot_some : (b : Bool) (o : Option (List X)) (xs ys : List X) → Slot b o xs → o ≡ Some ys → xs ≡ ys
  slot_some b o xs ys held is = sym (slot_list b o xs held) ∙ ap or_nothing is

-- ---- all slots

pub hold_nothing : Holds nothing_seen no_slots []
hold_nothing = record { domain = (refl, refl); requirements = (refl, refl); objects = (refl, refl); init = (refl, refl); goal = (refl, refl); metric = (refl, refl) }

-- one more section, whose keyword was not seen
hold_more : (x : Part) (seen : Seen) (s : SlotsValue) (found : List Part) → false ≡ has_seen seen (part_key x) → Holds seen s found
    → Holds (with_seen seen (part_key x)) (fill s x) (found ++ x ∷ [])
hold_more (domain n) seen s found unseen held = record {
  domain = sets domains_in found (domain n) seen.domain s.domain unseen held.domain;
  requirements = keeps requirements_in found (domain n) seen.requirements s.requirements refl held.requirements;
  objects = keeps objects_in found (domain n) seen.objects s.objects refl held.objects;
  init = keeps init_in found (domain n) seen.init s.init refl held.init;
  goal = keeps goals_in found (domain n) seen.goal s.goal refl held.goal;
  metric = keeps metrics_in found (domain n) seen.metric s.metric refl held.metric;
}
hold_more (requirements flags) seen s found unseen held = record {
  domain = keeps domains_in found (requirements flags) seen.domain s.domain refl held.domain;
  requirements = sets requirements_in found (requirements flags) seen.requirements s.requirements unseen held.requirements;
  objects = keeps objects_in found (requirements flags) seen.objects s.objects refl held.objects;
  init = keeps init_in found (requirements flags) seen.init s.init refl held.init;
  goal = keeps goals_in found (requirements flags) seen.goal s.goal refl held.goal;
  metric = keeps metrics_in found (requirements flags) seen.metric s.metric refl held.metric;
}
hold_more (objects xs) seen s found unseen held = record {
  domain = keeps domains_in found (objects xs) seen.domain s.domain refl held.domain;
  requirements = keeps requirements_in found (objects xs) seen.requirements s.requirements refl held.requirements;
  objects = sets objects_in found (objects xs) seen.objects s.objects unseen held.objects;
  init = keeps init_in found (objects xs) seen.init s.init refl held.init;
  goal = keeps goals_in found (objects xs) seen.goal s.goal refl held.goal;
  metric = keeps metrics_in found (objects xs) seen.metric s.metric refl held.metric;
}
hold_more (init xs) seen s found unseen held = record {
  domain = keeps domains_in found (init xs) seen.domain s.domain refl held.domain;
  requirements = keeps requirements_in found (init xs) seen.requirements s.requirements refl held.requirements;
  objects = keeps objects_in found (init xs) seen.objects s.objects refl held.objects;
  init = sets init_in found (init xs) seen.init s.init unseen held.init;
  goal = keeps goals_in found (init xs) seen.goal s.goal refl held.goal;
  metric = keeps metrics_in found (init xs) seen.metric s.metric refl held.metric;
}
hold_more (goal f) seen s found unseen held = record {
  domain = keeps domains_in found (goal f) seen.domain s.domain refl held.domain;
  requirements = keeps requirements_in found (goal f) seen.requirements s.requirements refl held.requirements;
  objects = keeps objects_in found (goal f) seen.objects s.objects refl held.objects;
  init = keeps init_in found (goal f) seen.init s.init refl held.init;
  goal = sets goals_in found (goal f) seen.goal s.goal unseen held.goal;
  metric = keeps metrics_in found (goal f) seen.metric s.metric refl held.metric;
}
hold_more (metric m) seen s found unseen held = record {
  domain = keeps domains_in found (metric m) seen.domain s.domain refl held.domain;
  requirements = keeps requirements_in found (metric m) seen.requirements s.requirements refl held.requirements;
  objects = keeps objects_in found (metric m) seen.objects s.objects refl held.objects;
  init = keeps init_in found (metric m) seen.init s.init refl held.init;
  goal = keeps goals_in found (metric m) seen.goal s.goal refl held.goal;
  metric = sets metrics_in found (metric m) seen.metric s.metric unseen held.metric;
}

-- a section's keyword is that of its value
key_is : (x : Part) (k : SectionKeyword) (t : Tree) → Some x ≡ part_at t → Some k ≡ key_at t → part_key x ≡ k
key_is x k t part key =
    let (ts, section, content) = part_reads.sound t x (sym part) in
    let same : Some (part_key x) ≡ Some k = sym (key_reads.complete t (part_key x) (ts, section)) ∙ sym key in
    cc

-- ---- the sections so far

-- with the sections that are left the verdict is this one, and slots that were empty before hold those found
pub record SoFar (before : SlotsValue) (seen : Seen) (s : SlotsValue) (rest : List Placed) (whole : Verdict Part SectionKeyword Mark Seen) : Type 0 where
  pub found : List Part
  pub goes : verdict problem_readers seen found rest ≡ whole
  pub hold : before ≡ no_slots → Holds seen s found

pub so_far_start : (before : SlotsValue) (seen : Seen) (rest : List Placed) → seen ≡ nothing_seen → SoFar before seen before rest (verdict problem_readers nothing_seen [] rest)
so_far_start before seen rest none = record {
  found = [];
  goes = ap (λ n. verdict problem_readers n [] rest) none;
  hold = λ empty. subst (λ t. Holds seen t []) (sym empty) (subst (λ n. Holds n no_slots []) (sym none) hold_nothing);
}

-- a section that goes on has this keyword, which was not seen, and this value
go_says : (key : Option SectionKeyword) (part : Option Part) (seen : Seen) (p : Placed) (x : Part) (k : SectionKeyword) → key_turn problem_readers key seen part p ≡ go x k
    → (key ≡ Some k) × (has_seen seen k ≡ false) × (part ≡ Some x)
go_says None part seen p x k e = absurd (cc)
go_says (Some l) None seen p x k e = elim (test_cases (has_seen seen l) _ _ _ e) [ inl h ↦ absurd (cc (h.1)) | inr h ↦ absurd (cc (h.1)) ]
go_says (Some l) (Some y) seen p x k e =
    elim (test_cases (has_seen seen l) _ _ _ e) [
      | inl h ↦ absurd (cc (h.1))
      | inr h ↦
          (let key : l ≡ k = cc (h.1) in
          let part : y ≡ x = cc (h.1) in
          (ap Some key, ap (has_seen seen) (sym key) ∙ h.0, ap Some part))
    ]

module _ (before : SlotsValue) (seen : Seen) (s : SlotsValue) (p : Placed) (rest : List Placed) (whole : Verdict Part SectionKeyword Mark Seen) (so_far : SoFar before seen s (p ∷ rest) whole) where
  -- it fills its slot
  pub so_far_next : (k : SectionKeyword) (next : Seen) (after : SlotsValue) → FillsPart (turn problem_readers seen p) s after k → next ≡ with_seen seen k → SoFar before next after rest whole
  so_far_next k next after fills noted =
      let x = fills.part in
      let says = go_says (key_at (erased p)) (part_at (erased p)) seen p x k fills.is in
      let key : part_key x ≡ k = key_is x k (erased p) (sym says.2) (sym says.0) in
      let unseen = sym (ap (has_seen seen) key ∙ says.1) in
      record {
        found = so_far.found ++ x ∷ [];
        goes = ap (λ n. verdict problem_readers n (so_far.found ++ x ∷ []) rest) noted ∙ verdict_on problem_readers seen so_far.found p rest whole so_far.goes x k fills.is;
        hold = λ empty. subst (λ n. Holds n after (so_far.found ++ x ∷ [])) (sym (noted ∙ ap (with_seen seen) (sym key)))
            (subst (λ t. Holds (with_seen seen (part_key x)) t (so_far.found ++ x ∷ [])) (sym fills.made) (hold_more x seen s so_far.found unseen (so_far.hold empty)));
      }

module _ {A : Type 0} (before : SlotsValue) (seen : Seen) (s : SlotsValue) (xs : List (Item A)) (i : ℕ) (whole : Verdict Part SectionKeyword Mark Seen)
    (so_far : SoFar before seen s (items_view (drop i xs)) whole) where
  -- no section is left
  pub so_far_end : length xs ≤ i → before ≡ no_slots → HoldVerdict s whole
  so_far_end past empty = record {
    seen = seen;
    parts = so_far.found;
    is = sections_end problem_readers seen so_far.found xs i whole so_far.goes past;
    hold = so_far.hold empty;
  }

  -- this section goes on
  pub so_far_on : (item : Item A) → i < length xs → item ≡ get_or xs i item → (k : SectionKeyword) (next : Seen) (after : SlotsValue)
      → FillsPart (turn problem_readers seen (item_view item)) s after k → next ≡ with_seen seen k → SoFar before next after (items_view (drop (i + 1) xs)) whole
  so_far_on item below at k next after fills noted =
      let rest = items_view (drop (i + 1) xs) in
      let here : items_view (drop i xs) ≡ item_view item ∷ rest = view_from xs i item below ∙ ap (λ it. item_view it ∷ rest) (sym at) in
      so_far_next before seen s (item_view item) rest whole (subst (λ ps. SoFar before seen s ps whole) here so_far) k next after fills noted

-- the required sections that are missing are those whose slots are empty
pub missing_same : (seen : Seen) (s : SlotsValue) (parts : List Part) → Holds seen s parts → first_missing (has_seen seen) required ≡ first_missing (has_slot s) required
missing_same seen s parts held =
    rw (slot_bit seen.domain s.domain _ held.domain, slot_bit seen.init s.init _ held.init, slot_bit seen.goal s.goal _ held.goal) refl
