-- The computed answer for sections is that of the relation: they fit, or they have exactly one first fault.
use Rattle.std.proofs.Common.{◌≡◌, ◌⊎◌, inl, inr, List, [], ◌∷◌, ◌++◌, map, Bool, true, false, Option, Some, None, refl, sym, ap, ap₂, ◌∙◌, subst, append_assoc}
use Rattle.std.proofs.lemmas.Bool.{false_from_ne_true}
use Rattle.pddl_token.specs.declared.token.Span.{Span}
use Rattle.pddl_token.specs.Trees.{Tree, Placed, erased}
use Rattle.pddl_items.specs.Items.{span_of}
use Rattle.pddl_token.specs.TreeWords.{Each}
use Rattle.pddl_items.proofs.Readers.{Reads}
use Rattle.pddl_token.proofs.Options.{test_cases}
use Rattle.pddl_sections.specs.Sections.{Rules, SectionFault, faulty, unsupported, twice, AnyOf, Repeats, Fits, IsFault, FirstFault, lists_in}
use Rattle.pddl_sections.specs.Inner.Verdicts.{Readers, Verdict, fine, bad, Turn, stop, go, refusal, first_mark, refused, part_turn, key_turn, turn, after_turn, verdict}
use Rattle.pddl_sections.proofs.MarkLaws.{no_mark, no_mark_found, mark_found, mark_is}

-- The readers read what the rules say, and what was seen is remembered. This is what a kind of file has to show; all laws
-- of its sections and its files follow.
pub record Lawful {P K W S : Type 0} (rules : Rules P K W) (readers : Readers P K W S) : Type 0 where
  -- a section's value
  pub parts : Reads rules.Spells readers.part_at
  -- a section's keyword
  pub keys : Reads rules.HasKey readers.key_at
  -- the word by which a list is refused
  pub marks : (section : Tree) → Reads (rules.Marked section) (readers.mark_at section)
  -- a section that spells a value has a keyword
  pub keyed : (x : P) (t : Tree) → rules.Spells x t → (k : K) × rules.HasKey k t
  -- at first no keyword was seen
  pub unseen : (k : K) → readers.has_seen readers.nothing k ≡ false
  -- only a keyword that stands at most once is noted
  pub noted : (s : S) (k l : K) → readers.has_seen (readers.with_seen s k) l ≡ true → (readers.has_seen s l ≡ true) ⊎ ((k ≡ l) × rules.IsSingle k)
  -- what was seen stays
  pub stays : (s : S) (k l : K) → readers.has_seen s l ≡ true → readers.has_seen (readers.with_seen s k) l ≡ true
  -- a keyword that stands at most once is noted
  pub notes : (s : S) (k : K) → rules.IsSingle k → readers.has_seen (readers.with_seen s k) k ≡ true

-- words on lists
any_left : {A : Type 0} (Q : A → Type 0) (xs ys : List A) → AnyOf Q xs → AnyOf Q (xs ++ ys)
any_left Q [] ys any = absurd any
any_left Q (x ∷ xs) ys (inl q) = inl q
any_left Q (x ∷ xs) ys (inr any) = inr (any_left Q xs ys any)

any_last : {A : Type 0} (Q : A → Type 0) (xs : List A) (x : A) → Q x → AnyOf Q (xs ++ x ∷ [])
any_last Q [] x q = inl q
any_last Q (y ∷ ys) x q = inr (any_last Q ys x q)

any_push : {A : Type 0} (Q : A → Type 0) (xs : List A) (x : A) → AnyOf Q (xs ++ x ∷ []) → AnyOf Q xs ⊎ Q x
any_push Q [] x (inl q) = inr q
any_push Q [] x (inr none) = absurd none
any_push Q (y ∷ ys) x (inl q) = inl (inl q)
any_push Q (y ∷ ys) x (inr any) = elim (any_push Q ys x any) [ inl h ↦ inl (inr h) | inr h ↦ inr h ]

no_nil : {A : Type 0} (bs : List A) (t : A) (after : List A) → [] ≡ bs ++ t ∷ after → ⊥
no_nil [] t after e = absurd (cc)
no_nil (b ∷ bs) t after e = absurd (cc)

-- a place in a list and one more is the last, or lies before
last_split : {A : Type 0} (xs : List A) (x : A) (before : List A) (t : A) (after : List A) → xs ++ x ∷ [] ≡ before ++ t ∷ after
    → ((before ≡ xs) × (t ≡ x)) ⊎ ((more : List A) × (xs ≡ before ++ t ∷ more))
last_split [] x [] t after e = inl (refl, cc)
last_split [] x (b ∷ bs) t after e = let rest : [] ≡ bs ++ t ∷ after = cc in absurd (no_nil bs t after rest)
last_split (y ∷ ys) x [] t after e = let same : y ≡ t = cc in inr (ys, ap (λ z. z ∷ ys) same)
last_split (y ∷ ys) x (b ∷ bs) t after e =
    let same : y ≡ b = cc in
    let rest : ys ++ x ∷ [] ≡ bs ++ t ∷ after = cc in
    elim (last_split ys x bs t after rest) [
      | inl h ↦ inl (ap₂ (λ z zs. z ∷ zs) (sym same) h.0, h.1)
      | inr h ↦ inr (h.0, ap₂ (λ z zs. z ∷ zs) same h.1)
    ]

each_push : {A : Type 0} (R : A → Tree → Type 0) (xs : List A) (ts : List Tree) (x : A) (t : Tree) → Each R xs ts → R x t → Each R (xs ++ x ∷ []) (ts ++ t ∷ [])
each_push R [] [] x t e r = (r, tt)
each_push R [] (u ∷ ts) x t e r = absurd e
each_push R (y ∷ ys) [] x t e r = absurd e
each_push R (y ∷ ys) (u ∷ ts) x t e r = (e.0, each_push R ys ts x t e.1 r)

append_nil : {A : Type 0} (xs : List A) → xs ++ [] ≡ xs
append_nil [] = refl
append_nil (x ∷ xs) = ap (λ ys. x ∷ ys) (append_nil xs)

map_append : {A B : Type 0} (f : A → B) (xs ys : List A) → map f (xs ++ ys) ≡ map f xs ++ map f ys
map_append f [] ys = refl
map_append f (x ∷ xs) ys = ap (λ zs. f x ∷ zs) (map_append f xs ys)

pub false_true : (b : Bool) → b ≡ false → b ≡ true → ⊥
false_true b is_false is_true = let bad : false ≡ true = sym is_false ∙ is_true in absurd (cc)

module _ {P K W S : Type 0} (rules : Rules P K W) (readers : Readers P K W S) (law : Lawful rules readers) where
  -- one of these sections has the keyword
  abbrev pub Stood : K → List Tree → Type 0
  Stood k ts = AnyOf (rules.HasKey k) ts

  -- a tree has one keyword
  one_key : (t : Tree) (k l : K) → readers.key_at t ≡ Some k → rules.HasKey l t → k ≡ l
  one_key t k l e has = let other = law.keys.complete t l has in let same : Some k ≡ Some l = sym e ∙ other in cc

  -- what was found and seen in the sections so far
  pub record State (s : S) (found : List P) (front : List Tree) : Type 0 where
    pub fits : Fits rules found front
    pub only_seen : (k : K) → readers.has_seen s k ≡ true → rules.IsSingle k × Stood k front
    pub all_seen : (k : K) → rules.IsSingle k → Stood k front → readers.has_seen s k ≡ true

  none_before : (before : List Tree) (t : Tree) (after : List Tree) → [] ≡ before ++ t ∷ after → Repeats rules before t → ⊥
  none_before before t after e r = no_nil before t after e

  -- before the first section
  start : State readers.nothing [] []
  start = record {
    fits = record { each = tt; once = none_before };
    only_seen = λ k e. absurd (false_true _ (law.unseen k) e);
    all_seen = λ k single any. absurd any;
  }

  -- one more section that fits and repeats none
  module _ (s : S) (found : List P) (front : List Tree) (t : Tree) (x : P) (k : K) (state : State s found front)
      (key : readers.key_at t ≡ Some k) (fresh : readers.has_seen s k ≡ false) (part : readers.part_at t ≡ Some x) where
    not_repeated : Repeats rules front t → ⊥
    not_repeated (l, single, has, any) =
        let same = one_key t k l key has in
        false_true _ fresh (state.all_seen k (subst rules.IsSingle (sym same) single) (subst (λ j. Stood j front) (sym same) any))

    once_more : (before : List Tree) (u : Tree) (after : List Tree) → front ++ t ∷ [] ≡ before ++ u ∷ after → Repeats rules before u → ⊥
    once_more before u after e r =
        elim (last_split front t before u after e) [
          | inl h ↦ not_repeated (subst (λ v. Repeats rules front v) h.1 (subst (λ xs. Repeats rules xs u) h.0 r))
          | inr h ↦ state.fits.once before u h.0 h.1 r
        ]

    only_more : (l : K) → readers.has_seen (readers.with_seen s k) l ≡ true → rules.IsSingle l × Stood l (front ++ t ∷ [])
    only_more l e =
        elim (law.noted s k l e) [
          | inl h ↦ (let o = state.only_seen l h in (o.0, any_left (rules.HasKey l) front (t ∷ []) o.1))
          | inr h ↦ (subst rules.IsSingle h.0 h.1, any_last (rules.HasKey l) front t (subst (λ j. rules.HasKey j t) h.0 (law.keys.sound t k key)))
        ]

    all_more : (l : K) → rules.IsSingle l → Stood l (front ++ t ∷ []) → readers.has_seen (readers.with_seen s k) l ≡ true
    all_more l single any =
        elim (any_push (rules.HasKey l) front t any) [
          | inl h ↦ law.stays s k l (state.all_seen l single h)
          | inr h ↦ (let same = one_key t k l key h in
              subst (λ j. readers.has_seen (readers.with_seen s k) j ≡ true) same (law.notes s k (subst rules.IsSingle (sym same) single)))
        ]

    step : State (readers.with_seen s k) (found ++ x ∷ []) (front ++ t ∷ [])
    step = record {
      fits = record { each = each_push rules.Spells found front x t state.fits.each (law.parts.sound t x part); once = once_more };
      only_seen = only_more;
      all_seen = all_more;
    }

  -- what one turn says
  part_turn_go : (o : Option P) (k l : K) (p : Placed) (x : P) → part_turn readers o l p ≡ go x k → (l ≡ k) × (o ≡ Some x)
  part_turn_go None k l p x e = absurd (cc)
  part_turn_go (Some y) k l p x e = (cc, cc)

  key_turn_go : (o : Option K) (q : Option P) (s : S) (p : Placed) (x : P) (k : K) → key_turn readers o s q p ≡ go x k
      → (o ≡ Some k) × (readers.has_seen s k ≡ false) × (q ≡ Some x)
  key_turn_go None q s p x k e = absurd (cc)
  key_turn_go (Some l) q s p x k e =
      elim (test_cases (readers.has_seen s l) (stop (twice l (span_of p))) (part_turn readers q l p) (go x k) e) [
        | inl h ↦ (let bad = h.1 in absurd (cc))
        | inr h ↦ (let g = part_turn_go q k l p x h.1 in (ap Some g.0, subst (λ j. readers.has_seen s j ≡ false) g.0 h.0, g.1))
      ]

  unfit_fault : (front : List Tree) (p : Placed) (o : Option (W × Span)) (f : SectionFault K W) → (Repeats rules front (erased p) → ⊥) → ((x : P) → rules.Spells x (erased p) → ⊥)
      → first_mark (readers.mark_at (erased p)) (lists_in p) ≡ o → refusal o (span_of p) ≡ f → IsFault rules front p f
  unfit_fault front p None f once none e is =
      subst (IsFault rules front p) is ((once, none), no_mark rules p (readers.mark_at (erased p)) (law.marks (erased p)) (lists_in p) e, refl)
  unfit_fault front p (Some m) f once none e is =
      let (before, at, after, splits, first, marked, span) = mark_found rules p (readers.mark_at (erased p)) (law.marks (erased p)) (lists_in p) m e in
      subst (IsFault rules front p) is
      ((once, none), record { before = before; at = at; after = after; splits = splits; none_before = first; marked = marked; span_is = span })

  turn_stop : (s : S) (found : List P) (front : List Tree) (p : Placed) (f : SectionFault K W) (o : Option K) (q : Option P) → State s found front
      → readers.key_at (erased p) ≡ o → readers.part_at (erased p) ≡ q → key_turn readers o s q p ≡ stop f → IsFault rules front p f
  turn_stop s found front p f None q state key part e =
      let no_key : (k : K) → rules.HasKey k (erased p) → ⊥ = λ k has. let some = law.keys.complete (erased p) k has in let bad : None ≡ Some k = sym key ∙ some in absurd (cc) in
      unfit_fault front p (first_mark (readers.mark_at (erased p)) (lists_in p)) f (λ r. no_key r.0 r.2) (λ x spells. let k = law.keyed x (erased p) spells in no_key k.0 k.1) refl cc
  turn_stop s found front p f (Some l) None state key part e =
      elim (test_cases (readers.has_seen s l) (stop (twice l (span_of p))) (part_turn readers None l p) (stop f) e) [
        | inl h ↦ (let same = h.1 in let is : twice l (span_of p) ≡ f = cc in let o = state.only_seen l h.0 in
            subst (IsFault rules front p) is (o.0, law.keys.sound (erased p) l key, o.1, refl))
        | inr h ↦ (let same = h.1 in let is : refused readers p ≡ f = cc in
            unfit_fault front p (first_mark (readers.mark_at (erased p)) (lists_in p)) f
            (λ r. let k_is = one_key (erased p) l r.0 key r.2 in false_true _ h.0 (state.all_seen l (subst rules.IsSingle (sym k_is) r.1) (subst (λ j. Stood j front) (sym k_is) r.3)))
            (λ x spells. let some = law.parts.complete (erased p) x spells in let bad : None ≡ Some x = sym part ∙ some in absurd (cc)) refl is)
      ]
  turn_stop s found front p f (Some l) (Some x) state key part e =
      elim (test_cases (readers.has_seen s l) (stop (twice l (span_of p))) (go x l) (stop f) e) [
        | inl h ↦ (let same = h.1 in let is : twice l (span_of p) ≡ f = cc in let o = state.only_seen l h.0 in
            subst (IsFault rules front p) is (o.0, law.keys.sound (erased p) l key, o.1, refl))
        | inr h ↦ (let bad = h.1 in absurd (cc))
      ]

  -- what an answer says of the sections
  abbrev pub Says : List Placed → Verdict P K W S → Type 0
  Says ts (fine s xs) = State s xs (map erased ts)
  Says ts (bad f) = FirstFault rules ts f

  turn_cases : (t : Turn P K W) → ((f : SectionFault K W) × (t ≡ stop f)) ⊎ ((x : P) × (k : K) × (t ≡ go x k))
  turn_cases (stop f) = inl (f, refl)
  turn_cases (go x k) = inr (x, k, refl)

  verdict_says : (ts : List Placed) (s : S) (found : List P) (front : List Placed) → State s found (map erased front) → Says (front ++ ts) (verdict readers s found ts)
  unfolding verdict
  verdict_says [] s found front state = subst (λ us. State s found (map erased us)) (sym (append_nil front)) state
  verdict_says (p ∷ ps) s found front state =
      let next : P → K → Verdict P K W S = λ x k. verdict readers (readers.with_seen s k) (found ++ x ∷ []) ps in
      elim (turn_cases (turn readers s p)) [
        | inl h ↦
            subst (λ t. Says (front ++ p ∷ ps) (after_turn readers t next)) (sym h.1)
            (record {
              before = front;
              section = p;
              after = ps;
              splits = refl;
              parts = found;
              fits = state.fits;
              stands = turn_stop s found (map erased front) p h.0 (readers.key_at (erased p)) (readers.part_at (erased p)) state refl refl h.1;
            })
        | inr h ↦
            let g = key_turn_go (readers.key_at (erased p)) (readers.part_at (erased p)) s p h.0 h.1 h.2 in
            let after : State (readers.with_seen s h.1) (found ++ h.0 ∷ []) (map erased (front ++ p ∷ [])) =
            subst (State (readers.with_seen s h.1) (found ++ h.0 ∷ [])) (sym (map_append erased front (p ∷ [])))
            (step s found (map erased front) (erased p) h.0 h.1 state g.0 g.1 g.2) in
            subst (λ t. Says (front ++ p ∷ ps) (after_turn readers t next)) (sym h.2)
            (subst (λ us. Says us (next h.0 h.1)) (append_assoc front (p ∷ []) ps)
            (verdict_says ps (readers.with_seen s h.1) (found ++ h.0 ∷ []) (front ++ p ∷ []) after))
      ]

  -- Each list of sections fits or has a first fault, and that is what is answered.
  pub answer_says : (ts : List Placed) → Says ts (verdict readers readers.nothing [] ts)
  answer_says ts = verdict_says ts readers.nothing [] [] start

  -- no section of these repeats an earlier one
  abbrev Once : List Tree → Type 0
  Once ts = (before : List Tree) (t : Tree) (after : List Tree) → ts ≡ before ++ t ∷ after → Repeats rules before t → ⊥

  -- what is wrong at a section decides its turn
  unfit_turn : (s : S) (found : List P) (front : List Tree) (p : Placed) (o : Option K) (q : Option P) → State s found front
      → readers.key_at (erased p) ≡ o → readers.part_at (erased p) ≡ q → (Repeats rules front (erased p) → ⊥) → ((x : P) → rules.Spells x (erased p) → ⊥)
      → key_turn readers o s q p ≡ stop (refused readers p)
  unfit_turn s found front p None q state key part once none = refl
  unfit_turn s found front p (Some l) (Some x) state key part once none = absurd (none x (law.parts.sound (erased p) x part))
  unfit_turn s found front p (Some l) None state key part once none =
      rw (false_from_ne_true (readers.has_seen s l) (λ e. let o = state.only_seen l e in once (l, o.0, law.keys.sound (erased p) l key, o.1))) refl

  fault_turn : (s : S) (found : List P) (front : List Tree) (p : Placed) (f : SectionFault K W) → State s found front → IsFault rules front p f → turn readers s p ≡ stop f
  fault_turn s found front p (twice k span) state (single, has, any, span_is) =
      rw (law.keys.complete (erased p) k has, state.all_seen k single any, span_is) refl
  fault_turn s found front p (unsupported w span) state ((once, none), m) =
      unfit_turn s found front p (readers.key_at (erased p)) (readers.part_at (erased p)) state refl refl once none
      ∙ ap (λ o. stop (refusal o (span_of p)))
      (ap (first_mark (readers.mark_at (erased p))) m.splits ∙ mark_is rules p (readers.mark_at (erased p)) (law.marks (erased p)) m.before m.at m.after w m.none_before m.marked)
      ∙ ap (λ z. stop (unsupported w z)) (sym m.span_is)
  fault_turn s found front p (faulty span) state ((once, none), unmarked, span_is) =
      unfit_turn s found front p (readers.key_at (erased p)) (readers.part_at (erased p)) state refl refl once none
      ∙ ap (λ o. stop (refusal o (span_of p))) (no_mark_found rules p (readers.mark_at (erased p)) (law.marks (erased p)) (lists_in p) unmarked)
      ∙ ap (λ z. stop (faulty z)) (sym span_is)

  fit_turn : (s : S) (p : Placed) (x : P) (k : K) → readers.key_at (erased p) ≡ Some k → readers.has_seen s k ≡ false → readers.part_at (erased p) ≡ Some x → turn readers s p ≡ go x k
  fit_turn s p x k key fresh part = rw (key, fresh, part) refl

  -- where the reading stands after sections that fit and repeat none
  abbrev Through : S → List P → List Placed → List Placed → List P → List Placed → Type 0
  Through s found front before xs rest =
      (end : S) × State end (found ++ xs) (map erased (front ++ before)) × (verdict readers s found (before ++ rest) ≡ verdict readers end (found ++ xs) rest)

  through : (before : List Placed) (s : S) (found : List P) (front : List Placed) (xs : List P) (rest : List Placed) → State s found (map erased front)
      → Each rules.Spells xs (map erased before) → Once (map erased (front ++ before)) → Through s found front before xs rest
  unfolding verdict
  through [] s found front [] rest state each once = (
    s,
    subst (λ us. State s (found ++ []) (map erased us)) (sym (append_nil front)) (subst (λ ys. State s ys (map erased front)) (sym (append_nil found)) state),
    ap (λ ys. verdict readers s ys rest) (sym (append_nil found)),
  )
  through [] s found front (x ∷ xs) rest state each once = absurd each
  through (p ∷ ps) s found front [] rest state each once = absurd each
  through (p ∷ ps) s found front (x ∷ xs) rest state each once =
      let has = law.keyed x (erased p) each.0 in
      let k = has.0 in
      let key = law.keys.complete (erased p) k has.1 in
      let part = law.parts.complete (erased p) x each.0 in
      let fresh : readers.has_seen s k ≡ false =
      false_from_ne_true (readers.has_seen s k) (λ e. let o = state.only_seen k e in
      once (map erased front) (erased p) (map erased ps) (map_append erased front (p ∷ ps)) (k, o.0, has.1, o.1)) in
      let next_state : State (readers.with_seen s k) (found ++ x ∷ []) (map erased (front ++ p ∷ [])) =
      subst (State (readers.with_seen s k) (found ++ x ∷ [])) (sym (map_append erased front (p ∷ [])))
      (step s found (map erased front) (erased p) x k state key fresh part) in
      let regroup = append_assoc front (p ∷ []) ps in
      let (end, after, same) = through ps (readers.with_seen s k) (found ++ x ∷ []) (front ++ p ∷ []) xs rest next_state each.1 (subst (λ us. Once (map erased us)) (sym regroup) once) in
      let next : P → K → Verdict P K W S = λ y l. verdict readers (readers.with_seen s l) (found ++ y ∷ []) (ps ++ rest) in
      let so_far = append_assoc found (x ∷ []) xs in (
        end,
        subst (λ us. State end (found ++ x ∷ xs) (map erased us)) regroup (subst (λ ys. State end ys (map erased ((front ++ p ∷ []) ++ ps))) so_far after),
        ap (λ t. after_turn readers t next) (fit_turn s p x k key fresh part) ∙ same ∙ ap (λ ys. verdict readers end ys rest) so_far,
      )

  -- Sections that fit are answered, and what was seen is then what stands in them.
  pub fits_answered : (ts : List Placed) (xs : List P) → Fits rules xs (map erased ts) → (s : S) × (verdict readers readers.nothing [] ts ≡ fine s xs) × State s xs (map erased ts)
  unfolding verdict
  fits_answered ts xs fits =
      let (end, state, same) = through ts readers.nothing [] [] xs [] start fits.each fits.once in
      (end, ap (verdict readers readers.nothing []) (sym (append_nil ts)) ∙ same, state)

  -- The first fault is answered.
  pub fault_answered : (ts : List Placed) (f : SectionFault K W) → FirstFault rules ts f → verdict readers readers.nothing [] ts ≡ bad f
  unfolding verdict
  fault_answered ts f first =
      let (end, state, same) = through first.before readers.nothing [] [] first.parts (first.section ∷ first.after) start first.fits.each first.fits.once in
      let next : P → K → Verdict P K W S = λ x k. verdict readers (readers.with_seen end k) (first.parts ++ x ∷ []) first.after in
      ap (verdict readers readers.nothing []) first.splits ∙ same
      ∙ ap (λ t. after_turn readers t next) (fault_turn end first.parts (map erased first.before) first.section f state first.stands)

  -- Never both, and at most one of each.
  pub one_fault : (ts : List Placed) (f g : SectionFault K W) → FirstFault rules ts f → FirstFault rules ts g → f ≡ g
  one_fault ts f g one other = let same : bad f ≡ bad g = sym (fault_answered ts f one) ∙ fault_answered ts g other in cc

  pub one_value : (ts : List Placed) (xs ys : List P) → Fits rules xs (map erased ts) → Fits rules ys (map erased ts) → xs ≡ ys
  one_value ts xs ys one other =
      let (s, is, state) = fits_answered ts xs one in
      let (r, has, also) = fits_answered ts ys other in
      let same : fine s xs ≡ fine r ys = sym is ∙ has in cc

  pub not_both : (ts : List Placed) (xs : List P) (f : SectionFault K W) → Fits rules xs (map erased ts) → FirstFault rules ts f → ⊥
  not_both ts xs f one other =
      let (s, is, state) = fits_answered ts xs one in
      let same : fine s xs ≡ bad f = sym is ∙ fault_answered ts f other in absurd (cc)
