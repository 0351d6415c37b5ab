-- Keywords and flags are read as they are spelled, and what stood is told.
use Rattle.std.proofs.Common.{◌≡◌, ℕ, true, false, List, [], ◌∷◌, refl, sym, ap, ◌∙◌, subst, codes, inl, inr}
use Rattle.std.specs.Prelude.{Some, ◌⊎◌, ◌==◌, IsTrue}
use Rattle.std.proofs.lemmas.Bool.{eqb-true}
use Rattle.std.specs.Str.{bytes_eq}
use Rattle.pddl_token.specs.declared.token.TokenKind.{TokenKind}
use Rattle.pddl_token.specs.declared.token.TokenKind.TheVariants.{Open, Close, Name, Variable, Keyword, Number, Dash, Equal, Colon, Bracket, Compare, Arithmetic}
use Rattle.pddl_token.specs.Spelling.{Word}
use Rattle.pddl_token.specs.Trees.{Tree, leaf, node, trees_of, list_of}
use Rattle.pddl_token.specs.Names.{folded, is_name, name_of}
use Rattle.pddl_token.specs.TreeWords.{list, IsKeyword}
use Rattle.pddl_token.proofs.Options.{if_some, test_cases}
use Rattle.pddl_items.proofs.TreeLists.{list_of_trees_of, trees_of_list_of}
use Rattle.pddl_items.proofs.Readers.{Reads, same_bytes, name_of_some, name_of_is}
use Rattle.pddl_file.specs.Keywords.{key_text, IsHeaded, IsSingle}
use Rattle.pddl_file.specs.Flags.{IsFlag}
use Rattle.pddl_file.specs.Inner.WordReading.{flag_name, flag_by, flag_at, key_of, key_by, head_key, list_key, key_at, nothing_seen, has_seen, with_seen}
use Rattle.pddl_file.specs.declared.keyword.SectionKeyword.{SectionKeyword}
use Rattle.pddl_file.specs.declared.keyword.SectionKeyword.TheVariants as keys
use Rattle.pddl_file.specs.declared.keyword.Seen.{Seen}

-- ---- lists of trees

pub list_inj : (xs ys : List Tree) → list xs ≡ list ys → xs ≡ ys
list_inj xs ys e = let same : trees_of xs ≡ trees_of ys = cc in sym (list_of_trees_of xs) ∙ (ap list_of same ∙ list_of_trees_of ys)

-- ---- flags

by_flag : (w : Word) (kind : TokenKind) (name : List ℕ) → w.kind ≡ kind → flag_by kind w.text ≡ Some name → (w.kind ≡ Keyword) × (flag_name w.text ≡ Some name)
by_flag w Keyword name is e = (is, e)
by_flag w Open name is e = absurd (cc)
by_flag w Close name is e = absurd (cc)
by_flag w Name name is e = absurd (cc)
by_flag w Variable name is e = absurd (cc)
by_flag w Number name is e = absurd (cc)
by_flag w Dash name is e = absurd (cc)
by_flag w Equal name is e = absurd (cc)
by_flag w Colon name is e = absurd (cc)
by_flag w Bracket name is e = absurd (cc)
by_flag w Compare name is e = absurd (cc)
by_flag w Arithmetic name is e = absurd (cc)

flag_name_some : (text name : List ℕ) → flag_name text ≡ Some name → (rest : List ℕ) × (text ≡ 58 ∷ rest) × IsTrue (is_name name) × (folded rest ≡ name)
flag_name_some [] name e = absurd (cc)
flag_name_some (b ∷ rest) name e =
    let h = if_some (b == 58) (name_of rest) name e in
    let g = name_of_some rest name h.1 in
    (rest, ap (λ (c : ℕ). c ∷ rest) (eqb-true b 58 h.0), g.0, g.1)

flag_sound : (t : Tree) (name : List ℕ) → flag_at t ≡ Some name → IsFlag name t
flag_sound (leaf w) name e =
    let h = by_flag w w.kind name refl e in
    let (rest, is, good, spelled) = flag_name_some w.text name h.1 in
    (good, h.0, (rest, is, spelled))
flag_sound (node ts) name e = absurd (cc)

flag_complete : (t : Tree) (name : List ℕ) → IsFlag name t → flag_at t ≡ Some name
flag_complete (leaf w) name (good, kind, (rest, is, spelled)) = ap (λ k. flag_by k w.text) kind ∙ (ap flag_name is ∙ name_of_is rest name good spelled)
flag_complete (node ts) name none = absurd none

pub flag_reads : Reads IsFlag flag_at
flag_reads = record { sound = flag_sound; complete = flag_complete }

-- ---- keywords of sections

key_of_sound : (text : List ℕ) (k : SectionKeyword) → key_of text ≡ Some k → text ≡ key_text k
key_of_sound text k e =
    elim (test_cases (bytes_eq text (codes ":requirements")) _ _ _ e) [
      | inl h ↦ let is : keys.Requirements ≡ k = cc (h.1) in same_bytes text (codes ":requirements") h.0 ∙ ap key_text is
      | inr h0 ↦
          elim (test_cases (bytes_eq text (codes ":types")) _ _ _ h0.1) [
            | inl h ↦ let is : keys.Types ≡ k = cc (h.1) in same_bytes text (codes ":types") h.0 ∙ ap key_text is
            | inr h1 ↦
                elim (test_cases (bytes_eq text (codes ":constants")) _ _ _ h1.1) [
                  | inl h ↦ let is : keys.Constants ≡ k = cc (h.1) in same_bytes text (codes ":constants") h.0 ∙ ap key_text is
                  | inr h2 ↦
                      elim (test_cases (bytes_eq text (codes ":predicates")) _ _ _ h2.1) [
                        | inl h ↦ let is : keys.Predicates ≡ k = cc (h.1) in same_bytes text (codes ":predicates") h.0 ∙ ap key_text is
                        | inr h3 ↦
                            elim (test_cases (bytes_eq text (codes ":functions")) _ _ _ h3.1) [
                              | inl h ↦ let is : keys.Functions ≡ k = cc (h.1) in same_bytes text (codes ":functions") h.0 ∙ ap key_text is
                              | inr h4 ↦
                                  elim (test_cases (bytes_eq text (codes ":action")) _ _ _ h4.1) [
                                    | inl h ↦ let is : keys.Action ≡ k = cc (h.1) in same_bytes text (codes ":action") h.0 ∙ ap key_text is
                                    | inr h5 ↦
                                        elim (test_cases (bytes_eq text (codes ":domain")) _ _ _ h5.1) [
                                          | inl h ↦ let is : keys.Domain ≡ k = cc (h.1) in same_bytes text (codes ":domain") h.0 ∙ ap key_text is
                                          | inr h6 ↦
                                              elim (test_cases (bytes_eq text (codes ":objects")) _ _ _ h6.1) [
                                                | inl h ↦ let is : keys.Objects ≡ k = cc (h.1) in same_bytes text (codes ":objects") h.0 ∙ ap key_text is
                                                | inr h7 ↦
                                                    elim (test_cases (bytes_eq text (codes ":init")) _ _ _ h7.1) [
                                                      | inl h ↦ let is : keys.Init ≡ k = cc (h.1) in same_bytes text (codes ":init") h.0 ∙ ap key_text is
                                                      | inr h8 ↦
                                                          elim (test_cases (bytes_eq text (codes ":goal")) _ _ _ h8.1) [
                                                            | inl h ↦ let is : keys.Goal ≡ k = cc (h.1) in same_bytes text (codes ":goal") h.0 ∙ ap key_text is
                                                            | inr h9 ↦
                                                                elim (test_cases (bytes_eq text (codes ":metric")) _ _ _ h9.1) [
                                                                  | inl h ↦ let is : keys.Metric ≡ k = cc (h.1) in same_bytes text (codes ":metric") h.0 ∙ ap key_text is
                                                                  | inr h10 ↦
                                                                      absurd (cc (h10.1))
                                                                ]
                                                          ]
                                                    ]
                                              ]
                                        ]
                                  ]
                            ]
                      ]
                ]
          ]
    ]

key_of_text : (k : SectionKeyword) → key_of (key_text k) ≡ Some k
key_of_text keys.Requirements = refl
key_of_text keys.Types = refl
key_of_text keys.Constants = refl
key_of_text keys.Predicates = refl
key_of_text keys.Functions = refl
key_of_text keys.Action = refl
key_of_text keys.Domain = refl
key_of_text keys.Objects = refl
key_of_text keys.Init = refl
key_of_text keys.Goal = refl
key_of_text keys.Metric = refl

by_key : (w : Word) (kind : TokenKind) (k : SectionKeyword) → w.kind ≡ kind → key_by kind w.text ≡ Some k → IsKeyword (key_text k) (leaf w)
by_key w Keyword k is e = (is, key_of_sound (folded w.text) k e)
by_key w Open k is e = absurd (cc)
by_key w Close k is e = absurd (cc)
by_key w Name k is e = absurd (cc)
by_key w Variable k is e = absurd (cc)
by_key w Number k is e = absurd (cc)
by_key w Dash k is e = absurd (cc)
by_key w Equal k is e = absurd (cc)
by_key w Colon k is e = absurd (cc)
by_key w Bracket k is e = absurd (cc)
by_key w Compare k is e = absurd (cc)
by_key w Arithmetic k is e = absurd (cc)

pub head_key_sound : (t : Tree) (k : SectionKeyword) → head_key t ≡ Some k → IsKeyword (key_text k) t
head_key_sound (leaf w) k e = by_key w w.kind k refl e
head_key_sound (node ts) k e = absurd (cc)

pub head_key_complete : (t : Tree) (k : SectionKeyword) → IsKeyword (key_text k) t → head_key t ≡ Some k
head_key_complete (leaf w) k (kind, is) = ap (λ kind. key_by kind w.text) kind ∙ (ap key_of is ∙ key_of_text k)
head_key_complete (node ts) k none = absurd none

list_key_sound : (ts : List Tree) (k : SectionKeyword) → list_key ts ≡ Some k → IsHeaded k (list ts)
list_key_sound [] k e = absurd (cc)
list_key_sound (head ∷ ts) k e = (ts, (head, refl, head_key_sound head k e))

key_sound : (t : Tree) (k : SectionKeyword) → key_at t ≡ Some k → IsHeaded k t
key_sound (leaf w) k e = absurd (cc)
key_sound (node ts) k e = subst (λ us. IsHeaded k (node us)) (trees_of_list_of ts) (list_key_sound (list_of ts) k e)

key_complete : (t : Tree) (k : SectionKeyword) → IsHeaded k t → key_at t ≡ Some k
key_complete t k (ts, (head, is, keyword)) = ap key_at is ∙ (ap list_key (list_of_trees_of (head ∷ ts)) ∙ head_key_complete head k keyword)

pub key_reads : Reads IsHeaded key_at
key_reads = record { sound = key_sound; complete = key_complete }

-- ---- what stood

pub unseen : (k : SectionKeyword) → has_seen nothing_seen k ≡ false
unseen keys.Requirements = refl
unseen keys.Types = refl
unseen keys.Constants = refl
unseen keys.Predicates = refl
unseen keys.Functions = refl
unseen keys.Action = refl
unseen keys.Domain = refl
unseen keys.Objects = refl
unseen keys.Init = refl
unseen keys.Goal = refl
unseen keys.Metric = refl

pub noted : (s : Seen) (k l : SectionKeyword) → has_seen (with_seen s k) l ≡ true → (has_seen s l ≡ true) ⊎ ((k ≡ l) × IsSingle k)
noted s keys.Action l e = inl e
noted s keys.Requirements keys.Requirements e = inr (refl, tt)
noted s keys.Requirements keys.Types e = inl e
noted s keys.Requirements keys.Constants e = inl e
noted s keys.Requirements keys.Predicates e = inl e
noted s keys.Requirements keys.Functions e = inl e
noted s keys.Requirements keys.Action e = inl e
noted s keys.Requirements keys.Domain e = inl e
noted s keys.Requirements keys.Objects e = inl e
noted s keys.Requirements keys.Init e = inl e
noted s keys.Requirements keys.Goal e = inl e
noted s keys.Requirements keys.Metric e = inl e
noted s keys.Types keys.Requirements e = inl e
noted s keys.Types keys.Types e = inr (refl, tt)
noted s keys.Types keys.Constants e = inl e
noted s keys.Types keys.Predicates e = inl e
noted s keys.Types keys.Functions e = inl e
noted s keys.Types keys.Action e = inl e
noted s keys.Types keys.Domain e = inl e
noted s keys.Types keys.Objects e = inl e
noted s keys.Types keys.Init e = inl e
noted s keys.Types keys.Goal e = inl e
noted s keys.Types keys.Metric e = inl e
noted s keys.Constants keys.Requirements e = inl e
noted s keys.Constants keys.Types e = inl e
noted s keys.Constants keys.Constants e = inr (refl, tt)
noted s keys.Constants keys.Predicates e = inl e
noted s keys.Constants keys.Functions e = inl e
noted s keys.Constants keys.Action e = inl e
noted s keys.Constants keys.Domain e = inl e
noted s keys.Constants keys.Objects e = inl e
noted s keys.Constants keys.Init e = inl e
noted s keys.Constants keys.Goal e = inl e
noted s keys.Constants keys.Metric e = inl e
noted s keys.Predicates keys.Requirements e = inl e
noted s keys.Predicates keys.Types e = inl e
noted s keys.Predicates keys.Constants e = inl e
noted s keys.Predicates keys.Predicates e = inr (refl, tt)
noted s keys.Predicates keys.Functions e = inl e
noted s keys.Predicates keys.Action e = inl e
noted s keys.Predicates keys.Domain e = inl e
noted s keys.Predicates keys.Objects e = inl e
noted s keys.Predicates keys.Init e = inl e
noted s keys.Predicates keys.Goal e = inl e
noted s keys.Predicates keys.Metric e = inl e
noted s keys.Functions keys.Requirements e = inl e
noted s keys.Functions keys.Types e = inl e
noted s keys.Functions keys.Constants e = inl e
noted s keys.Functions keys.Predicates e = inl e
noted s keys.Functions keys.Functions e = inr (refl, tt)
noted s keys.Functions keys.Action e = inl e
noted s keys.Functions keys.Domain e = inl e
noted s keys.Functions keys.Objects e = inl e
noted s keys.Functions keys.Init e = inl e
noted s keys.Functions keys.Goal e = inl e
noted s keys.Functions keys.Metric e = inl e
noted s keys.Domain keys.Requirements e = inl e
noted s keys.Domain keys.Types e = inl e
noted s keys.Domain keys.Constants e = inl e
noted s keys.Domain keys.Predicates e = inl e
noted s keys.Domain keys.Functions e = inl e
noted s keys.Domain keys.Action e = inl e
noted s keys.Domain keys.Domain e = inr (refl, tt)
noted s keys.Domain keys.Objects e = inl e
noted s keys.Domain keys.Init e = inl e
noted s keys.Domain keys.Goal e = inl e
noted s keys.Domain keys.Metric e = inl e
noted s keys.Objects keys.Requirements e = inl e
noted s keys.Objects keys.Types e = inl e
noted s keys.Objects keys.Constants e = inl e
noted s keys.Objects keys.Predicates e = inl e
noted s keys.Objects keys.Functions e = inl e
noted s keys.Objects keys.Action e = inl e
noted s keys.Objects keys.Domain e = inl e
noted s keys.Objects keys.Objects e = inr (refl, tt)
noted s keys.Objects keys.Init e = inl e
noted s keys.Objects keys.Goal e = inl e
noted s keys.Objects keys.Metric e = inl e
noted s keys.Init keys.Requirements e = inl e
noted s keys.Init keys.Types e = inl e
noted s keys.Init keys.Constants e = inl e
noted s keys.Init keys.Predicates e = inl e
noted s keys.Init keys.Functions e = inl e
noted s keys.Init keys.Action e = inl e
noted s keys.Init keys.Domain e = inl e
noted s keys.Init keys.Objects e = inl e
noted s keys.Init keys.Init e = inr (refl, tt)
noted s keys.Init keys.Goal e = inl e
noted s keys.Init keys.Metric e = inl e
noted s keys.Goal keys.Requirements e = inl e
noted s keys.Goal keys.Types e = inl e
noted s keys.Goal keys.Constants e = inl e
noted s keys.Goal keys.Predicates e = inl e
noted s keys.Goal keys.Functions e = inl e
noted s keys.Goal keys.Action e = inl e
noted s keys.Goal keys.Domain e = inl e
noted s keys.Goal keys.Objects e = inl e
noted s keys.Goal keys.Init e = inl e
noted s keys.Goal keys.Goal e = inr (refl, tt)
noted s keys.Goal keys.Metric e = inl e
noted s keys.Metric keys.Requirements e = inl e
noted s keys.Metric keys.Types e = inl e
noted s keys.Metric keys.Constants e = inl e
noted s keys.Metric keys.Predicates e = inl e
noted s keys.Metric keys.Functions e = inl e
noted s keys.Metric keys.Action e = inl e
noted s keys.Metric keys.Domain e = inl e
noted s keys.Metric keys.Objects e = inl e
noted s keys.Metric keys.Init e = inl e
noted s keys.Metric keys.Goal e = inl e
noted s keys.Metric keys.Metric e = inr (refl, tt)

pub stays : (s : Seen) (k l : SectionKeyword) → has_seen s l ≡ true → has_seen (with_seen s k) l ≡ true
stays s keys.Action l e = e
stays s keys.Requirements keys.Requirements e = refl
stays s keys.Requirements keys.Types e = e
stays s keys.Requirements keys.Constants e = e
stays s keys.Requirements keys.Predicates e = e
stays s keys.Requirements keys.Functions e = e
stays s keys.Requirements keys.Action e = e
stays s keys.Requirements keys.Domain e = e
stays s keys.Requirements keys.Objects e = e
stays s keys.Requirements keys.Init e = e
stays s keys.Requirements keys.Goal e = e
stays s keys.Requirements keys.Metric e = e
stays s keys.Types keys.Requirements e = e
stays s keys.Types keys.Types e = refl
stays s keys.Types keys.Constants e = e
stays s keys.Types keys.Predicates e = e
stays s keys.Types keys.Functions e = e
stays s keys.Types keys.Action e = e
stays s keys.Types keys.Domain e = e
stays s keys.Types keys.Objects e = e
stays s keys.Types keys.Init e = e
stays s keys.Types keys.Goal e = e
stays s keys.Types keys.Metric e = e
stays s keys.Constants keys.Requirements e = e
stays s keys.Constants keys.Types e = e
stays s keys.Constants keys.Constants e = refl
stays s keys.Constants keys.Predicates e = e
stays s keys.Constants keys.Functions e = e
stays s keys.Constants keys.Action e = e
stays s keys.Constants keys.Domain e = e
stays s keys.Constants keys.Objects e = e
stays s keys.Constants keys.Init e = e
stays s keys.Constants keys.Goal e = e
stays s keys.Constants keys.Metric e = e
stays s keys.Predicates keys.Requirements e = e
stays s keys.Predicates keys.Types e = e
stays s keys.Predicates keys.Constants e = e
stays s keys.Predicates keys.Predicates e = refl
stays s keys.Predicates keys.Functions e = e
stays s keys.Predicates keys.Action e = e
stays s keys.Predicates keys.Domain e = e
stays s keys.Predicates keys.Objects e = e
stays s keys.Predicates keys.Init e = e
stays s keys.Predicates keys.Goal e = e
stays s keys.Predicates keys.Metric e = e
stays s keys.Functions keys.Requirements e = e
stays s keys.Functions keys.Types e = e
stays s keys.Functions keys.Constants e = e
stays s keys.Functions keys.Predicates e = e
stays s keys.Functions keys.Functions e = refl
stays s keys.Functions keys.Action e = e
stays s keys.Functions keys.Domain e = e
stays s keys.Functions keys.Objects e = e
stays s keys.Functions keys.Init e = e
stays s keys.Functions keys.Goal e = e
stays s keys.Functions keys.Metric e = e
stays s keys.Domain keys.Requirements e = e
stays s keys.Domain keys.Types e = e
stays s keys.Domain keys.Constants e = e
stays s keys.Domain keys.Predicates e = e
stays s keys.Domain keys.Functions e = e
stays s keys.Domain keys.Action e = e
stays s keys.Domain keys.Domain e = refl
stays s keys.Domain keys.Objects e = e
stays s keys.Domain keys.Init e = e
stays s keys.Domain keys.Goal e = e
stays s keys.Domain keys.Metric e = e
stays s keys.Objects keys.Requirements e = e
stays s keys.Objects keys.Types e = e
stays s keys.Objects keys.Constants e = e
stays s keys.Objects keys.Predicates e = e
stays s keys.Objects keys.Functions e = e
stays s keys.Objects keys.Action e = e
stays s keys.Objects keys.Domain e = e
stays s keys.Objects keys.Objects e = refl
stays s keys.Objects keys.Init e = e
stays s keys.Objects keys.Goal e = e
stays s keys.Objects keys.Metric e = e
stays s keys.Init keys.Requirements e = e
stays s keys.Init keys.Types e = e
stays s keys.Init keys.Constants e = e
stays s keys.Init keys.Predicates e = e
stays s keys.Init keys.Functions e = e
stays s keys.Init keys.Action e = e
stays s keys.Init keys.Domain e = e
stays s keys.Init keys.Objects e = e
stays s keys.Init keys.Init e = refl
stays s keys.Init keys.Goal e = e
stays s keys.Init keys.Metric e = e
stays s keys.Goal keys.Requirements e = e
stays s keys.Goal keys.Types e = e
stays s keys.Goal keys.Constants e = e
stays s keys.Goal keys.Predicates e = e
stays s keys.Goal keys.Functions e = e
stays s keys.Goal keys.Action e = e
stays s keys.Goal keys.Domain e = e
stays s keys.Goal keys.Objects e = e
stays s keys.Goal keys.Init e = e
stays s keys.Goal keys.Goal e = refl
stays s keys.Goal keys.Metric e = e
stays s keys.Metric keys.Requirements e = e
stays s keys.Metric keys.Types e = e
stays s keys.Metric keys.Constants e = e
stays s keys.Metric keys.Predicates e = e
stays s keys.Metric keys.Functions e = e
stays s keys.Metric keys.Action e = e
stays s keys.Metric keys.Domain e = e
stays s keys.Metric keys.Objects e = e
stays s keys.Metric keys.Init e = e
stays s keys.Metric keys.Goal e = e
stays s keys.Metric keys.Metric e = refl

pub notes : (s : Seen) (k : SectionKeyword) → IsSingle k → has_seen (with_seen s k) k ≡ true
notes s keys.Requirements single = refl
notes s keys.Types single = refl
notes s keys.Constants single = refl
notes s keys.Predicates single = refl
notes s keys.Functions single = refl
notes s keys.Action single = absurd single
notes s keys.Domain single = refl
notes s keys.Objects single = refl
notes s keys.Init single = refl
notes s keys.Goal single = refl
notes s keys.Metric single = refl
