-- What a list's head is, by the words of the grammar.
use Rattle.std.proofs.Common.{◌≡◌, ◌≢◌, ℕ, false, List, refl, ap, subst, ◌∙◌, codes}
use Rattle.std.proofs.lemmas.Bool.{cond_both}
use Rattle.std.specs.Str.{bytes_eq}
use Rattle.pddl_token.specs.declared.token.TokenKind.{TokenKind}
use Rattle.pddl_token.specs.declared.token.TokenKind.TheVariants.{Open, Close, Name, Variable, Keyword, Number, Dash, Equal, Colon, Bracket, Compare, Arithmetic}
use Rattle.pddl_token.specs.Spelling.{Word}
use Rattle.pddl_token.specs.Trees.{Tree, leaf, node}
use Rattle.pddl_token.specs.Names.{folded}
use Rattle.pddl_token.specs.TreeWords.{IsWord, IsEqualSign, IsNoneOf}
use Rattle.pddl_items.proofs.Readers.{same_bytes, equal_bytes, other_bytes}
use Rattle.pddl_formula.specs.Reserved.{reserved}
use Rattle.pddl_formula_reader.specs.Inner.Reading.{word_head, head_by, head_at}
use Rattle.pddl_formula_reader.specs.declared.head.Head.{Head}
use Rattle.pddl_formula_reader.specs.declared.head.Head.TheVariants as heads

-- the word of each head
abbrev HasHead : Head → List ℕ → Type 0
HasHead heads.And n = n ≡ codes "and"
HasHead heads.Or n = n ≡ codes "or"
HasHead heads.Not n = n ≡ codes "not"
HasHead heads.Imply n = n ≡ codes "imply"
HasHead heads.Exists n = n ≡ codes "exists"
HasHead heads.Forall n = n ≡ codes "forall"
HasHead heads.When n = n ≡ codes "when"
HasHead heads.Increase n = n ≡ codes "increase"
HasHead heads.Name n = IsNoneOf reserved n
HasHead heads.Equal n = ⊥
HasHead heads.Nothing n = ⊥

differs : (n word : List ℕ) → bytes_eq n word ≡ false → n ≢ word
differs n word fails is = let yes = equal_bytes n word is in cc

word_head_is : (n : List ℕ) → HasHead (word_head n) n
word_head_is n =
    let P : Head → Type 0 = λ k. HasHead k n in
    cond_both (bytes_eq n (codes "and")) _ _ P (same_bytes n (codes "and"))
    (λ e1. cond_both (bytes_eq n (codes "or")) _ _ P (same_bytes n (codes "or"))
    (λ e2. cond_both (bytes_eq n (codes "not")) _ _ P (same_bytes n (codes "not"))
    (λ e3. cond_both (bytes_eq n (codes "imply")) _ _ P (same_bytes n (codes "imply"))
    (λ e4. cond_both (bytes_eq n (codes "exists")) _ _ P (same_bytes n (codes "exists"))
    (λ e5. cond_both (bytes_eq n (codes "forall")) _ _ P (same_bytes n (codes "forall"))
    (λ e6. cond_both (bytes_eq n (codes "when")) _ _ P (same_bytes n (codes "when"))
    (λ e7. cond_both (bytes_eq n (codes "increase")) _ _ P (same_bytes n (codes "increase"))
    (λ e8. (differs n _ e1, (differs n _ e2, (differs n _ e3, (differs n _ e4, (differs n _ e5, (differs n _ e6, (differs n _ e7, (differs n _ e8, tt))))))))
    ))))))))

-- what a tree is that heads a list so
abbrev pub HeadIs : Head → Tree → Type 0
HeadIs heads.And t = IsWord (codes "and") t
HeadIs heads.Or t = IsWord (codes "or") t
HeadIs heads.Not t = IsWord (codes "not") t
HeadIs heads.Imply t = IsWord (codes "imply") t
HeadIs heads.Exists t = IsWord (codes "exists") t
HeadIs heads.Forall t = IsWord (codes "forall") t
HeadIs heads.When t = IsWord (codes "when") t
HeadIs heads.Increase t = IsWord (codes "increase") t
HeadIs heads.Name t = (n : List ℕ) × IsWord n t × IsNoneOf reserved n
HeadIs heads.Equal t = IsEqualSign t
HeadIs heads.Nothing t = Unit {0}

head_of_name : (k : Head) (w : Word) → w.kind ≡ Name → HasHead k (folded w.text) → HeadIs k (leaf w)
head_of_name heads.And w kind is = (kind, is)
head_of_name heads.Or w kind is = (kind, is)
head_of_name heads.Not w kind is = (kind, is)
head_of_name heads.Imply w kind is = (kind, is)
head_of_name heads.Exists w kind is = (kind, is)
head_of_name heads.Forall w kind is = (kind, is)
head_of_name heads.When w kind is = (kind, is)
head_of_name heads.Increase w kind is = (kind, is)
head_of_name heads.Name w kind is = (folded w.text, (kind, refl), is)
head_of_name heads.Equal w kind is = absurd is
head_of_name heads.Nothing w kind is = tt

head_by_sound : (w : Word) (kind : TokenKind) → w.kind ≡ kind → HeadIs (head_by kind w.text) (leaf w)
head_by_sound w Name is = head_of_name (word_head (folded w.text)) w is (word_head_is (folded w.text))
head_by_sound w Equal is = is
head_by_sound w Variable is = tt
head_by_sound w Open is = tt
head_by_sound w Close is = tt
head_by_sound w Keyword is = tt
head_by_sound w Number is = tt
head_by_sound w Dash is = tt
head_by_sound w Colon is = tt
head_by_sound w Bracket is = tt
head_by_sound w Compare is = tt
head_by_sound w Arithmetic is = tt

pub head_sound : (t : Tree) → HeadIs (head_at t) t
head_sound (leaf w) = head_by_sound w w.kind refl
head_sound (node ts) = tt

pub head_of_word : (word : List ℕ) (t : Tree) → IsWord word t → head_at t ≡ word_head word
head_of_word word (leaf w) (kind, is) = ap (λ k. head_by k w.text) kind ∙ ap word_head is
head_of_word word (node ts) none = absurd none

pub equal_head : (t : Tree) → head_at t ≡ heads.Equal → IsEqualSign t
equal_head t is = subst (λ k. HeadIs k t) is (head_sound t)

pub head_of_equal : (t : Tree) → IsEqualSign t → head_at t ≡ heads.Equal
head_of_equal (leaf w) kind = ap (λ k. head_by k w.text) kind
head_of_equal (node ts) none = absurd none

pub head_of_other : (n : List ℕ) (t : Tree) → IsWord n t → IsNoneOf reserved n → head_at t ≡ heads.Name
head_of_other n t word (n1, (n2, (n3, (n4, (n5, (n6, (n7, (n8, end)))))))) =
    head_of_word n t word
    ∙ rw (other_bytes n _ n1, other_bytes n _ n2, other_bytes n _ n3, other_bytes n _ n4, other_bytes n _ n5, other_bytes n _ n6, other_bytes n _ n7, other_bytes n _ n8) refl
