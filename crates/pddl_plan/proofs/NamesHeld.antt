-- Names in a text, when a word is added.
use Rattle.std.proofs.Common.{◌≡◌, ◌<◌, ◌≤◌, ℕ, ◌+◌, List, [], ◌∷◌, ◌++◌, Bool, true, false, IsTrue, length, drop, take, refl, sym, ap, subst, ◌∙◌, arith, rules}
use Rattle.std.specs.Prelude.{Result, Ok, Err, OnErr, slice_range, slice_index}
use Rattle.std.specs.List.{list_all}
use Rattle.std.proofs.lemmas.List.{length-append, length-take-le}
use Rattle.std.proofs.Math.Seq.{drop-append_seam}
use Rattle.pddl_token.specs.Names.{folded, is_name, name_of}
use Rattle.pddl_plan.specs.Cuts.{cut, last_end, Rises, start_of}
use Rattle.pddl_plan.specs.NameLists.{AreNamesIn, AddsName}
use Rattle.pddl_plan.proofs.CutLists.{last_end_pushed, rises_pushed, last_is, cut_kept, cut_taken, cut_pushed, added}

pub on_err : {T E : Type 0} (P : Type 0) (r : Result T E) → P → OnErr r P
on_err P (Ok t) p = tt
on_err P (Err e) p = p

-- the place behind the last part, as the code finds it
pub start_is : (ends seen : List ℕ) (start count : ℕ) → start ≡ start_of seen count → seen ≡ ends → count ≡ length ends → start ≡ last_end 0 ends
start_is ends seen start count is same len =
    is ∙ ap (λ (es : List ℕ). slice_index (0 ∷ es) count) same ∙ ap (λ (n : ℕ). slice_index (0 ∷ ends) n) len ∙ last_is 0 ends

all_pushed : (names : List (List ℕ)) (name : List ℕ) → IsTrue (list_all is_name names) → IsTrue (is_name name) → IsTrue (list_all is_name (names ++ name ∷ []))
all_pushed [] name all is = rw is refl
all_pushed (n ∷ names) name all is =
    let both : IsTrue (is_name n) × IsTrue (list_all is_name names) = search (all, rules) in
    rw (both.0, all_pushed names name both.1 is) refl

some_name : (name : List ℕ) → IsTrue (is_name name) → 0 < length name
some_name [] is = absurd (cc (is))
some_name (b ∷ name) is = omega (arith)

module _ (text ends : List ℕ) (held : AreNamesIn text ends) (start : ℕ) (start_last : start ≡ last_end 0 ends) where
  cut_len : length (take start text) ≡ start
  cut_len = length-take-le start text (omega (arith, start_last, held.within))

  -- bytes behind the last name change no name
  module _ (new more : List ℕ) (new_is : new ≡ take start text ++ more) where
    pub start_within : start ≤ length new
    start_within = omega (arith, ap length new_is, length-append (take start text) more, cut_len)

    -- the bytes that stand behind it
    pub bytes_behind : (seen all : List ℕ) → seen ≡ drop start all → all ≡ new → seen ≡ more
    bytes_behind seen all is are =
        is ∙ ap (drop start) (are ∙ new_is) ∙ ap (λ (n : ℕ). drop n (take start text ++ more)) (sym cut_len) ∙ drop-append_seam (take start text) more

    pub same_names : cut new 0 ends ≡ cut text 0 ends
    same_names =
        ap (λ (t : List ℕ). cut t 0 ends) new_is
        ∙ cut_kept (take start text) more 0 ends held.rises (omega (arith, start_last, cut_len))
        ∙ cut_taken text start 0 ends held.rises (omega (arith, start_last, cut_len))

    pub still_held : AreNamesIn new ends
    still_held = record {
      rises = held.rises;
      within = omega (arith, start_last, start_within);
      short = held.short;
      named = subst (λ (ns : List (List ℕ)). IsTrue (list_all is_name ns)) (sym same_names) held.named;
    }

    -- they are a name, and its end is noted
    module _ (is : IsTrue (is_name more)) (end : ℕ) (end_is : end ≡ length new) (short : end ≤ 4294967295) (longer : List ℕ) (longer_is : longer ≡ ends ++ end ∷ []) where
      new_len : end ≡ start + length more
      new_len = omega (arith, end_is, ap length new_is, length-append (take start text) more, cut_len)

      pub names_more : cut new 0 longer ≡ cut text 0 ends ++ more ∷ []
      names_more =
          let last : slice_range new (last_end 0 ends) end ≡ more =
          ap (λ (t : List ℕ). slice_range t (last_end 0 ends) end) new_is
          ∙ added (take start text) more (last_end 0 ends) end (sym start_last ∙ sym cut_len) (end_is ∙ ap length new_is) in
          ap (λ (es : List ℕ). cut new 0 es) longer_is ∙ cut_pushed new 0 ends end
          ∙ ap (λ (ns : List (List ℕ)). ns ++ slice_range new (last_end 0 ends) end ∷ []) same_names
          ∙ ap (λ (n : List ℕ). cut text 0 ends ++ n ∷ []) last

      pub held_more : AreNamesIn new longer
      held_more = record {
        rises = subst (Rises 0) (sym longer_is) (rises_pushed 0 ends end held.rises (omega (arith, start_last, new_len, some_name more is)));
        within = omega (arith, ap (last_end 0) longer_is, last_end_pushed 0 ends end, end_is);
        short = omega (arith, ap (last_end 0) longer_is, last_end_pushed 0 ends end, short);
        named = subst (λ (ns : List (List ℕ)). IsTrue (list_all is_name ns)) (sym names_more) (all_pushed (cut text 0 ends) more held.named is);
      }

-- ---- what is answered

pub not_added : (word seen : List ℕ) (test : Bool) (old new : List (List ℕ)) → seen ≡ folded word → test ≡ is_name seen → test ≡ false → new ≡ old → AddsName false (name_of word) old new
not_added word seen test old new are is fails same =
    let none : is_name (folded word) ≡ false = ap is_name (sym are) ∙ sym is ∙ fails in
    rw none same

pub name_added : (word : List ℕ) (old new : List (List ℕ)) → IsTrue (is_name (folded word)) → new ≡ old ++ folded word ∷ [] → AddsName true (name_of word) old new
name_added word old new is same = rw is same
