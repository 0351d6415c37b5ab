-- Terms and their slots, in turn.
use Rattle.std.proofs.Common.{◌≡◌, ℕ, ◌+◌, ◌<◌, ◌≤◌, Bool, true, false, not, cond, ◌&&◌, ◌||◌, List, [], ◌∷◌, length, get_or, drop, Option, Some, None, refl, ap, sym, ◌∙◌, arith, Contains, is_some, slice_get, flat_map}
use Rattle.std.proofs.lemmas.List.{drop_all}
use Rattle.std.proofs.lemmas.Option.{slice_get_within, get_or_from_slice_get}
use Rattle.pddl_formula.specs.Terms.{TermValue, name, variable}
use Rattle.pddl_formula.specs.TypedLists.{TypedValue}
use Rattle.pddl_domain.specs.Declarations.{TypeValue}
use Rattle.pddl_task.specs.Names.{Name, word_if}
use Rattle.pddl_task.specs.Types.{fits}
use Rattle.pddl_task.specs.Settings.{Setting}
use Rattle.pddl_task.specs.Faults.{typed_term, unknown_term, is_misfit, some_misfit}
use Rattle.pddl_task.proofs.Lists.{has_first}
use Rattle.pddl_faults.proofs.PutValues.{is_there}
use Rattle.pddl_faults.proofs.ListTurns.{rest_is}
use Rattle.pddl_names.specs.declared.part.LentTerm.{LentTerm}
use Rattle.pddl_names.specs.Parts.{term_in}
use Rattle.pddl_types.specs.Told.{ToldValue, IsAt}
use Rattle.pddl_types.specs.Objects.{IsAtOf}

-- ---- a term and its slot

unknown_is : (s : Setting) (b : List TypedValue) (n : Name) (is_variable : Bool)
    → let t = cond is_variable (variable n) (name n) in unknown_term s b t ≡ word_if (not (is_some (typed_term s b t))) n
unknown_is s b n false = ap (λ c. word_if (not c) n) (sym (is_there s.objects n))
unknown_is s b n true = ap (λ c. word_if (not c) n) (sym (is_there b n))

number_some : (told : ToldValue) (y : Option TypedValue) (number : Option ℕ) → IsAtOf told y number → is_some y ≡ is_some number
number_some told None None is = refl
number_some told (Some y) (Some n) is = refl
number_some told None (Some n) is = absurd is
number_some told (Some y) None is = absurd is

module _ (s : Setting) (b : List TypedValue) (t : LentTerm) (told : ToldValue) where
  -- a term is known where its type is told at a number
  pub known_term : (number : Option ℕ) → IsAtOf told (typed_term s b (term_in t)) number → unknown_term s b (term_in t) ≡ word_if (not (is_some number)) t.name.now
  known_term number is = unknown_is s b t.name.now t.is_variable ∙ ap (λ c. word_if (not c) t.name.now) (number_some told (typed_term s b (term_in t)) number is)

  -- and where there is none, its name is a fault
  pub unknown_word : IsAtOf told (typed_term s b (term_in t)) None → Contains (unknown_term s b (term_in t)) t.name.now
  unknown_word is = rw (known_term None is) (has_first t.name.now [])

-- whether it fits its slot, as it is found by the numbers of their types
pub fits_slot : (told : ToldValue) (ps : List TypeValue) (y : Option TypedValue) (x : TypedValue) (n m : ℕ) (fit : Bool) → ((of to : List Name) → IsAt told of n → IsAt told to m → fit ≡ fits ps of to)
    → IsAtOf told y (Some n) → IsAt told x.of m → is_misfit ps y x ≡ not fit
fits_slot told ps None x n m fit found is slot = absurd is
fits_slot told ps (Some y) x n m fit found is slot = ap not (sym (found y.of x.of is slot))

-- ---- terms and slots in turn

no_slots : (s : Setting) (b : List TypedValue) (ts : List TermValue) → some_misfit s b ts [] ≡ false
no_slots s b [] = refl
no_slots s b (t ∷ ts) = refl

-- a term that is in turn
module _ (s : Setting) (b : List TypedValue) (ts : List TermValue) (i : ℕ) (t : TermValue) (low : i < length ts) (at : t ≡ get_or ts i t) where
  -- it is not known
  pub unknown_here : (whole : List Name) (n : Name) → flat_map (unknown_term s b) (drop i ts) ≡ whole → unknown_term s b t ≡ n ∷ [] → Contains whole n
  unknown_here whole n left none = rw (← left, rest_is ts i t low at, none) (has_first n _)

  -- it is known, and those that are left decide
  pub known_here : (whole : List Name) → flat_map (unknown_term s b) (drop i ts) ≡ whole → unknown_term s b t ≡ [] → flat_map (unknown_term s b) (drop (i + 1) ts) ≡ whole
  known_here whole left known = rw (rest_is ts i t low at, known) at left

  module _ (xs : List TypedValue) where
    -- whether all fit so far, with it and its slot
    pub fits_here : (x : TypedValue) (f all next whole : Bool) → slice_get xs i ≡ Some x → is_misfit s.pairs (typed_term s b t) x ≡ not f → next ≡ all && f
        → (not all || some_misfit s b (drop i ts) (drop i xs)) ≡ whole → (not next || some_misfit s b (drop (i + 1) ts) (drop (i + 1) xs)) ≡ whole
    fits_here x f all next whole slot fit is left =
        grind (arith, rest_is ts i t low at, rest_is xs i x (slice_get_within xs i x slot) (sym (get_or_from_slice_get xs i x x slot)), fit, is, left)

    -- or where it has none
    pub past_here : (all whole : Bool) → length xs ≤ i → (not all || some_misfit s b (drop i ts) (drop i xs)) ≡ whole → (not all || some_misfit s b (drop (i + 1) ts) (drop (i + 1) xs)) ≡ whole
    past_here all whole past left = grind (arith, drop_all i xs past, drop_all (i + 1) xs (omega (arith, past)), no_slots s b (drop (i + 1) ts), no_slots s b (drop i ts), left)
