-- Verdicts in turn: rules follow one another by rising numbers.
use Rattle.std.proofs.Common.{◌≡◌, ◌≤◌, ℕ, Bool, true, List, [], ◌∷◌, ◌++◌, Result, Ok, Err, IfSome, refl, subst, arith, inl, inr, nat_le, MatchResult}
use Rattle.std.specs.List.{list_all}
use Rattle.std.specs.Result.{result_and}
use Rattle.std.proofs.lemmas.Bool.Decides.{nat_tests}
use Rattle.std.proofs.lemmas.Option.{IfSome_then}
use Rattle.std.proofs.lemmas.List.Elements.{Contains-append_left, Contains-append_cases}
use Rattle.pddl_task.specs.Names.{Name}
use Rattle.pddl_task.specs.Linked.{Fault, fault, Stands, IsLowest}
use Rattle.pddl_task.proofs.Lists.{all_found}
use Rattle.pddl_faults.specs.declared.fault.LinkFault.{LinkFault}
use Rattle.pddl_faults.specs.Passes.{fault_of, Passes, Verdict}
use Rattle.pddl_faults.proofs.Verdicts.{found_at}

-- what holds where nothing is found holds of what is given on then
pub given_on : {U T E : Type 0} (P : T → Type 0) (Q : E → Type 0) (r : Result U E) (x : T) → MatchResult r (λ _. P x) Q → MatchResult (result_and r (Ok x)) P Q
given_on P Q (Ok u) x h = h
given_on P Q (Err e) x h = h

-- the verdict on one fault alone
pub alone_verdict : (n : ℕ) (words : List Name) (r : Result (Unit {0}) LinkFault) → Passes n words r → Verdict (fault n words ∷ []) r
alone_verdict n words (Ok u) h = (h, tt)
alone_verdict n words (Err e) h = found_at [] n words [] e tt refl h

-- ---- stages

between : (m n k : ℕ) → nat_le m n ≡ true → nat_le n k ≡ true → m ≤ k
between m n k h l = grind (arith, nat_tests)

-- what holds of the numbers of all faults holds of that of one that stands
of_number : (test : ℕ → Bool) (fs : List Fault) (m : ℕ) (w : Name) → list_all (λ f. test f.number) fs ≡ true → Stands fs m w → test m ≡ true
of_number test fs m w all s = subst (λ k. test k ≡ true) s.2 (all_found (λ f. test f.number) fs all s.0 s.1)

lowest_first : (n : ℕ) (fs gs : List Fault) (m : ℕ) (w : Name) → list_all (λ f. nat_le f.number n) fs ≡ true → list_all (λ f. nat_le n f.number) gs ≡ true → IsLowest fs m w → IsLowest (fs ++ gs) m w
lowest_first n fs gs m w below above low = record {
  stands = (low.stands.0, Contains-append_left fs gs low.stands.0 low.stands.1, low.stands.2, low.stands.3);
  lowest = λ k v s. elim (Contains-append_cases fs gs s.0 s.1) as (λ _. m ≤ k) [
    | inl h ↦ low.lowest k v (s.0, h, s.2, s.3)
    | inr h ↦ between m n k (of_number (λ j. nat_le j n) fs m w below low.stands) (of_number (nat_le n) gs k v above (s.0, h, s.2, s.3))
  ];
}

-- what a stage answers is the verdict on all, where its numbers come first
pub stage_first : (n : ℕ) (fs gs : List Fault) (e : LinkFault) → list_all (λ f. nat_le f.number n) fs ≡ true → list_all (λ f. nat_le n f.number) gs ≡ true
    → IfSome (fault_of e) (λ f. IsLowest fs f.0 f.1) → IfSome (fault_of e) (λ f. IsLowest (fs ++ gs) f.0 f.1)
stage_first n fs gs e below above h = IfSome_then (fault_of e) h (λ f low. lowest_first n fs gs f.0 f.1 below above low)
