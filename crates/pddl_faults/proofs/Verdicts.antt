-- Passes in the order of their faults' numbers find the lowest fault.
use Rattle.std.proofs.Common.{◌≡◌, ℕ, true, List, [], ◌∷◌, ◌++◌, Result, Ok, Err, arith, nat_le}
use Rattle.std.specs.List.{list_all}
use Rattle.std.proofs.lemmas.Option.{IfSome_then}
use Rattle.std.proofs.lemmas.Bool.Decides.{nat_tests}
use Rattle.pddl_task.specs.Names.{Name}
use Rattle.pddl_task.specs.Linked.{Fault, fault, NoneStands, IsLowest}
use Rattle.pddl_task.proofs.Lists.{all_found, has_none}
use Rattle.pddl_task.proofs.LowestFault.{lowest_later, first_is_lowest}
use Rattle.pddl_faults.specs.declared.fault.LinkFault.{LinkFault}
use Rattle.pddl_faults.specs.Passes.{fault_of, Passes, Verdict}

-- the faults of a list have numbers from this one on
abbrev pub From : ℕ → List Fault → Type 0
From n fs = list_all (λ f. nat_le n f.number) fs ≡ true

-- where none of the first faults stands, and none of those after them, none does
pub none_behind : (before fs : List Fault) → NoneStands before → NoneStands fs → NoneStands (before ++ fs)
none_behind [] fs none more = more
none_behind (f ∷ before) fs none more = (none.0, none_behind before fs none.1 more)

-- Where no fault before it stands, what a pass finds is the lowest
pub found_at : (before : List Fault) (n : ℕ) (words : List Name) (after : List Fault) (e : LinkFault) → NoneStands before → From n after
    → Passes {T = Unit {0}} n words (Err e) → Verdict {T = Unit {0}} (before ++ fault n words ∷ after) (Err e)
found_at before n words after e none from h =
    IfSome_then (fault_of e) h
    (λ f here. rw here.0 (first_is_lowest before (fault n words) after f.1 none here.1 (λ g c. grind (arith, nat_tests, all_found (λ k. nat_le n k.number) after from g c))))

lowest_after : (before fs : List Fault) (m : ℕ) (w : Name) → NoneStands before → IsLowest fs m w → IsLowest (before ++ fs) m w
lowest_after [] fs m w none low = low
lowest_after (f ∷ before) fs m w none low = lowest_later f (before ++ fs) m w (lowest_after before fs m w none.1 low) (λ v c. absurd (has_none v (rw none.0 at c)))

-- where no fault before them stands, the faults that are left decide
pub decided_after : {T : Type 0} (before fs : List Fault) (r : Result T LinkFault) → NoneStands before → Verdict fs r → Verdict (before ++ fs) r
decided_after before fs (Ok u) none h = none_behind before fs none h
decided_after before fs (Err e) none h = IfSome_then (fault_of e) h (λ f low. lowest_after before fs f.0 f.1 none low)
