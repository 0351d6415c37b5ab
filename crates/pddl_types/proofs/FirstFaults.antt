-- The fault of the first name that does not stand alone, of names that are gone through.
use Rattle.std.proofs.Common.{◌≡◌, List, [], ◌++◌, Result, Ok, Err, MatchResult, sym, ◌∙◌}
use Rattle.std.specs.Result.{result_and}
use Rattle.pddl_task.specs.Names.{Name}
use Rattle.pddl_faults.specs.declared.fault.LinkFault.{LinkFault}
use Rattle.pddl_faults.specs.Passes.{Passes}
use Rattle.pddl_faults.specs.Found.{IsFound, numbered}
use Rattle.pddl_faults.proofs.FoundFaults.{passed_found}
use Rattle.pddl_faults.proofs.PassedParts.{pass_front}

-- no name is found yet, and those of the whole are those of what is left, or one is
pub record IsFirst (left whole : List Name) (r : Result (Unit {0}) LinkFault) : Type 0 where
  pub so_far : MatchResult r (λ _. left ≡ whole) (λ e. Passes {T = Unit {0}} 24 whole (Err e))

-- a part more
pub first_more : {left rest whole : List Name} {r both : Result (Unit {0}) LinkFault} (part : List Name) (next : Result (Unit {0}) LinkFault) → both ≡ result_and r next
    → left ≡ part ++ rest → Passes 24 part next → IsFirst left whole r → IsFirst rest whole both
first_more {r = Err e} part next same is own before = rw same (record { so_far = before.so_far })
first_more {r = Ok u} part (Ok v) same is own before = rw same (record { so_far = rw own at (sym is) ∙ before.so_far })
first_more {rest = rest} {whole} {r = Ok u} part (Err e) same is own before = rw same (record { so_far = pass_front 24 part rest whole e (sym before.so_far ∙ is) own })

-- nothing is left
pub first_all : {left whole : List Name} {r : Result (Unit {0}) LinkFault} → left ≡ [] → IsFirst left whole r → IsFound (numbered 24 whole) r
first_all {whole = whole} {r = Ok u} none h = passed_found {T = Unit {0}} 24 whole (Ok u) (sym h.so_far ∙ none)
first_all {whole = whole} {r = Err e} none h = passed_found {T = Unit {0}} 24 whole (Err e) h.so_far
