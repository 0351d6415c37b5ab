-- What is looked for in two parts, one after the other.
use Rattle.std.proofs.Common.{◌≡◌, ℕ, List, ◌++◌, Err}
use Rattle.std.proofs.lemmas.Option.{IfSome_then}
use Rattle.std.proofs.lemmas.List.Elements.{Contains-append_left}
use Rattle.pddl_task.specs.Names.{Name}
use Rattle.pddl_faults.specs.declared.fault.LinkFault.{LinkFault}
use Rattle.pddl_faults.specs.Passes.{fault_of, Passes}

-- a word of the first part is one of the whole
pub pass_front : (n : ℕ) (xs ys whole : List Name) (e : LinkFault) → whole ≡ xs ++ ys → Passes {T = Unit {0}} n xs (Err e) → Passes {T = Unit {0}} n whole (Err e)
pass_front n xs ys whole e is h = rw is (IfSome_then (fault_of e) h (λ f here. (here.0, Contains-append_left xs ys f.1 here.1)))
