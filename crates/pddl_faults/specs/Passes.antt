-- What is answered by a pass that looks for one fault, and by several in the order of their numbers (own).
use Rattle.std.specs.Prelude.{◌≡◌, ℕ, List, [], Contains, Option, Some, None, Result, MatchResult, IfSome}
use Rattle.pddl_task.specs.Names.{Name}
use Rattle.pddl_task.specs.Linked.{Fault, NoneStands, IsLowest}
use Rattle.pddl_faults.specs.declared.fault.LinkFault.{LinkFault}
use Rattle.pddl_faults.specs.declared.fault.LinkFault.TheVariants as link

-- a fault's number and its word; a fault without a word has the empty name
abbrev pub fault_of : LinkFault → Option (ℕ × Name)
fault_of link.Memory = None
fault_of (link.DomainName w) = Some (20, w.now)
fault_of (link.TypeTwice w) = Some (21, w.now)
fault_of (link.TypeCycle w) = Some (22, w.now)
fault_of (link.UnknownType w) = Some (23, w.now)
fault_of (link.NameTwice w) = Some (24, w.now)
fault_of (link.ObjectTypes w) = Some (25, w.now)
fault_of (link.UnknownName w) = Some (26, w.now)
fault_of (link.Arity w) = Some (27, w.now)
fault_of (link.ArgumentType w) = Some (28, w.now)
fault_of (link.InitContradiction w) = Some (29, w.now)
fault_of (link.FractionalCost w) = Some (30, w.now)
fault_of (link.CostValue w) = Some (31, w.now)
fault_of (link.ObjectFluent w) = Some (32, w.now)
fault_of link.Metric = Some (33, [])
fault_of link.GoalTooLarge = Some (35, [])

-- a pass for the fault of this number finds none, or one of its words
abbrev pub Passes : {T : Type 0} → ℕ → List Name → Result T LinkFault → Type 0
Passes n words r = MatchResult r (λ _. words ≡ []) (λ e. IfSome (fault_of e) (λ f. (f.0 ≡ n) × Contains words f.1))

-- none of the faults stands, or the lowest of those that do is answered, with one of its words
abbrev pub Verdict : {T : Type 0} → List Fault → Result T LinkFault → Type 0
Verdict fs r = MatchResult r (λ _. NoneStands fs) (λ e. IfSome (fault_of e) (λ f. IsLowest fs f.0 f.1))
