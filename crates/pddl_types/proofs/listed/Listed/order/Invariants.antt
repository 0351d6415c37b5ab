use Rattle.std.proofs.Common.{◌≡◌, ◌++◌, map}
use Rattle.std.specs.HashMap.{values}
use Rattle.pddl_types.specs.Told.{first_at}
use Rattle.pddl_types.proofs.listed.Listed.order.Given as goal

-- the first numbers of the types so far, and those that are left
abbrev pub invariant-loop-number : goal.invariant-loop-number
invariant-loop-number g l = l.numbers.items ++ map (λ v. first_at l.told v.1) l.number-iterator ≡ map (λ v. first_at l.told v.1) (values l.self.objects)
