-- What a file can hold.
use Rattle.std.specs.Prelude.{ℕ, List, codes}
use Rattle.pddl_kind.specs.declared.Kind.{Kind}
use Rattle.pddl_kind.specs.declared.Kind.TheVariants.{Domain, Problem, Plan}

-- what a file of the kind is called
abbrev pub kind_word : Kind → List ℕ
kind_word Domain = codes "domain"
kind_word Problem = codes "problem"
kind_word Plan = codes "plan"
