-- A file that was opened, or standard input.
use Rattle.std.specs.Prelude.{ℕ, List, Option}
use Rattle.pddlcheck.specs.declared.input.Opened.{Opened}
use Rattle.pddlcheck.specs.declared.input.Opened.TheVariants.{File, Standard}

-- the bytes that are left to read: those of the one that it is
abbrev pub remaining_of : {F I : Type 0} → (F → Option (List ℕ)) → (I → Option (List ℕ)) → Opened F I → Option (List ℕ)
remaining_of of_file of_input (File file) = of_file file
remaining_of of_file of_input (Standard input) = of_input input
