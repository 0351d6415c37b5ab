-- The atom that is named of a clash (own).
use Rattle.std.specs.Prelude.{◌≡◌, true}
use Rattle.std.specs.Ordering.{is_le}
use Rattle.pddl_problem.specs.Inits.{GroundValue}
use Rattle.pddl_task.specs.Tasks.{TaskValue}
use Rattle.pddl_state.specs.Atoms.{AtomValue, atom_cmp}
use Rattle.pddl_meaning.specs.Worlds.{Atoms}
use Rattle.pddl_plan_steps.specs.NumberedSteps.{number_of}

-- The numbers are those of an atom of a set, and of no atom of it do they come later, by predicate in declared order and then by arguments in the order
-- of objects.
pub record NamesLeast (task : TaskValue) (x : AtomValue) (s : Atoms) : Type 0 where
  pub atom : GroundValue
  pub number_is : x ≡ number_of task atom
  pub is_in : s atom ≡ true
  pub least : (g : GroundValue) → s g ≡ true → is_le (atom_cmp x (number_of task g)) ≡ true
