-- What every plan in making is.
use Rattle.std.specs.Prelude.{◌≡◌, ◌⊎◌, [], length, IsTrue}
use Rattle.pddl_plan.specs.Building.{Building}
use Rattle.pddl_plan.specs.Plans.{is_plan, built_plan}

-- none of its steps has a moment, or each has one; and it is a plan
pub record IsBuilt (b : Building) : Type 0 where
  pub kinds : (b.moments ≡ []) ⊎ (length b.moments ≡ length b.steps)
  pub plan : IsTrue (is_plan (built_plan b))
