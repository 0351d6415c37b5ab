use Rattle.std.proofs.Common.{sym, ap, ◌∙◌, length}
use Rattle.pddl_plan_listing.proofs.courses.add_compiled.Goals as goal

-- the plan has as many steps as were compiled
pub add_course_in-requires-clause-count : goal.add_course_in-requires-clause-count
add_course_in-requires-clause-count g c = ap length c.in-Ok.ensures.steps ∙ sym c.len.ensures
