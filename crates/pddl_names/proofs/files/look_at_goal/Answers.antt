use Rattle.std.proofs.Common.{refl, ◌∙◌}
use Rattle.pddl_formula.specs.Formulas.{formula_view}
use Rattle.pddl_task.specs.Types.{pairs}
use Rattle.pddl_task.specs.GroundSize.{capped, fitting_count, formula_size}
use Rattle.pddl_names.proofs.HeldFiles.{too_large}
use Rattle.pddl_names.proofs.files.look_at_goal.Goals as goal

pub returns-then-ground_size-gt1000000 : goal.returns-then-ground_size-gt1000000
returns-then-ground_size-gt1000000 g c =
    let h = c.requires in
    rw c.in-Some.is (
      refl,
      too_large _ c.ground_size.result (c.ground_size.ensures ∙ (λ i. capped (formula_size (fitting_count (pairs (h.typed i)) ((rw c.in-Some.is at h.listed.objects) i)) (formula_view c.in-Some.problem.now.goal))))
          c.if-ground_size-gt1000000.true,
    )
