use Rattle.std.proofs.Common.{[], List, refl, sym, subst}
use Rattle.pddl_text.specs.StandsFor.{StandsFor}
use Rattle.pddl_token.specs.Spelling.{PlacedWord}
use Rattle.pddl_plan_reader.proofs.RestRead.{nothing_read}
use Rattle.pddl_plan_reader.proofs.plan_reader.PlanReader+ref+B.new.Goals as goal

pub returns : goal.returns
returns g c = record {
  done = [];
  going = refl;
  lexed = subst (λ (ws : List PlacedWord). StandsFor c.new.result [] ws) (sym c.new-4.ensures) c.new.ensures;
  reads = nothing_read c.new-3.result c.new-4.result c.new-3.ensures c.new-4.ensures;
}
