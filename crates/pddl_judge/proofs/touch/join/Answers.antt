use Rattle.std.proofs.lemmas.Result.{on_ok_weaker}
use Rattle.pddl_judge.proofs.touch.join.Goals as goal

pub returns-clause-own : goal.returns-clause-own
returns-clause-own g c = on_ok_weaker c.unite-3.result (λ _. (c.unite.ensures.own, c.unite-2.ensures.own, c.unite-3.ensures.own)) c.unite-3.ensures.ok

pub returns-clause-content : goal.returns-clause-content
returns-clause-content g c = on_ok_weaker c.unite-3.result (λ is i. record {
  reads = c.in_ok-unite.ensures.ok i;
  adds = c.in_ok-unite-2.ensures.ok i;
  dels = is i;
}) c.unite-3.ensures.ok
