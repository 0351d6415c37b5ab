use Rattle.pddl_items.specs.Items.{items_view}
use Rattle.pddl_text.proofs.TextItems as texts
use Rattle.pddl_text.proofs.TextFaults.{items_only}
use Rattle.pddl_text.proofs.texts.items_of.Goals as goal

pub returns-in-Ok-clause-only : goal.returns-in-Ok-clause-only
returns-in-Ok-clause-only g c = λ items has. texts.one_items c.args.text.now _ items c.in-Ok.ensures has

pub returns-in-Err : goal.returns-in-Err
returns-in-Err g c =
    let answer = c.reread_items in
    record {
      items = answer.ensures.items;
      only = λ items has. items_only answer.result (λ found. items_view found.items) c.args.text.now items answer.ensures.items answer.ensures.fault has;
      fault = answer.ensures.fault;
    }
