use Rattle.pddl_text.proofs.Stacks.{first_opened}
use Rattle.pddl_text.proofs.nesting.OpenLists+ref+B.into_items.Goals as goal

pub returns-clause-unclosed : goal.returns-clause-unclosed
returns-clause-unclosed g c =
    let some = rw c.deref.ensures.value at c.in-Some.ensures.item.3.0 in
    let first = rw c.deref.ensures.value at c.in-Some.ensures.item.1 in
    first_opened c.args.self.opened.items c.args.self.items.items c.in-Some.list.now some first
