use Rattle.std.proofs.Common.{reverse, refl, arith}
use Rattle.std.proofs.lemmas.List.{length-reverse}
use Rattle.pddl_text.proofs.Stacks.{open_next, stack_length}
use Rattle.pddl_text.proofs.nesting.OpenLists+ref+B.open.Goals as goal

pub returns-then-len-ge-DEEPEST-clause-refused : goal.returns-then-len-ge-DEEPEST-clause-refused
returns-then-len-ge-DEEPEST-clause-refused g c =
    let before = c.args.self.now in
    (c.requires, omega (arith, stack_length (reverse before.opened.items) before.items.items, length-reverse before.opened.items, before.opened.ok.0), refl)

pub returns-clause-next : goal.returns-clause-next
returns-clause-next g c =
    let before = c.args.self.now in
    open_next before.opened.items c.push.new.self.items before.items.items _ _ c.requires (omega (arith, before.opened.ok.0)) c.in_ok-push.ensures.items (omega (arith, before.items.ok.0)) refl
