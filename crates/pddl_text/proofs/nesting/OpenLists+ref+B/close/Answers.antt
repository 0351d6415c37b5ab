use Rattle.std.proofs.Common.{◌≡◌, reverse, length, ap, arith}
use Rattle.pddl_text.proofs.Stacks.{close_next, begin_popped, begin_more}
use Rattle.pddl_text.proofs.nesting.OpenLists+ref+B.close.Goals as goal

pub invariant_of-self-in-Break-1 : goal.invariant_of-self-in-Break-1
invariant_of-self-in-Break-1 g c =
    let before = c.args.self.now in
    let popped = begin_popped before.opened.items c.pop.new.self.items c.in-Some.list (length before.items.items) before.begin_within c.in-Some.ensures.items in
    let same : length c.split_off.new.self.items ≡ length before.items.items = ap (λ v. length v.items) c.in_err-inner.ensures.err in
    record { begin_within = begin_more (reverse c.pop.new.self.items) c.in-Some.list.begins (length c.split_off.new.self.items) popped.1 (omega (arith, popped.0)) }

pub invariant_of-self-2 : goal.invariant_of-self-2
invariant_of-self-2 g c =
    let before = c.args.self.now in
    let popped = begin_popped before.opened.items c.pop.new.self.items c.in-Some.list (length before.items.items) before.begin_within c.in-Some.ensures.items in
    record { begin_within = begin_more (reverse c.pop.new.self.items) c.in-Some.list.begins (length c.push.new.self.items) popped.1 (omega (arith, c.in_ok-inner.ensures.len, c.push.ensures.lower_bound, c.push.new.self.ok.0)) }

pub returns-clause-next : goal.returns-clause-next
returns-clause-next g c =
    let before = c.args.self.now in
    close_next before.opened.items c.pop.new.self.items before.items.items c.split_off.new.self.items c.push.new.self.items c.in-Some.list _ _ c.requires before.begin_within c.in-Some.ensures.items
    c.in_ok-inner.ensures.items c.in_ok-inner.ensures.tail c.in_ok-push.ensures.items
