use Rattle.std.proofs.Common.{sym, subst, arith}
use Rattle.std.proofs.lemmas.Result.{err_from_is_err_and}
use Rattle.pddl_items.specs.Items.{items_view}
use Rattle.pddl_text.specs.Inner.Nesting.{nest_of}
use Rattle.pddl_text.proofs.Nests.{StandsAt, nothing_read, stands_on, refused_stands, refused_only, ends_only, ends_fault}
use Rattle.pddl_text.proofs.Stacks.{view_take, view_split, view_all}
use Rattle.pddl_text.proofs.nesting.lists.Goals as goal

pub loop-token-init : goal.loop-token-init
loop-token-init g c = rw c.new-open.ensures nothing_read

pub loop-token-preserved : goal.loop-token-preserved
loop-token-preserved g c =
    let l = c.loop-token in
    let after = c.add.new.self in
    subst (λ words. StandsAt words (nest_of after.opened.items after.items.items)) (sym (view_take c.args.tokens.now l.token-index _ (omega arith)))
    (stands_on _ (nest_of l.open.opened.items l.open.items.items) (nest_of after.opened.items after.items.items) _ l.invariant c.in_ok-add.ensures.next)

pub returns-in_err-add-clause-fault : goal.returns-in_err-add-clause-fault
returns-in_err-add-clause-fault g c =
    let l = c.loop-token in
    let p = err_from_is_err_and c.from_residual.result c.from_residual.ensures.1 in
    rw (p.1, p.2) (refused_stands _ _ _ _ _ _ l.invariant (view_split c.args.tokens.now l.token-index _ (omega arith)) c.in_err-add.ensures.refused)

pub returns-in_err-add-clause-only : goal.returns-in_err-add-clause-only
returns-in_err-add-clause-only g c = λ trees form.
    let l = c.loop-token in
    let p = err_from_is_err_and c.from_residual.result c.from_residual.ensures.1 in
    rw (p.1, p.2) (refused_only _ _ _ _ _ _ _ l.invariant (view_split c.args.tokens.now l.token-index _ (omega arith)) c.in_err-add.ensures.refused form)

pub returns-clause-only : goal.returns-clause-only
returns-clause-only g c = λ trees form.
    let l = c.loop-token in
    let stands = subst (λ words. StandsAt words (nest_of l.open.opened.items l.open.items.items)) (view_all c.args.tokens.now l.token-index (omega arith)) l.invariant in
    ends_only c.into_items.result (λ items. items_view items.items) _ _ trees stands c.into_items.ensures.items c.into_items.ensures.unclosed form

pub returns-clause-fault : goal.returns-clause-fault
returns-clause-fault g c =
    let l = c.loop-token in
    let stands = subst (λ words. StandsAt words (nest_of l.open.opened.items l.open.items.items)) (view_all c.args.tokens.now l.token-index (omega arith)) l.invariant in
    ends_fault c.into_items.result _ _ stands c.into_items.ensures.unclosed
