use Rattle.std.proofs.Common.{sym}
use Rattle.pddl_token.proofs.Values.{nine_inside, nine_outside}
use Rattle.pddl_token.proofs.number.decimal_at.Goals as goal

pub returns-then-place-decimals : goal.returns-then-place-decimals
returns-then-place-decimals c = sym (nine_inside c.args.decimals.now c.args.place c.requires c.if-place-decimals.true)

pub returns-else-place-decimals : goal.returns-else-place-decimals
returns-else-place-decimals c = sym (nine_outside c.args.decimals.now c.args.place c.requires c.if-place-decimals.false)
